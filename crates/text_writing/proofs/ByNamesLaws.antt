-- The fields of a declaration by the names of the types and value types are those of the diagram.
-- Assumes nothing.
use Prim.Native.Nat.{◌-◌, ◌≤◌, ℕ}
use native.Mathlib.Omega.{arith}
use mathlib.Core.Bool.{Bool, cond, false, true}
use mathlib.Core.List.{List, []}
use mathlib.Core.Path.{◌∙◌, ◌≡◌, ap, ap₂, subst, sym}
use lib.Dec.{eqb}
use lib.ListN.{get_or, length}
use Rattle.laws.specs.Lists.{joined, picked}
use Rattle.laws.proofs.JoinedLaws.{joined-ext}
use Rattle.files.specs.Diagram.{End}
use Rattle.files.specs.DiagramBytes.{association_bytes, attribute_bytes, type_bytes, value_type_bytes}
use Rattle.files.specs.Field.{field}
use Rattle.files.specs.Name.{Name}
use Rattle.texts.specs.Declaration.{Declaration, DeclaredEnd, declaration_at, is_association, is_enumeration, is_type}
use Rattle.texts.specs.Declared.{attribute_of, end_in, parent_names, parents_of, type_index, types_before}
use Rattle.texts.specs.TextChecks.{names_of_kind}
use Rattle.texts.proofs.ParentLaws.{parents-few}
use Rattle.text_checks.specs.ValueNames.{value_names}
use Rattle.text_fields.specs.Fields.{association_by, attribute_field, end_by, enumeration_of, parents_by, place_in, type_by}
use Rattle.text_writing.specs.Pieces.{association_piece, attributes_piece, enumeration_piece, type_piece}
use Rattle.text_writing.proofs.PlaceLaws.{place-type, place-value}

-- a field where a test holds, else nothing
there : {b : Bool} {xs : List ℕ} → b ≡ true → xs ≡ cond b xs []
there {xs = xs} t = ap (λ (a : Bool). cond a xs []) (sym t)

elsewhere : {b : Bool} (xs : List ℕ) → b ≡ false → [] ≡ cond b xs []
elsewhere xs t = ap (λ (a : Bool). cond a xs []) (sym t)

-- ---- of declaration k, which is d

module _ (ds : List Declaration) (k : ℕ) {d : Declaration} (i : d ≡ declaration_at ds k) where
  pub enumeration-field : is_enumeration (declaration_at ds k) ≡ true → field 0x20 (value_type_bytes (enumeration_of d)) ≡ enumeration_piece ds k
  unfolding enumeration_piece
  enumeration-field t = ap (λ (x : Declaration). field 0x20 (value_type_bytes (enumeration_of x))) i ∙ there t

  module _ (types : List Name) (e : types ≡ names_of_kind is_type ds) where
    place-by : (w : Name) → place_in types w ≡ type_index ds w
    place-by w = ap (λ (ns : List Name). place_in ns w) e ∙ place-type ds w

    parents-by : {own : ℕ} → own ≡ types_before ds k → parents_by types own d ≡ parents_of ds k
    unfolding parents_by parents_of
    parents-by q =
        let ws = parent_names (declaration_at ds k) in
        ap₂ (parents_by types) q i
        ∙ ap (λ (place : Name → ℕ). joined (λ j. picked (λ i. eqb (place (get_or ws i [])) j) (λ i. j) (length ws)) (types_before ds k)) (λ i w. place-by w i)

    pub parents-most : {own : ℕ} → own ≡ types_before ds k → length (parents_by types own d) ≤ length (parent_names (declaration_at ds k))
    parents-most q = subst (λ (ps : List ℕ). length ps ≤ length (parent_names (declaration_at ds k))) (sym (parents-by q)) (parents-few ds k)

    pub type-field : {own : ℕ} → own ≡ types_before ds k → is_type (declaration_at ds k) ≡ true → field 0x30 (type_bytes (type_by types own d)) ≡ type_piece ds k
    unfolding type_piece
    type-field q t =
        ap₂ (λ (x : Declaration) (ps : List ℕ). field 0x30 (type_bytes (record { kind = x.what; name = x.name; parents = ps }))) i (parents-by q)
        ∙ there t

    end-by : (x : DeclaredEnd) → end_by types x ≡ end_in ds x
    unfolding end_in
    end-by x = ap (λ (n : ℕ). record { type = n; limits = x.limits; role = x.role }) (place-by x.type)

    pub association-field : is_association (declaration_at ds k) ≡ true → field 0x50 (association_bytes 2 (association_by types d)) ≡ association_piece ds k
    unfolding association_piece
    association-field t =
        let x = declaration_at ds k in
        ap (λ (x : Declaration). field 0x50 (association_bytes 2 (association_by types x))) i
        ∙ ap₂ (λ (l r : End). field 0x50 (association_bytes 2 (record { form = x.what - 5; arrow = x.arrow; left = l; right = r }))) (end-by x.left_end) (end-by x.right_end)
        ∙ there t

  module _ (values : List Name) (e : values ≡ value_names ds) where
    pub attribute-fields : {own : ℕ} → own ≡ types_before ds k → joined (attribute_field values own d) (length d.attribute_types) ≡ attributes_piece ds k
    unfolding attributes_piece attribute_field
    attribute-fields q =
        let x = declaration_at ds k in
        ap₂ (λ (own : ℕ) (x : Declaration). joined (attribute_field values own x) (length x.attribute_types)) q i
        ∙ joined-ext _ _ (length x.attribute_types) (λ j l.
        ap (λ (v : ℕ). field 0x40 (attribute_bytes (record { owner = types_before ds k; name = get_or x.attribute_names j []; value_type = v })))
        (ap (λ (ns : List Name). place_in ns (get_or x.attribute_types j [])) e ∙ place-value ds (get_or x.attribute_types j [])))

-- ---- nothing

module _ (ds : List Declaration) (k : ℕ) where
  pub enumeration-none : is_enumeration (declaration_at ds k) ≡ false → [] ≡ enumeration_piece ds k
  unfolding enumeration_piece
  enumeration-none t = elsewhere _ t

  pub type-none : is_type (declaration_at ds k) ≡ false → [] ≡ type_piece ds k
  unfolding type_piece
  type-none t = elsewhere _ t

  pub attributes-none : {count : ℕ} → count ≡ length (declaration_at ds k).attribute_types → count ≤ 0 → [] ≡ attributes_piece ds k
  unfolding attributes_piece joined
  attributes-none e h =
      let z : 0 ≡ length (declaration_at ds k).attribute_types = omega arith in ap (joined (λ i. field 0x40 (attribute_bytes (attribute_of ds k i)))) z

  pub association-none : is_association (declaration_at ds k) ≡ false → [] ≡ association_piece ds k
  unfolding association_piece
  association-none t = elsewhere _ t
