-- A look-up in the arrays of a diagram in memory is the look-up in the diagram that they stand for.
-- Assumes nothing.
use Prim.Native.Nat.{◌%◌, ◌*◌, ◌+◌, ◌/◌, ℕ}
use native.Mathlib.Omega.{arith}
use mathlib.Core.Bool.{Bool, cond, false, true}
use mathlib.Core.List.{List, [], ◌∷◌}
use mathlib.Core.Path.{◌∙◌, ◌≡◌, ap, refl}
use lib.Dec.{eqb, ltb}
use lib.ListN.{get_or, length}
use borrow.Author.Tests.{eqb-true, ltb-true, ne_eqb}
use Rattle.laws.specs.Bounded.{first}
use Rattle.laws.specs.Connective.{both, either}
use Rattle.laws.specs.Lists.{listed}
use Rattle.files.proofs.NameLaws.{same_key, same_self}
use Rattle.laws.proofs.FirstLaws.{first-ext}
use Rattle.laws.proofs.JoinedLaws.{get_or-each, length-each}
use Rattle.laws.proofs.ConnectiveLaws.{both_under, same_test}
use Rattle.fields.specs.Slot.{constant_name, known_in, slot_name, slot_of}
use Rattle.files.specs.Diagram.{ValueType, attribute_at, type_at, value_type_at}
use Rattle.files.specs.Name.{Name, key, same_name}
use Rattle.diagrams.specs.declared.StoredDiagram.{StoredDiagram}
use Rattle.diagrams.specs.declared.ValueTypes.{ValueTypes}
use Rattle.diagrams.specs.View.{diagram_of, value_type_in}
use Rattle.diagrams.proofs.NamedLaws.{attribute-named, role-count, role-named, type-named}
use Rattle.diagrams.proofs.ViewLaws.{attribute-count, type-count, value-type-at, value-type-count}
use Rattle.records.specs.Slots.{attribute_slot, code_of, is_code, is_constant, role_name, role_slot, type_index}
use Rattle.resolving.specs.Lookup.{is_code_in, is_constant_in}

-- constant k % 8 of value type k / 8 is in slot k
constant-in : (v : ValueTypes) (c : Name) (k : ℕ) → is_constant (value_type_in v (k / 8)) (k % 8) c ≡ is_constant_in v.constants (get_or v.sizes (k / 8) 0) c k
unfolding is_constant is_constant_in value_type_in
constant-in v c k =
    let size : ℕ = get_or v.sizes (k / 8) 0 in
    let names : ℕ → Name = λ i. slot_name v.constants (k / 8 * 8 + i) in
    let at : k / 8 * 8 + k % 8 ≡ k = omega arith in
    ap (λ (n : ℕ). either (both (ltb (k % 8) n) (same_name (get_or (listed names size) (k % 8) []) c)) (both (eqb n 0) (both (eqb (k % 8) 0) (eqb (length c) 0))))
    (length-each names [] size)
    ∙ ap (λ (b : Bool). either b (both (eqb size 0) (both (eqb (k % 8) 0) (eqb (length c) 0))))
    (both_under (ltb (k % 8) size) _ _ (λ h.
    ap (λ (w : Name). same_name w c) (get_or-each names [] size (k % 8) (ltb-true _ _ h) ∙ ap (slot_name v.constants) at)))

-- the unnamed value has the name of no bytes
unnamed : (c : Name) → same_name [] c ≡ eqb (length c) 0
unfolding key
unnamed [] = same_self []
unnamed (x ∷ c) =
    same_test _ _
    (λ e. let z : 0 ≡ length (x ∷ c) = ap length (same_key [] (x ∷ c) e) in absurd (omega (arith, z)))
    (λ e. let z : length (x ∷ c) ≡ 0 = eqb-true _ _ e in absurd (omega (arith, z)))

-- a constant that is known, with its name, as the code has it
pub constant-by : (constants : List ℕ) (size : ℕ) (c : Name) (k : ℕ)
    → both (known_in size (k % 8)) (same_name (constant_name constants size k) c) ≡ is_constant_in constants size c k
unfolding known_in constant_name is_constant_in both either
constant-by constants size c k = by (ltb (k % 8) size) refl
  where
    none : (a b e : Bool) → both (both a b) e ≡ both a (both b e)
    none true b e = refl
    none false b e = refl

    more : (x : Bool) → ltb (k % 8) size ≡ true → x ≡ either x (both (eqb size 0) (both (eqb (k % 8) 0) (eqb (length c) 0)))
    more true h = refl
    more false h = rw (ne_eqb size 0 (λ e. let l = ltb-true (k % 8) size h in omega arith))

    by : (t : Bool) → ltb (k % 8) size ≡ t
        → both (either t (both (eqb size 0) (eqb (k % 8) 0))) (same_name (cond t (slot_name constants k) []) c)
        ≡ either (both t (same_name (slot_name constants k) c)) (both (eqb size 0) (both (eqb (k % 8) 0) (eqb (length c) 0)))
    by true h = more (same_name (slot_name constants k) c) h
    by false h = ap (both (both (eqb size 0) (eqb (k % 8) 0))) (unnamed c) ∙ none (eqb size 0) (eqb (k % 8) 0) (eqb (length c) 0)

module _ (d : StoredDiagram) where
  pub type-index : (w : Name) → type_index (diagram_of d) w ≡ slot_of d.types.names d.types.count w
  unfolding type_index slot_of
  type-index w =
      ap (first (λ i. same_name (type_at (diagram_of d) i).name w)) (type-count d)
      ∙ first-ext _ _ d.types.count (λ i l. ap (λ (n : Name). same_name n w) (type-named d i l))

  pub attribute-slot : (w : Name) → attribute_slot (diagram_of d) w ≡ slot_of d.attributes.names d.attributes.count w
  unfolding attribute_slot slot_of
  attribute-slot w =
      ap (first (λ i. same_name (attribute_at (diagram_of d) i).name w)) (attribute-count d)
      ∙ first-ext _ _ d.attributes.count (λ i l. ap (λ (n : Name). same_name n w) (attribute-named d i l))

  pub role-slot : (w : Name) → role_slot (diagram_of d) w ≡ slot_of d.associations.roles (d.associations.count * 2) w
  unfolding role_slot role_name slot_of
  role-slot w =
      ap (first (λ e. same_name (role_name (diagram_of d) e) w)) (role-count d)
      ∙ first-ext _ _ (d.associations.count * 2) (λ e l. ap (λ (n : Name). same_name n w) (role-named d e l))

  is-code : (t c : Name) (k : ℕ) → is_code (diagram_of d) t c k ≡ is_code_in d.values.names d.values.sizes d.values.constants d.values.count t c k
  unfolding is_code is_code_in value_type_in
  is-code t c k =
      ap (λ (n : ℕ). both (ltb (k / 8) n) (both (same_name (value_type_at (diagram_of d) (k / 8)).name t) (is_constant (value_type_at (diagram_of d) (k / 8)) (k % 8) c)))
      (value-type-count d)
      ∙ both_under (ltb (k / 8) d.values.count) _ _ (λ h.
      ap (λ (v : ValueType). both (same_name v.name t) (is_constant v (k % 8) c)) (value-type-at d (k / 8) (ltb-true _ _ h))
      ∙ ap (both (same_name (slot_name d.values.names (k / 8)) t)) (constant-in d.values c k))

  pub code-of : (t c : Name) → code_of (diagram_of d) t c ≡ first (is_code_in d.values.names d.values.sizes d.values.constants d.values.count t c) 96
  unfolding code_of
  code-of t c = first-ext _ _ 96 (λ k l. is-code t c k)
