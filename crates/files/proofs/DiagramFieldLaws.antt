-- The fields of a diagram's file, each read behind those before it, where the diagram is as 4, 3, 6 and 7 ask: a value type and a type
-- are refused with 5 exactly if a name in them stands twice or parents do not rise, an attribute never, an association with 8 exactly
-- if it is a composition with arrow 2. The diagram with a field more is the front of the whole one.
-- Assumes nothing.
use Prim.Native.Nat.{◌<◌, ◌≤◌, suc, ℕ}
use native.Mathlib.Nat.{le_of_lt}
use native.Mathlib.Omega.{arith}
use mathlib.Core.Bool.{Bool, false, not}
use mathlib.Core.List.{List, [], ◌++◌, ◌∷◌}
use mathlib.Core.Path.{◌∙◌, ◌≡◌, ap, ap₂, refl, subst, sym}
use lib.Dec.{eqb, ltb}
use lib.ListN.{get_or, length, take}
use lib.Seq.{get_or-take, length-take-le, take-suc}
use borrow.Author.Tests.{lt-leb, lt-ltb}
use Rattle.laws.specs.Bounded.{all, any}
use Rattle.laws.specs.Connective.{both, either, refuse}
use Rattle.files.specs.Diagram.{Association, Attribute, Diagram, TypeDef, ValueType, association_at, attribute_at, is_composition, is_interface, no_end, type_at, value_type_at}
use Rattle.files.specs.DiagramBytes.{association_bytes, attribute_bytes, type_bytes, value_type_bytes}
use Rattle.files.specs.DiagramFile.{association_refusal, attribute_refusal, diagram_refusal, diagram_tags, diagram_with, rising, type_named, type_refusal, value_type_named, value_type_refusal, with_association, with_attribute, with_type, with_value_type}
use Rattle.files.specs.Limit.{Edition}
use Rattle.files.specs.Name.{Name, differ, same_name}
use Rattle.files.specs.Refusal.{full}
use Rattle.laws.proofs.BoundedLaws.{all_of, any-either, any-ext}
use Rattle.laws.proofs.ConnectiveLaws.{both_of, either-neither, not-both, refuse-pass}
use Rattle.files.proofs.DiagramContents.{association-laid, association-of, attribute-laid, attribute-of, type-laid, type-of, value-type-laid, value-type-of}
use Rattle.files.proofs.LaidDiagram.{KnownIndices, LaidDiagram}
use Rattle.files.proofs.RecordRoundTrip.{in-place}
use Rattle.files.proofs.TwiceLaws.{earlier}

module _ (d : Diagram) where
  -- ---- the fronts of the diagram, and what 5 and 8 say of its fields

  abbrev pub value_types_to : ℕ → Diagram
  value_types_to k = record { value_types = take k d.value_types; types = []; attributes = []; associations = [] }

  abbrev pub types_to : ℕ → Diagram
  types_to k = record { value_types = d.value_types; types = take k d.types; attributes = []; associations = [] }

  abbrev pub attributes_to : ℕ → Diagram
  attributes_to k = record { value_types = d.value_types; types = d.types; attributes = take k d.attributes; associations = [] }

  abbrev pub associations_to : ℕ → Diagram
  associations_to k = record { value_types = d.value_types; types = d.types; attributes = d.attributes; associations = take k d.associations }

  -- value type k has the name of an earlier one, or two constants of one name
  abbrev pub twice_in_value_type : ℕ → Bool
  twice_in_value_type k = either (earlier (λ i. (value_type_at d i).name) k) (not (differ (value_type_at d k).constants))

  -- type k has the name of an earlier one, or parents that do not rise
  abbrev pub twice_in_type : ℕ → Bool
  twice_in_type k = either (earlier (λ i. (type_at d i).name) k) (not (rising (type_at d k).parents))

  -- association k is a composition with arrow 2
  abbrev pub whole_right : ℕ → Bool
  whole_right k = both (is_composition (association_at d k)) (eqb (association_at d k).arrow 2)

  -- ---- 0x20

  value-type-named : (k : ℕ) → k < length d.value_types → (w : Name) → value_type_named (value_types_to k) w ≡ any (λ i. same_name (value_type_at d i).name w) k
  unfolding value_type_named
  value-type-named k l w =
      ap (any _) (length-take-le k d.value_types (le_of_lt l))
      ∙ any-ext _ _ k (λ i m. ap (λ (v : ValueType). same_name v.name w) (get_or-take k d.value_types i (record { name = []; constants = [] }) m))

  pub value-type-refusal : (ed : ℕ) → LaidDiagram ed d → (k : ℕ) → k < length d.value_types → any twice_in_value_type k ≡ false → (tag : ℕ) → 1 ≤ tag → tag ≤ 0x20
      → diagram_refusal ed tag (value_types_to k) 0x20 (value_type_bytes (value_type_at d k)) ≡ refuse (twice_in_value_type k) 5 0
  unfolding diagram_refusal value_type_refusal full any
  value-type-refusal ed laid k l e tag h m =
      let v : ValueType = value_type_at d k in
      let size = length-take-le k d.value_types (le_of_lt l) in
      let most = laid.few-value-types in
      refuse-pass _ 2 _ (in-place 0x10 diagram_tags tag 0x20 h m refl refl)
      (refuse-pass _ 4 _ (lt-leb 12 (length (take k d.value_types)) (omega arith))
      (refuse-pass _ 3 _ (ap not (value-type-laid v (laid.value-type k l)))
      (ap (λ (b : Bool). refuse b 5 0)
      (ap (λ (x : ValueType). either (value_type_named (value_types_to k) x.name) (not (differ x.constants))) (value-type-of v)
      ∙ ap (λ (b : Bool). either b (not (differ v.constants))) (value-type-named k l v.name)))))

  pub value-type-with : (ed k : ℕ) → k < length d.value_types → diagram_with ed (value_types_to k) 0x20 (value_type_bytes (value_type_at d k)) ≡ value_types_to (suc k)
  unfolding diagram_with with_value_type
  value-type-with ed k l =
      ap (λ (xs : List ValueType). record { value_types = xs; types = []; attributes = []; associations = [] })
      (ap (λ (v : ValueType). take k d.value_types ++ (v ∷ [])) (value-type-of (value_type_at d k))
      ∙ sym (take-suc d.value_types k (record { name = []; constants = [] }) l))

  -- ---- 0x30

  type-before : (k i : ℕ) → i < k → type_at (types_to k) i ≡ type_at d i
  type-before k i l = get_or-take k d.types i (record { kind = 0; name = []; parents = [] }) l

  type-named : (k : ℕ) → k < length d.types → (w : Name) → type_named (types_to k) w ≡ any (λ i. same_name (type_at d i).name w) k
  unfolding type_named
  type-named k l w =
      ap (any _) (length-take-le k d.types (le_of_lt l)) ∙ any-ext _ _ k (λ i m. ap (λ (t : TypeDef). same_name t.name w) (type-before k i m))

  pub type-refusal : (ed : ℕ) → LaidDiagram ed d → KnownIndices d → (k : ℕ) → k < length d.types → any twice_in_type k ≡ false → (tag : ℕ) → 1 ≤ tag → tag ≤ 0x30
      → diagram_refusal ed tag (types_to k) 0x30 (type_bytes (type_at d k)) ≡ refuse (twice_in_type k) 5 0
  unfolding diagram_refusal type_refusal full any
  type-refusal ed laid known k l e tag h m =
      let t : TypeDef = type_at d k in
      let p = known.parents k l in
      let size : length (take k d.types) ≡ k = length-take-le k d.types (le_of_lt l) in
      let most = laid.few-types in
      let once : any (earlier (λ i. (type_at d i).name)) k ≡ false = (either-neither _ _ (sym (any-either _ _ k) ∙ e)).0 in
      refuse-pass _ 2 _ (in-place 0x10 diagram_tags tag 0x30 h m refl refl)
      (refuse-pass _ 4 _ (lt-leb 24 (length (take k d.types)) (omega arith))
      (refuse-pass _ 3 _ (ap not (type-laid t (laid.type k l)))
      (ap₂ (λ (b : Bool) (n : ℕ). refuse b 5 n)
      (ap (λ (x : TypeDef). either (type_named (types_to k) x.name) (not (rising x.parents))) (type-of t)
      ∙ ap (λ (b : Bool). either b (not (rising t.parents))) (type-named k l t.name))
      (refuse-pass _ 6 _ (ap (λ (x : TypeDef). not (all (λ s. ltb (get_or x.parents s 0) (length (take k d.types))) (length x.parents))) (type-of t)
      ∙ ap not (all_of _ (length t.parents) (λ s q. lt-ltb _ _ (subst (λ (n : ℕ). get_or t.parents s 0 < n) (sym size) (p.below s q)))))
      (refuse-pass _ 7 0 (ap (λ (x : TypeDef). both (is_interface x) (not (all (λ s. is_interface (type_at (types_to k) (get_or x.parents s 0))) (length x.parents)))) (type-of t)
      ∙ not-both _ _ (λ i. all_of _ (length t.parents) (λ s q. ap is_interface (type-before k _ (p.below s q)) ∙ p.interfaces once i s q))) refl)))))

  pub type-with : (ed k : ℕ) → k < length d.types → diagram_with ed (types_to k) 0x30 (type_bytes (type_at d k)) ≡ types_to (suc k)
  unfolding diagram_with with_type
  type-with ed k l =
      ap (λ (xs : List TypeDef). record { value_types = d.value_types; types = xs; attributes = []; associations = [] })
      (ap (λ (t : TypeDef). take k d.types ++ (t ∷ [])) (type-of (type_at d k))
      ∙ sym (take-suc d.types k (record { kind = 0; name = []; parents = [] }) l))

  -- ---- 0x40

  pub attribute-refusal : (ed : ℕ) → LaidDiagram ed d → KnownIndices d → (k : ℕ) → k < length d.attributes → (tag : ℕ) → 1 ≤ tag → tag ≤ 0x40
      → diagram_refusal ed tag (attributes_to k) 0x40 (attribute_bytes (attribute_at d k)) ≡ 0
  unfolding diagram_refusal attribute_refusal full any
  attribute-refusal ed laid known k l tag h m =
      let a : Attribute = attribute_at d k in
      let size = length-take-le k d.attributes (le_of_lt l) in
      let most = laid.few-attributes in
      refuse-pass _ 2 _ (in-place 0x10 diagram_tags tag 0x40 h m refl refl)
      (refuse-pass _ 4 _ (lt-leb 32 (length (take k d.attributes)) (omega arith))
      (refuse-pass _ 3 _ (ap not (attribute-laid a (laid.attribute-named k l)))
      (refuse-pass _ 6 0 (ap (λ (x : Attribute). not (both (ltb x.owner (length d.types)) (ltb x.value_type (length d.value_types)))) (attribute-of a)
      ∙ ap not (both_of _ _ (lt-ltb _ _ (known.owner-known k l)) (lt-ltb _ _ (known.value-type-known k l)))) refl)))

  pub attribute-with : (ed k : ℕ) → k < length d.attributes → diagram_with ed (attributes_to k) 0x40 (attribute_bytes (attribute_at d k)) ≡ attributes_to (suc k)
  unfolding diagram_with with_attribute
  attribute-with ed k l =
      ap (λ (xs : List Attribute). record { value_types = d.value_types; types = d.types; attributes = xs; associations = [] })
      (ap (λ (a : Attribute). take k d.attributes ++ (a ∷ [])) (attribute-of (attribute_at d k))
      ∙ sym (take-suc d.attributes k (record { owner = 0; name = []; value_type = 0 }) l))

  -- ---- 0x50

  pub association-refusal : (ed : ℕ) → Edition ed → LaidDiagram ed d → KnownIndices d → (k : ℕ) → k < length d.associations → any whole_right k ≡ false → (tag : ℕ) → 1 ≤ tag → tag ≤ 0x50
      → diagram_refusal ed tag (associations_to k) 0x50 (association_bytes ed (association_at d k)) ≡ refuse (whole_right k) 8 0
  unfolding diagram_refusal association_refusal full any
  association-refusal ed is-edition laid known k l e tag h m =
      let a : Association = association_at d k in
      let is = association-of ed is-edition a (laid.association k l) in
      let ends = known.ends k l in
      let size = length-take-le k d.associations (le_of_lt l) in
      let most = laid.few-associations in
      refuse-pass _ 2 _ (in-place 0x10 diagram_tags tag 0x50 h m refl refl)
      (refuse-pass _ 4 _ (lt-leb 16 (length (take k d.associations)) (omega arith))
      (refuse-pass _ 3 _ (ap not (association-laid ed is-edition a (laid.association k l)))
      (refuse-pass _ 6 _ (ap (λ (x : Association). not (both (ltb x.left.type (length d.types)) (ltb x.right.type (length d.types)))) is
      ∙ ap not (both_of _ _ (lt-ltb _ _ ends.left-known) (lt-ltb _ _ ends.right-known)))
      (ap (λ (x : Association). refuse (both (is_composition x) (eqb x.arrow 2)) 8 0) is))))

  pub association-with : (ed : ℕ) → Edition ed → LaidDiagram ed d → (k : ℕ) → k < length d.associations
      → diagram_with ed (associations_to k) 0x50 (association_bytes ed (association_at d k)) ≡ associations_to (suc k)
  unfolding diagram_with with_association
  association-with ed is-edition laid k l =
      ap (λ (xs : List Association). record { value_types = d.value_types; types = d.types; attributes = d.attributes; associations = xs })
      (ap (λ (a : Association). take k d.associations ++ (a ∷ [])) (association-of ed is-edition (association_at d k) (laid.association k l))
      ∙ sym (take-suc d.associations k (record { form = 0; arrow = 0; left = no_end; right = no_end }) l))
