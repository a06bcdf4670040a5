-- A name's slot is the first declaration of that name: it has that name up to its key, it is its own, and every declared name has
-- one. Names of one key have one slot, and no other names have.
-- Type names differ, so that a type's own name has its index.
-- Assumes nothing.
use Prim.Native.Nat.{◌+◌, ◌<◌, ◌≤◌, suc, zero, ℕ}
use native.Mathlib.Omega.{arith}
use mathlib.Core.Bool.{Bool, cond, true}
use mathlib.Core.Logic.{⊎_elim}
use mathlib.Core.Path.{◌∙◌, ◌≡◌, ap, ap₂, refl, sym}
use lib.Dec.{eqb}
use lib.ListN.{length}
use borrow.Author.Tests.{eq-eqb, eqb-true, lt-ltb, ltb-true}
use Rattle.laws.specs.Bounded.{first}
use Rattle.laws.specs.Connective.{both}
use Rattle.laws.proofs.BoundedLaws.{any_none}
use Rattle.laws.proofs.ConnectiveLaws.{both_left, both_of, both_right, either-cases, either_left, either-right, same_test}
use Rattle.laws.proofs.FirstLaws.{first_below, first-ext, first-hit, first_holds, first-le}
use Rattle.files.specs.Diagram.{Diagram, attribute_at, type_at}
use Rattle.files.specs.Name.{Name, key, same_name}
use Rattle.files.specs.Record.{Record, value_at}
use Rattle.files.specs.WellFormedDiagram.{WfDiagram}
use Rattle.files.proofs.NameLaws.{key-same, same_key, same-right, same_self}
use Rattle.records.specs.Represents.{code_among}
use Rattle.records.specs.Slots.{attribute_slot, code_of, is_code, is_constant, own_attribute, own_role, role_count, role_name, role_slot, type_index}
use Rattle.records.specs.Written.{IsValue}

-- ---- any row of names: the first of k that is w, or k

abbrev slot_in : (ℕ → Name) → ℕ → Name → ℕ
slot_in names k w = first (λ s. same_name (names s) w) k

module _ (names : ℕ → Name) (k : ℕ) where
  slot-name : (w : Name) → slot_in names k w < k → key (names (slot_in names k w)) ≡ key w
  slot-name w l = same_key _ _ (first_holds (λ s. same_name (names s) w) k l)

  slot-alike : (v w : Name) → key v ≡ key w → slot_in names k v ≡ slot_in names k w
  slot-alike v w e = first-ext (λ s. same_name (names s) v) (λ s. same_name (names s) w) k (λ s l. same-right (names s) v w e)

  slot-known : (w : Name) (s : ℕ) → s < k → same_name (names s) w ≡ true → slot_in names k w < k
  slot-known w s l e = first_below (λ s. same_name (names s) w) k s l e

  -- one slot, one name
  slot_same : (v w : Name) → (slot_in names k v ≡ slot_in names k w → slot_in names k v < k) → same_name v w ≡ eqb (slot_in names k v) (slot_in names k w)
  slot_same v w there = same_test _ _ (λ e. eq-eqb _ _ (slot-alike v w (same_key v w e))) back
    where
      back : eqb (slot_in names k v) (slot_in names k w) ≡ true → same_name v w ≡ true
      back e =
          let q : slot_in names k v ≡ slot_in names k w = eqb-true _ _ e in
          let l : slot_in names k v < k = there q in
          key-same v w (sym (slot-name v l) ∙ ap (λ (s : ℕ). key (names s)) q ∙ slot-name w (omega arith))

-- ---- types

module _ (d : Diagram) where
  pub index-name : (w : Name) → type_index d w < length d.types → key (type_at d (type_index d w)).name ≡ key w
  unfolding type_index
  index-name w l = slot-name (λ j. (type_at d j).name) (length d.types) w l

  pub index-alike : (v w : Name) → key v ≡ key w → type_index d v ≡ type_index d w
  unfolding type_index
  index-alike v w e = slot-alike (λ j. (type_at d j).name) (length d.types) v w e

  pub index-known : (w : Name) (i : ℕ) → i < length d.types → same_name (type_at d i).name w ≡ true → type_index d w < length d.types
  unfolding type_index
  index-known w i l e = slot-known (λ j. (type_at d j).name) (length d.types) w i l e

module _ (d : Diagram) (wf : WfDiagram d) where
  pub index_of : (i : ℕ) → i < length d.types → type_index d (type_at d i).name ≡ i
  unfolding type_index
  index_of i l =
      first-hit (λ j. same_name (type_at d j).name (type_at d i).name) (length d.types) i l
      (any_none _ i (λ j k. wf.types-differ j i k l)) (same_self (type_at d i).name)

  -- a type's name is this one exactly when its index is this name's
  pub index_same : (i : ℕ) (w : Name) → i < length d.types → eqb i (type_index d w) ≡ same_name (type_at d i).name w
  unfolding type_index
  index_same i w l =
      sym (slot_same (λ j. (type_at d j).name) (length d.types) (type_at d i).name w (λ q. omega (arith, index_of i l)) ∙ ap (λ (j : ℕ). eqb j (type_index d w)) (index_of i l))

module _ (d : Diagram) where
  -- ---- attributes

  pub attribute-name : (w : Name) → attribute_slot d w < length d.attributes → key (attribute_at d (attribute_slot d w)).name ≡ key w
  unfolding attribute_slot
  attribute-name w l = slot-name (λ s. (attribute_at d s).name) (length d.attributes) w l

  pub attribute-alike : (v w : Name) → key v ≡ key w → attribute_slot d v ≡ attribute_slot d w
  unfolding attribute_slot
  attribute-alike v w e = slot-alike (λ s. (attribute_at d s).name) (length d.attributes) v w e

  pub attribute-known : (w : Name) (a : ℕ) → a < length d.attributes → same_name (attribute_at d a).name w ≡ true → attribute_slot d w < length d.attributes
  unfolding attribute_slot
  attribute-known w a l e = slot-known (λ s. (attribute_at d s).name) (length d.attributes) w a l e

  pub attribute-below : (a : ℕ) → a < length d.attributes → attribute_slot d (attribute_at d a).name < length d.attributes
  attribute-below a l = attribute-known (attribute_at d a).name a l (same_self (attribute_at d a).name)

  -- a declaration's name is this one exactly when its slot is this name's
  pub attribute-same : (a : ℕ) (w : Name) → a < length d.attributes → same_name (attribute_at d a).name w ≡ eqb (attribute_slot d (attribute_at d a).name) (attribute_slot d w)
  unfolding attribute_slot
  attribute-same a w l = slot_same (λ s. (attribute_at d s).name) (length d.attributes) (attribute_at d a).name w (λ q. attribute-below a l)

  pub attribute-own : (w : Name) → attribute_slot d w < length d.attributes → own_attribute d (attribute_slot d w) ≡ true
  unfolding own_attribute
  attribute-own w l = both_of _ _ (lt-ltb _ _ l) (eq-eqb _ _ (attribute-alike _ _ (attribute-name w l)))

  pub attribute-most : (w : Name) → attribute_slot d w ≤ length d.attributes
  unfolding attribute_slot
  attribute-most w = first-le _ (length d.attributes)

  -- a slot that is its name's own
  pub own_below : (s : ℕ) → own_attribute d s ≡ true → s < length d.attributes
  unfolding own_attribute
  own_below s e = ltb-true _ _ (both_left _ _ e)

  pub own-slot : (s : ℕ) → own_attribute d s ≡ true → attribute_slot d (attribute_at d s).name ≡ s
  unfolding own_attribute
  own-slot s e = eqb-true _ _ (both_right _ _ e)

  pub own_same : (w : Name) (s : ℕ) → own_attribute d s ≡ true → same_name w (attribute_at d s).name ≡ eqb (attribute_slot d w) s
  unfolding attribute_slot
  own_same w s own =
      let at = own-slot s own in
      let below = own_below s own in
      slot_same (λ s. (attribute_at d s).name) (length d.attributes) w (attribute_at d s).name (λ q. omega arith) ∙ ap (eqb (attribute_slot d w)) at

  -- ---- roles

  pub role-name : (w : Name) → role_slot d w < role_count d → key (role_name d (role_slot d w)) ≡ key w
  unfolding role_slot
  role-name w l = slot-name (role_name d) (role_count d) w l

  pub role-alike : (v w : Name) → key v ≡ key w → role_slot d v ≡ role_slot d w
  unfolding role_slot
  role-alike v w e = slot-alike (role_name d) (role_count d) v w e

  pub role-known : (w : Name) (e : ℕ) → e < role_count d → same_name (role_name d e) w ≡ true → role_slot d w < role_count d
  unfolding role_slot
  role-known w e l q = slot-known (role_name d) (role_count d) w e l q

  -- an end's role is this one exactly when its slot is this name's
  pub role_same : (e : ℕ) (w : Name) → e < role_count d → same_name (role_name d e) w ≡ eqb (role_slot d (role_name d e)) (role_slot d w)
  unfolding role_slot
  role_same e w l = slot_same (role_name d) (role_count d) (role_name d e) w (λ q. role-known (role_name d e) e l (same_self (role_name d e)))

  pub role-own : (w : Name) → role_slot d w < role_count d → own_role d (role_slot d w) ≡ true
  unfolding own_role
  role-own w l = both_of _ _ (lt-ltb _ _ l) (eq-eqb _ _ (role-alike _ _ (role-name w l)))

  pub role-most : (w : Name) → role_slot d w ≤ role_count d
  unfolding role_slot
  role-most w = first-le _ (role_count d)

  pub own-role-below : (e : ℕ) → own_role d e ≡ true → e < role_count d
  unfolding own_role
  own-role-below e q = ltb-true _ _ (both_left _ _ q)

  pub own-role-slot : (e : ℕ) → own_role d e ≡ true → role_slot d (role_name d e) ≡ e
  unfolding own_role
  own-role-slot e q = eqb-true _ _ (both_right _ _ q)

  pub own-role-same : (w : Name) (e : ℕ) → own_role d e ≡ true → same_name w (role_name d e) ≡ eqb (role_slot d w) e
  unfolding role_slot
  own-role-same w e own =
      let at = own-role-slot e own in
      let below = own-role-below e own in
      slot_same (role_name d) (role_count d) w (role_name d e) (λ q. omega arith) ∙ ap (eqb (role_slot d w)) at

  -- ---- values

  -- a code that fits is a value
  pub code-value : (t c : Name) (k : ℕ) → is_code d t c k ≡ true → IsValue d k
  unfolding is_code is_constant
  code-value t c k e = record {
    type-known = ltb-true _ _ (both_left _ _ e);
    constant-known = ⊎_elim (λ a. either_left _ _ (both_left _ _ a)) (λ b. either-right _ _ (both_of _ _ (both_left _ _ b) (both_left _ _ (both_right _ _ b))))
        (either-cases _ _ (both_right _ _ (both_right _ _ e)));
  }

  -- names of one key have one code

  pub among-alike : (r : Record) (o : ℕ) (v w : Name) → key v ≡ key w → (n : ℕ) → code_among d r o v n ≡ code_among d r o w n
  unfolding code_among
  among-alike r o v w e zero = refl
  among-alike r o v w e (suc n) =
      ap₂ (λ (b : Bool) (k : ℕ). cond b (1 + code_of d (value_at r n).value_type (value_at r n).constant) k)
      (ap (both (eqb (value_at r n).object o)) (same-right (value_at r n).attribute v w e)) (among-alike r o v w e n)
