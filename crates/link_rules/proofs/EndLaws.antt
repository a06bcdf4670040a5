-- The ends of a diagram's associations by number: their types, their roles and the slots of these. A role of the diagram has a
-- slot below the number of its ends, since the end itself has that name.
-- Assumes nothing.
use Prim.Native.Nat.{ℕ, ◌*◌, ◌+◌, ◌<◌, ◌/◌, ◌%◌}
use native.Mathlib.Decide.{dec_lt}
use native.Mathlib.Omega.{arith}
use mathlib.Core.List.{List}
use mathlib.Core.Path.{◌≡◌, ap, subst, ◌∙◌}
use lib.ListN.{get_or, length}
use Rattle.laws.proofs.FirstLaws.{first_below}
use Rattle.laws.proofs.JoinedLaws.{length-each, get_or-each}
use Rattle.files.specs.Diagram.{Association, Diagram, End, association_at, no_end}
use Rattle.files.specs.Name.{Name, same_name}
use Rattle.files.specs.WellFormedDiagram.{WfDiagram, WfEnd}
use Rattle.files.proofs.NameLaws.{same_self}
use Rattle.fields.specs.Slot.{slot_name}
use Rattle.diagrams.specs.declared.Associations.{Associations}
use Rattle.diagrams.specs.View.{association_in, associations_of, end_in}
use Rattle.records.specs.Slots.{role_count, role_name, role_slot}
use Rattle.tables.specs.Tables.{RoleSlots}

-- end e is one of the diagram's: its type is known, and its role has the slot that the table says, which is one of its ends
pub record KnownEnd (d : Diagram) (a : Associations) (slots : List ℕ) (e : ℕ) : Type 0 where
  pub type-known : get_or a.types e 0 < length d.types
  pub slot_is : get_or slots e 0 ≡ role_slot d (slot_name a.roles e)
  pub slot-known : role_slot d (slot_name a.roles e) < role_count d

-- ---- the roles of association i

pub left-role : (d : Diagram) (i : ℕ) → role_name d (i * 2) ≡ (association_at d i).left.role
unfolding role_name
left-role d i =
    let even : i * 2 % 2 ≡ 0 = omega arith in
    let half : i * 2 / 2 ≡ i = omega arith in
    rw (even, half)

pub right-role : (d : Diagram) (i : ℕ) → role_name d (i * 2 + 1) ≡ (association_at d i).right.role
unfolding role_name
right-role d i =
    let odd : (i * 2 + 1) % 2 ≡ 1 = omega arith in
    let half : (i * 2 + 1) / 2 ≡ i = omega arith in
    rw (odd, half)

pub own-slot : (d : Diagram) (e : ℕ) → e < role_count d → role_slot d (role_name d e) < role_count d
unfolding role_slot
own-slot d e l = first_below (λ k. same_name (role_name d k) (role_name d e)) (role_count d) e l (same_self (role_name d e))

module _ (d : Diagram) (a : Associations) (is : d.associations ≡ associations_of a) where
  abbrev none : Association
  none = record { form = 0; arrow = 0; left = no_end; right = no_end }

  pub count-is : length d.associations ≡ a.count
  unfolding associations_of
  count-is = ap length is ∙ length-each (association_in a) none a.count

  pub association-is : (i : ℕ) → i < a.count → association_at d i ≡ association_in a i
  unfolding associations_of
  association-is i l = ap (λ (xs : List Association). get_or xs i none) is ∙ get_or-each (association_in a) none a.count i l

  left_is : (i : ℕ) → i < a.count → (association_at d i).left ≡ end_in a (i * 2)
  unfolding association_in
  left_is i l = ap (λ (x : Association). x.left) (association-is i l)

  right_is : (i : ℕ) → i < a.count → (association_at d i).right ≡ end_in a (i * 2 + 1)
  unfolding association_in
  right_is i l = ap (λ (x : Association). x.right) (association-is i l)

  -- an end with this number, type and role
  known : (slots : List ℕ) (e : ℕ) (end : End) → RoleSlots d slots → WfEnd d end → end ≡ end_in a e → role_name d e ≡ end.role → e < role_count d → KnownEnd d a slots e
  unfolding end_in
  known slots e end roles wf q role l =
      let same : role_name d e ≡ slot_name a.roles e = role ∙ ap (λ (x : End). x.role) q in
      record {
        type-known = subst (λ (x : End). x.type < length d.types) q wf.type-known;
        slot_is = roles.exact e l ∙ ap (role_slot d) same;
        slot-known = subst (λ (w : Name). role_slot d w < role_count d) same (own-slot d e l);
      }

  pub left-known : (slots : List ℕ) → WfDiagram d → RoleSlots d slots → (i : ℕ) → i < a.count → KnownEnd d a slots (i * 2)
  left-known slots wf roles i l =
      let c : length d.associations ≡ a.count = count-is in
      let h : i < length d.associations = omega arith in
      known slots (i * 2) (association_at d i).left roles (wf.association i h).left-fits (left_is i l) (left-role d i) (omega arith)

  pub right-known : (slots : List ℕ) → WfDiagram d → RoleSlots d slots → (i : ℕ) → i < a.count → KnownEnd d a slots (i * 2 + 1)
  right-known slots wf roles i l =
      let c : length d.associations ≡ a.count = count-is in
      let h : i < length d.associations = omega arith in
      known slots (i * 2 + 1) (association_at d i).right roles (wf.association i h).right-fits (right_is i l) (right-role d i) (omega arith)

  -- each end is a left one or a right one
  pub end_known : (slots : List ℕ) → WfDiagram d → RoleSlots d slots → (e : ℕ) → e < a.count * 2 → KnownEnd d a slots e
  end_known slots wf roles e l = go (dec_lt (e / 2 * 2) e)
    where
      go : Dec (e / 2 * 2 < e) → KnownEnd d a slots e
      go (yes h) =
          let odd : e / 2 * 2 + 1 ≡ e = omega arith in
          subst (λ (k : ℕ). KnownEnd d a slots k) odd (right-known slots wf roles (e / 2) (omega arith))
      go (no h) =
          let even : e / 2 * 2 ≡ e = omega arith in
          subst (λ (k : ℕ). KnownEnd d a slots k) even (left-known slots wf roles (e / 2) (omega arith))
