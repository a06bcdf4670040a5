-- A diagram by its own indices misses nothing: its type names have their own index, its roles a slot.
-- Assumes nothing.
use Prim.Native.Nat.{◌<◌, ◌≤◌, ℕ}
use native.Mathlib.Omega.{arith}
use mathlib.Core.Bool.{false, false≢true}
use mathlib.Core.Path.{◌≡◌}
use lib.ListN.{length}
use borrow.Author.Tests.{eqb-true, leb-true}
use Rattle.laws.proofs.BoundedLaws.{any_none}
use Rattle.laws.proofs.ConnectiveLaws.{both_left, both_right, same_test}
use Rattle.files.specs.Diagram.{Diagram, type_at}
use Rattle.files.specs.WellFormedDiagram.{WfDiagram}
use Rattle.files.proofs.NameLaws.{same_self}
use Rattle.records.specs.Slots.{role_count, role_name, type_index}
use Rattle.records.proofs.SlotLaws.{index_of, role-known}
use Rattle.views.specs.Views.{slot_by}
use Rattle.worlds.specs.Tables.{links_missing, single_by, single_missing}

module _ (old : Diagram) (wf : WfDiagram old) where
  pub own-slot-below : (e : ℕ) → e < role_count old → slot_by old old e < role_count old
  unfolding slot_by
  own-slot-below e l = role-known old (role_name old e) e l (same_self (role_name old e))

  pub own-links : (t : ℕ) → links_missing old old t ≡ false
  unfolding links_missing
  own-links t = any_none _ (role_count old) (λ e l. same_test _ false (λ q.
      let past : 32 ≤ slot_by old old e = leb-true _ _ (both_left _ _ (both_right _ _ q)) in
      let below = own-slot-below e l in
      let few : length old.associations ≤ 16 = wf.few-associations in
      absurd (omega arith)) (λ q. absurd (false≢true q)))

  pub own-singles : single_missing old old ≡ false
  unfolding single_missing single_by
  own-singles = any_none _ (length old.types) (λ i l. same_test _ false (λ q.
      let past : type_index old (type_at old i).name ≡ length old.types = eqb-true _ _ (both_right _ _ q) in
      let is = index_of old wf i l in
      absurd (omega arith)) (λ q. absurd (false≢true q)))
