-- The role slots of an association's two ends.
-- Assumes nothing.
use Prim.Native.Nat.{◌%◌, ◌*◌, ◌+◌, ◌/◌, ◌<◌, ℕ}
use native.Mathlib.Omega.{arith}
use mathlib.Core.Bool.{true}
use mathlib.Core.Path.{◌∙◌, ◌≡◌, ap}
use lib.ListN.{length}
use Rattle.files.specs.Diagram.{Diagram, association_at}
use Rattle.files.specs.Name.{Name, same_name}
use Rattle.records.specs.Slots.{role_count, role_name, role_slot}
use Rattle.records.proofs.SlotLaws.{role-known}
use Rattle.rules.specs.Arrow.{Side, r1, r2, target}

module _ (d : Diagram) where
  -- the end that the links of a side go to
  abbrev pub end_of : Side → ℕ → ℕ
  end_of r2 a = a * 2 + 1
  end_of r1 a = a * 2

  pub end-role : (s : Side) (a : ℕ) → role_name d (end_of s a) ≡ (target s (association_at d a)).role
  unfolding role_name
  end-role r2 a =
      let half : (a * 2 + 1) / 2 ≡ a = omega arith in
      let odd : (a * 2 + 1) % 2 ≡ 1 = omega arith in
      rw (odd, half)
  end-role r1 a =
      let half : a * 2 / 2 ≡ a = omega arith in
      let even : a * 2 % 2 ≡ 0 = omega arith in
      rw (even, half)

  pub end_below : (s : Side) (a : ℕ) → a < length d.associations → end_of s a < role_count d
  end_below r2 a l = omega arith
  end_below r1 a l = omega arith

  pub target-known : (w : Name) (s : Side) (a : ℕ) → a < length d.associations → same_name (target s (association_at d a)).role w ≡ true → role_slot d w < role_count d
  target-known w s a l e = role-known d w (end_of s a) (end_below s a l) (ap (λ (v : Name). same_name v w) (end-role s a) ∙ e)
