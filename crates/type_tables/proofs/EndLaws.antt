-- An end is that of one side of one association: the end that this side's links go to. Every end of a diagram is such a one.
-- Assumes nothing.
use Prim.Native.Nat.{◌%◌, ◌*◌, ◌+◌, ◌-◌, ◌/◌, ◌<◌, ℕ}
use native.Mathlib.Decide.{dec_lt}
use native.Mathlib.Omega.{arith}
use mathlib.Core.Path.{◌≡◌, subst}
use lib.ListN.{length}
use Rattle.files.specs.Diagram.{Diagram, association_at}
use Rattle.records.specs.Slots.{role_count}
use Rattle.rules.specs.Arrow.{Side, carries, r1, r2, source, target}
use Rattle.memory_rules.proofs.SlotLaws.{end_of}
use Rattle.type_tables.specs.Rows.{carried_to, end_at, opposite}

module _ (d : Diagram) where
  pub end-at : (s : Side) (a : ℕ) → end_at d (end_of d s a) ≡ target s (association_at d a)
  unfolding end_at
  end-at r2 a =
      let half : (a * 2 + 1) / 2 ≡ a = omega arith in
      let odd : (a * 2 + 1) % 2 ≡ 1 = omega arith in
      rw (odd, half)
  end-at r1 a =
      let half : a * 2 / 2 ≡ a = omega arith in
      let even : a * 2 % 2 ≡ 0 = omega arith in
      rw (even, half)

  pub end-opposite : (s : Side) (a : ℕ) → end_at d (opposite d (end_of d s a)) ≡ source s (association_at d a)
  unfolding opposite
  end-opposite r2 a =
      let odd : (a * 2 + 1) % 2 ≡ 1 = omega arith in
      let less : a * 2 + 1 - 1 ≡ a * 2 = omega arith in
      rw (odd, less) (end-at r1 a)
  end-opposite r1 a = let even : a * 2 % 2 ≡ 0 = omega arith in rw even (end-at r2 a)

  pub carried-to : (s : Side) (a : ℕ) → carried_to d (end_of d s a) ≡ carries s (association_at d a)
  unfolding carried_to
  carried-to r2 a =
      let half : (a * 2 + 1) / 2 ≡ a = omega arith in
      let odd : (a * 2 + 1) % 2 ≡ 1 = omega arith in
      rw (odd, half)
  carried-to r1 a =
      let half : a * 2 / 2 ≡ a = omega arith in
      let even : a * 2 % 2 ≡ 0 = omega arith in
      rw (even, half)

  -- what holds of each side's end holds of each end
  pub each-end : (P : ℕ → Type 0) → ((s : Side) (a : ℕ) → a < length d.associations → P (end_of d s a)) → (e : ℕ) → e < role_count d → P e
  each-end P f e l = go (dec_lt (e % 2) 1)
    where
      go : Dec (e % 2 < 1) → P e
      go (yes b) = let even : e / 2 * 2 ≡ e = omega arith in subst P even (f r1 (e / 2) (omega arith))
      go (no b) = let odd : e / 2 * 2 + 1 ≡ e = omega arith in subst P odd (f r2 (e / 2) (omega arith))
