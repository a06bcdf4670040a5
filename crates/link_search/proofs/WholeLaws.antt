-- A net between has each whole that must be one: two of them for one part are too many.
-- Assumes nothing.
use Prim.Native.Nat.{ℕ, ◌+◌, ◌*◌, ◌<◌}
use mathlib.Core.Path.{◌≡◌}
use mathlib.Core.Bool.{Bool, true, ◌&&◌}
use mathlib.Core.List.{List}
use native.Mathlib.Omega.{arith}
use Rattle.laws.specs.Bits.{bit}
use Rattle.laws.specs.Bounded.{tally}
use Rattle.laws.proofs.ConnectiveLaws.{and_left, and_right, and_both}
use Rattle.laws.proofs.BoundedLaws.{any_at, any_of}
use Rattle.laws.proofs.CountLaws.{tally-mono}
use Rattle.link_search.specs.Nets.{Net, net_of, Between}
use Rattle.link_search.specs.Families.{part, whole, whole_in, Wholes}
use Rattle.link_search.specs.declared.asked.Whole.{Whole}

module _ (wholes : List Whole) (must may : List ℕ) (w : Net) (b : Between must may w) where
  pub whole-kept : (p o : ℕ) → p < 8 → o < 8 → whole wholes (net_of must) p o ≡ true → whole wholes w p o ≡ true
  unfolding whole
  whole-kept p o hp ho e =
      let v = any_at (λ j. part (whole_in wholes j) (net_of must) p o) 16 e in
      let c = whole_in wholes v.0 in
      let ends : Bool = bit o c.from && bit p c.to in
      let s : c.slot < 32 = c.slotted in
      any_of (λ j. part (whole_in wholes j) w p o) 16 v.0 v.1
      (and_both ends (w (o * 32 + c.slot) p) (and_left ends (net_of must (o * 32 + c.slot) p) v.2)
      (b.least (o * 32 + c.slot) p (omega arith) hp (and_right ends (net_of must (o * 32 + c.slot) p) v.2)))

  pub wholes-dead : (p : ℕ) → p < 8 → 1 < tally (whole wholes (net_of must) p) 8 → Wholes wholes w → ⊥
  wholes-dead p hp l ok =
      omega (arith, ok.at p hp, tally-mono (whole wholes (net_of must) p) (whole wholes w p) 8 (λ o ho h. whole-kept p o hp ho h))
