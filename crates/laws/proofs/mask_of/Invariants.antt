use Prim.Native.Nat.{ℕ, ◌<◌}
use mathlib.Core.Bool.{Bool}
use mathlib.Core.Path.{◌≡◌}
use Rattle.laws.specs.Bits.{Marks}
use Rattle.laws.proofs.mask_of.Given as goal

-- the numbers so far
abbrev pub invariant-loop-t : goal.invariant-loop-t
invariant-loop-t g l = (p : ℕ → Bool) → ((t : ℕ) (b : Bool) → t < l.n → g.F.Fn.post l.test (t, tt) b → b ≡ p t) → Marks p l.t (g.M.Mask.value l.mask)
