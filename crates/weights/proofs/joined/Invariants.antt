use Prim.Native.Nat.{◌<◌, ℕ}
use mathlib.Core.Bool.{true}
use mathlib.Core.Path.{◌≡◌}
use lib.ListN.{get_or}
use Rattle.laws.specs.Bits.{bit}
use Rattle.worlds.specs.Lined.{zero_whole}
use Rattle.weights.proofs.joined.Given as goal

abbrev pub invariant-loop-whole : goal.invariant-loop-whole
invariant-loop-whole l = (i : ℕ) → i < l.whole-index → (t : ℕ) → bit t (get_or l.wholes i zero_whole).to ≡ true → bit t l.to ≡ true
