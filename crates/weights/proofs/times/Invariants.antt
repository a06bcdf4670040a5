use Prim.Native.Nat.{◌*◌, ◌+◌, ◌<◌, ◌≤◌, ℕ}
use mathlib.Core.Path.{◌≡◌}
use Rattle.weights.proofs.times.Given as goal

abbrev pub invariant-loop-c : goal.invariant-loop-c
invariant-loop-c l = (l.z ≡ l.y + l.most * l.c) × (l.z ≤ 2040 + 255 * l.c) × ((e : ℕ) → e < l.c → l.y + l.most * e < l.x)
