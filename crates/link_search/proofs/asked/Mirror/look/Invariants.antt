-- All objects that were passed agree by what must stand.
use Prim.Native.Nat.{ℕ, ◌<◌}
use Rattle.link_search.specs.Nets.{net_of}
use Rattle.link_search.specs.Families.{MirrorHolds}
use Rattle.link_search.proofs.asked.Mirror.look.Given as goal

abbrev pub invariant-loop-o : goal.invariant-loop-o
invariant-loop-o l = (i : ℕ) → i < l.o → (j : ℕ) → j < 8 → MirrorHolds l.self (net_of l.bounds.must) i j

abbrev pub invariant-loop-p : goal.invariant-loop-p
invariant-loop-p l = ((i : ℕ) → i < l.o → (j : ℕ) → j < 8 → MirrorHolds l.self (net_of l.bounds.must) i j) × ((j : ℕ) → j < l.p → MirrorHolds l.self (net_of l.bounds.must) l.o j)
