-- The number of spare places.
use Prim.Native.Nat.{◌-◌}
use Rattle.growing.specs.Growth.{Tried}
use Rattle.growth.specs.Wanted.{wanted}
use Rattle.growth.proofs.wanted.Wanted.+grow.Given as goal

abbrev pub decreases-grow : goal.decreases-grow
decreases-grow l = l.self.now.n - l.k

abbrev pub invariant-loop-t : goal.invariant-loop-t
invariant-loop-t l =
    Tried (wanted l.self) 24 l.types.at l.k l.forb l.self.n l.g l.t l.f
