-- The number of seeds without a type.
use Prim.Native.Nat.{◌-◌}
use Rattle.worlds.specs.Kept.{sheet_of}
use Rattle.growth.proofs.SeedLaws.{Passed}
use Rattle.growth.proofs.wanted.Wanted.+seed.Given as goal

abbrev pub decreases-seed : goal.decreases-seed
decreases-seed l = l.self.now.q.now.seeds - l.k

abbrev pub invariant-loop-t : goal.invariant-loop-t
invariant-loop-t l = Passed (sheet_of l.self.tables.now) l.self.q.now l.types.at l.k l.self.n l.t
