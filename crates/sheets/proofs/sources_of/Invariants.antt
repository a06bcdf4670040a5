use mathlib.Core.Path.{◌≡◌}
use lib.ListN.{length}
use Rattle.sheets.proofs.TurnLaws.{TurnedTo}
use Rattle.sheets.proofs.sources_of.Given as goal

abbrev pub invariant-loop-x : goal.invariant-loop-x
invariant-loop-x l = (length l.r ≡ 768) × TurnedTo l.targets l.x l.r
