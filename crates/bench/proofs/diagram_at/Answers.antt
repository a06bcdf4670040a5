use mathlib.Core.Path.{◌∙◌}
use Rattle.bench.proofs.CallLaws.{passed}
use Rattle.bench.proofs.FoundLaws.{found-in, place-refused}
use Rattle.bench.proofs.diagram_at.Goals as goal

pub returns-in_err-check_place : goal.returns-in_err-check_place
returns-in_err-check_place c = passed _ _ _ c.from_residual.ensures.1 ∙ place-refused c.args.b.now c.args.p _ c.in_err-check_place.ensures

pub returns : goal.returns
returns c = found-in c.args.b.now c.args.p c.in_ok-check_place.ensures c.place_of.ensures c.ok_or.ensures.value
