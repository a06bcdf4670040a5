use mathlib.Core.Path.{◌∙◌}
use Rattle.steps.specs.Step.{clear}
use Rattle.bench.proofs.CallLaws.{passed}
use Rattle.bench.proofs.FoundLaws.{no-place}
use Rattle.bench.proofs.StoreLaws.{clear-done}
use Rattle.bench.proofs.cleared.Goals as goal

pub returns-in_err-check_place : goal.returns-in_err-check_place
unfolding clear
returns-in_err-check_place c = passed _ _ _ c.from_residual.ensures.1 ∙ no-place c.args.place _ _ c.in_err-check_place.ensures

pub returns : goal.returns
returns c = clear-done c.args.place c.in_ok-check_place.ensures
