use mathlib.Core.Path.{◌∙◌}
use Rattle.texts.specs.ReadText.{read_text}
use Rattle.steps.specs.Step.{placed}
use Rattle.bench.proofs.CallLaws.{passed}
use Rattle.bench.proofs.FoundLaws.{no-place}
use Rattle.bench.proofs.StoreLaws.{read-done, read-refused}
use Rattle.bench.proofs.loaded_text.Goals as goal

pub returns-in_err-check_place : goal.returns-in_err-check_place
unfolding placed
returns-in_err-check_place c = passed _ _ _ c.from_residual.ensures.1 ∙ no-place c.args.place _ _ c.in_err-check_place.ensures

pub returns-in_err-d : goal.returns-in_err-d
returns-in_err-d c =
    passed _ _ _ c.from_residual-in_err-d.ensures.1
    ∙ read-refused c.args.place (read_text c.args.text.now) c.in_ok-check_place.ensures c.in_err-d.ensures.says

pub returns : goal.returns
returns c = read-done c.args.place (read_text c.args.text.now) c.in_ok-check_place.ensures c.in_ok-d.ensures.says
