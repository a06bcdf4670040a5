use Rattle.std.proofs.Common.{refl, rules}
use Rattle.laws.proofs.RangeLaws.{any-range}
use Rattle.texts.specs.TextChecks.{is_declared}
use Rattle.text_rows.specs.RowAt.{declarations_by}
use Rattle.text_checks.proofs.LookedLaws.{declared_at}
use Rattle.text_checks.proofs.is_declared_in_outline.Goals as goal

pub returns : goal.returns
unfolding is_declared
returns c =
    let a = c.args in
    any-range (declared_at a.kind (declarations_by a.o.now.body.now) a.w.now) _ c.any.ensures.ran refl (λ x b q k. search rules)
