use Rattle.std.proofs.Common.{◌∙◌, ap, refl, rules}
use Rattle.laws.specs.Bounded.{any}
use Rattle.laws.proofs.RangeLaws.{any-range}
use Rattle.text_checks.specs.Overlong.{has_overlong, overlong}
use Rattle.text_checks.proofs.OutlineLaws.{test_at}
use Rattle.text_checks.proofs.OverlongLaws.{overlong-at}
use Rattle.text_checks.proofs.has_overlong.Goals as goal

pub returns : goal.returns
unfolding has_overlong
returns c =
    let o = c.args.o.now.outline.now in
    let p = test_at overlong o.body.now in
    any-range p _ c.any.ensures.ran refl (λ x b q k. search (rules, overlong-at)) ∙ ap (any p) o.outlines.count-is
