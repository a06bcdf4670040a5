use Rattle.std.proofs.Common.{◌∙◌, ap, rules}
use Rattle.laws.specs.Bounded.{tally}
use Rattle.laws.proofs.RangeLaws.{count-range}
use Rattle.text_parts.specs.Sort.{of_kind}
use Rattle.text_checks.specs.Kinds.{kind_count}
use Rattle.text_checks.proofs.OutlineLaws.{test_at}
use Rattle.text_checks.proofs.kind_count.Goals as goal

pub returns : goal.returns
unfolding kind_count
returns c =
    let o = c.args.o.now.outline.now in
    count-range (test_at (of_kind c.args.kind) o.body.now) _ c.count.ensures.ran c.filter.ensures.source c.filter.ensures.closure (λ x b q k. search rules) ∙ ap (tally (test_at (of_kind c.args.kind) o.body.now)) o.outlines.count-is
