use Rattle.std.proofs.Common.{◌≡◌, ap, arith, drop, length, length-drop}
use Rattle.text_outlines.proofs.SuffixLaws.{suffix-part, suffix_within}
use Rattle.text_outlines.proofs.name_in.Goals as goal

pub overflow_sub-result : goal.overflow_sub-result
overflow_sub-result c =
    let s = c.args.row.now.rest.now in
    let i = c.in_ok-w.w.start in
    let e : length c.past-name.result.now ≡ length (drop i s) = ap length c.past-name.ensures in
    omega (arith, suffix_within c.args.body.now s c.requires, length-drop i s)

pub returns : goal.returns
returns c =
    suffix-part c.args.body.now c.args.row.now.rest.now c.in_ok-w.w.start c.in_ok-w.w.size c.requires c.past-name.ensures
    c.in_ok-w.ensures
