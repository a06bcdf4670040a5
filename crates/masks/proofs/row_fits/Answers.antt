use mathlib.Core.Path.{ap, ◌∙◌}
use Rattle.rules.specs.Arrow.{within}
use Rattle.laws.proofs.SearchLaws.{both-no, both_yes, is-no, is-yes}
use Rattle.masks.specs.Masks.{limits_of, row_fits}
use Rattle.laws.proofs.BitLaws.{inside-test}
use borrow.Author.Rules.{rules}
use Rattle.masks.proofs.row_fits.Goals as goal

pub returns-then-is_inside : goal.returns-then-is_inside
unfolding row_fits
returns-then-is_inside c =
    both_yes (is-yes (c.is_inside.ensures ∙ inside-test 8 c.args.targets c.args.to (search rules) (search rules)) c.if-is_inside.true)
    (c.admits.ensures ∙ ap (within (limits_of c.args.limits)) c.count8.ensures.0)

pub returns-else-is_inside : goal.returns-else-is_inside
unfolding row_fits
returns-else-is_inside c =
    c.if-is_inside.false ∙ both-no _ (is-no (c.is_inside.ensures ∙ inside-test 8 c.args.targets c.args.to (search rules) (search rules)) c.if-is_inside.false)
