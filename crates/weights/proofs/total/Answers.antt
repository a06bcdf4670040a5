use Rattle.weights.proofs.LackLaws.{sum-begin, total-next}
use borrow.Author.Rules.{rules}
use Rattle.weights.proofs.total.Goals as goal

pub loop-o-init : goal.loop-o-init
loop-o-init c = (
  search rules,
  sum-begin _,
)

pub loop-o-preserved : goal.loop-o-preserved
loop-o-preserved c = let l = c.loop-o in (
  search rules,
  total-next _ _ _ _ _ c.args.types.at l.o l.invariant.1 c.limit_at.ensures c.from.ensures c.number_of.ensures c.from-n.ensures,
)
