-- `among` meets its contract: the mask of a test.
-- Assumes nothing.
use borrow.Author.Rules.{rules}
use borrow.Author.Tests.{tests}
use Rattle.leaves.specs.Fitting.{typed}
use Rattle.leaves.proofs.objects.Objects.among.Goals as goal

pub returns : goal.returns
returns c = c.mask_of.ensures (typed c.args.self.now.types.now.at c.args.set) (λ o b l k. search (rules, tests))
