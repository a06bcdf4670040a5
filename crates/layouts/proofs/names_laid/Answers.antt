use borrow.Author.Rules.{rules}
use borrow.Author.Tests.{tests}
use Rattle.layouts.proofs.NamesLaws.{laid-not, laid_end, past-begin, past_next, starts-begin, starts-next}
use Rattle.layouts.proofs.names_laid.Goals as goal

pub loop-init : goal.loop-init
loop-init c = search (past-begin, starts-begin)

pub returns-then-not-starts_name : goal.returns-then-not-starts_name
returns-then-not-starts_name c = search (rules, tests, laid-not)

pub loop-preserved : goal.loop-preserved
loop-preserved c = search (rules, tests, past_next, starts-next)

pub returns : goal.returns
returns c = search (rules, tests, laid_end)
