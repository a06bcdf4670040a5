use Rattle.text_checks.proofs.OverfullLaws.{many_is}
use borrow.Author.Rules.{rules}
use Rattle.text_checks.proofs.has_many.Goals as goal

pub returns : goal.returns
returns c = search (rules, many_is)
