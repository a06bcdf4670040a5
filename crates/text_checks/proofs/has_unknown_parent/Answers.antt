use Rattle.text_checks.proofs.UnknownLaws.{parents-unknown}
use borrow.Author.Rules.{rules}
use Rattle.text_checks.proofs.has_unknown_parent.Goals as goal

pub returns : goal.returns
returns c = search (rules, parents-unknown)
