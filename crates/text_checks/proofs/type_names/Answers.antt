use Rattle.text_checks.proofs.CollectedLaws.{types-collected}
use borrow.Author.Rules.{rules}
use Rattle.text_checks.proofs.type_names.Goals as goal

pub returns : goal.returns
returns c = search (rules, types-collected)
