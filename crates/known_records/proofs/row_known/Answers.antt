use Rattle.known_records.proofs.KnownLaws.{row_by}
use borrow.Author.Rules.{rules}
use Rattle.known_records.proofs.row_known.Goals as goal

pub returns : goal.returns
returns c = search (rules, row_by)
