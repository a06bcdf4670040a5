use Rattle.loading.proofs.TypeLaws.{parents-stored}
use borrow.Author.Rules.{rules}
use Rattle.loading.proofs.storing.store_parents.Goals as goal

pub returns : goal.returns
returns c = search (rules, parents-stored)
