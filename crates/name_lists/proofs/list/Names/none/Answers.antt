use Rattle.name_lists.proofs.NamesLaws.{names-none}
use mathlib.Core.Path.{refl}
use borrow.Author.Rules.{rules}
use Rattle.name_lists.proofs.list.Names.none.Goals as goal

pub returns : goal.returns
returns c = (search rules, names-none _ refl)
