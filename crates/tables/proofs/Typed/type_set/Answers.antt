use Rattle.tables.proofs.TableLaws.{set_known, set-unknown}
use borrow.Author.Rules.{rules}
use Rattle.tables.proofs.Typed.type_set.Goals as goal

pub returns-then-i-self : goal.returns-then-i-self
returns-then-i-self c = search (rules, set_known)

pub returns-else-i-self : goal.returns-else-i-self
returns-else-i-self c = search (rules, set-unknown)
