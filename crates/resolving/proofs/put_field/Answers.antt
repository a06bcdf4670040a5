use Rattle.resolving.proofs.TakeLaws.{count-takes, link-takes, object-takes, value-takes}
use borrow.Author.Rules.{rules}
use Rattle.resolving.proofs.put_field.Goals as goal

pub returns-in-96 : goal.returns-in-96
returns-in-96 c = search (rules, count-takes)

pub returns-in-97 : goal.returns-in-97
returns-in-97 c = search (rules, object-takes)

pub returns-in-98 : goal.returns-in-98
returns-in-98 c = search (rules, value-takes)

pub returns-in_default : goal.returns-in_default
returns-in_default c = search (rules, link-takes) depth 8 fits 20000
