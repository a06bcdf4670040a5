use Rattle.text_checks.proofs.TakenLaws.{types-counted, types-short, valued-begin, valued-done, valued-next}
use borrow.Author.Rules.{rules}
use Rattle.text_checks.proofs.value_names.Goals as goal

pub loop-k-init : goal.loop-k-init
loop-k-init c = search (rules, valued-begin)

pub push_types_of-requires : goal.push_types_of-requires
push_types_of-requires c = (search rules, (search (rules, types-counted), search (rules, types-short)))

pub loop-k-preserved : goal.loop-k-preserved
loop-k-preserved c = (search rules, search (rules, valued-next))

pub returns : goal.returns
returns c = search (rules, valued-done)
