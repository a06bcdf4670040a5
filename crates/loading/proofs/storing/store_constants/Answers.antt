use Rattle.loading.proofs.StoredLaws.{constants-begin, constants-next, constants-done, constant-short}
use borrow.Author.Rules.{rules}
use Rattle.layouts.proofs.NamesLaws.{past-begin, past_next}
use Rattle.loading.proofs.storing.store_constants.Goals as goal

pub loop-i-init : goal.loop-i-init
loop-i-init c = search (rules, past-begin, constants-begin)

pub store_name-requires : goal.store_name-requires
store_name-requires c = (search rules, search constant-short)

pub loop-i-preserved : goal.loop-i-preserved
loop-i-preserved c = search (rules, past_next, constants-next)

pub returns : goal.returns
returns c = search (rules, constants-done)
