use Rattle.text_checks.proofs.CountedLaws.{used-begin, used-done, used-next, used_over, used-over-alone}
use borrow.Author.Rules.{rules}
use Rattle.text_checks.proofs.has_many_attributes.Goals as goal

pub loop-k-init : goal.loop-k-init
loop-k-init c = search (rules, used-begin)

pub returns-then-attributes-gt32 : goal.returns-then-attributes-gt32
returns-then-attributes-gt32 c = search (rules, used-over-alone)

pub returns-then-used-gt32 : goal.returns-then-used-gt32
returns-then-used-gt32 c = search (rules, used_over)

pub loop-k-preserved : goal.loop-k-preserved
loop-k-preserved c = search (rules, used-next)

pub returns : goal.returns
returns c = search (rules, used-done)
