use borrow.Author.Tests.{le-ltb, lt-ltb}
use Rattle.fields.specs.Slot.{constant_name}
use Rattle.fields.proofs.constant_name.Goals as goal

pub returns-then-k-size : goal.returns-then-k-size
unfolding constant_name
returns-then-k-size c = search (lt-ltb)

pub returns : goal.returns
unfolding constant_name
returns c = search (le-ltb)
