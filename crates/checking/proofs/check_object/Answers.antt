use Rattle.checking.specs.Progress.{object_no}
use Rattle.checking.proofs.CheckLaws.{checks}
use Rattle.checking.proofs.check_object.Goals as goal

pub returns-then-count-objects : goal.returns-then-count-objects
unfolding object_no
returns-then-count-objects c = search checks depth 14 fits 20000

pub returns-then-not-object_laid : goal.returns-then-not-object_laid
unfolding object_no
returns-then-not-object_laid c = search checks depth 14 fits 20000

pub returns : goal.returns
unfolding object_no
returns c = search checks depth 14 fits 20000
