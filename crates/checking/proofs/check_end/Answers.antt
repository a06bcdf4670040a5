use Rattle.checking.specs.Progress.{end_no}
use Rattle.checking.proofs.CheckLaws.{checks}
use Rattle.checking.proofs.check_end.Goals as goal

pub returns-then-s-eq0 : goal.returns-then-s-eq0
unfolding end_no
returns-then-s-eq0 c = search checks depth 14 fits 20000

pub returns-then-s : goal.returns-then-s
unfolding end_no
returns-then-s c = search checks depth 14 fits 20000

pub returns : goal.returns
unfolding end_no
returns c = search checks depth 14 fits 20000
