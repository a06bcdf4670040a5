use Rattle.checking.specs.Progress.{value_no}
use Rattle.checking.proofs.CheckLaws.{checks}
use Rattle.checking.proofs.check_value.Goals as goal

pub returns-then-values-ge256 : goal.returns-then-values-ge256
unfolding value_no
returns-then-values-ge256 c = search checks depth 14 fits 20000

pub returns-then-not-value_laid : goal.returns-then-not-value_laid
unfolding value_no
returns-then-not-value_laid c = search checks depth 14 fits 20000

pub returns-then-values-value_before : goal.returns-then-values-value_before
unfolding value_no
returns-then-values-value_before c = search checks depth 14 fits 20000

pub returns-then-count-byte : goal.returns-then-count-byte
unfolding value_no
returns-then-count-byte c = search checks depth 14 fits 20000

pub returns : goal.returns
unfolding value_no
returns c = search checks depth 14 fits 20000
