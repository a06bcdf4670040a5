use Rattle.checking.specs.Progress.{link_no}
use Rattle.checking.proofs.CheckLaws.{checks}
use Rattle.checking.proofs.check_link.Goals as goal

pub returns-then-links-ge2048 : goal.returns-then-links-ge2048
unfolding link_no
returns-then-links-ge2048 c = search checks depth 14 fits 20000

pub returns-then-not-link_laid : goal.returns-then-not-link_laid
unfolding link_no
returns-then-not-link_laid c = search checks depth 14 fits 20000

pub returns-then-links-link_before : goal.returns-then-links-link_before
unfolding link_no
returns-then-links-link_before c = search checks depth 14 fits 20000

pub returns-then-not-ends_known : goal.returns-then-not-ends_known
unfolding link_no
returns-then-not-ends_known c = search checks depth 14 fits 20000

pub returns : goal.returns
unfolding link_no
returns c = search checks depth 14 fits 20000
