use Rattle.files.specs.RecordFile.{count_refusal}
use Rattle.checking.proofs.CheckLaws.{checks}
use Rattle.checking.proofs.check_count.Goals as goal

pub returns-then-not-count_laid : goal.returns-then-not-count_laid
unfolding count_refusal
returns-then-not-count_laid c = search checks depth 14 fits 20000

pub returns : goal.returns
unfolding count_refusal
returns c = search checks depth 14 fits 20000
