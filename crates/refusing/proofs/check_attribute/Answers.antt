use Rattle.refusing.specs.Numbers.{attribute_no}
use Rattle.refusing.proofs.NumberLaws.{numbers}
use Rattle.refusing.proofs.check_attribute.Goals as goal

pub returns-then-n-ge32 : goal.returns-then-n-ge32
unfolding attribute_no
returns-then-n-ge32 c = search numbers depth 14 fits 20000

pub returns-then-not-attribute_laid : goal.returns-then-not-attribute_laid
unfolding attribute_no
returns-then-not-attribute_laid c = search numbers depth 14 fits 20000

pub returns-then-not-attribute_known : goal.returns-then-not-attribute_known
unfolding attribute_no
returns-then-not-attribute_known c = search numbers depth 14 fits 20000

pub returns : goal.returns
unfolding attribute_no
returns c = search numbers depth 14 fits 20000
