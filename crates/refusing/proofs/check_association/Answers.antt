use mathlib.Core.Path.{◌≡◌}
use Rattle.refusing.specs.Numbers.{association_no, whole_right}
use Rattle.refusing.proofs.NumberLaws.{numbers}
use Rattle.refusing.proofs.check_association.Goals as goal

pub returns-then-n-ge16 : goal.returns-then-n-ge16
unfolding association_no
returns-then-n-ge16 c = search numbers depth 14 fits 20000

pub returns-then-not-association_laid : goal.returns-then-not-association_laid
unfolding association_no
returns-then-not-association_laid c = search numbers depth 14 fits 20000

pub returns-then-not-ends_known : goal.returns-then-not-ends_known
unfolding association_no
returns-then-not-ends_known c = search numbers depth 14 fits 20000

pub returns-then-whole_right : goal.returns-then-whole_right
unfolding association_no
returns-then-whole_right c =
    let w : c.whole_right.result ≡ whole_right c.args.edition c.args.c.now = c.whole_right.ensures c.args.edition in
    search numbers depth 14 fits 20000

pub returns : goal.returns
unfolding association_no
returns c =
    let w : c.whole_right.result ≡ whole_right c.args.edition c.args.c.now = c.whole_right.ensures c.args.edition in
    search numbers depth 14 fits 20000
