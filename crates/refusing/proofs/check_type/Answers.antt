use Rattle.refusing.proofs.NumberLaws.{numbers, type-by}
use Rattle.refusing.proofs.check_type.Goals as goal

pub returns-then-t-ge24 : goal.returns-then-t-ge24
returns-then-t-ge24 c = type-by c.args.t.now c.args.c.now (search numbers depth 14 fits 20000)

pub returns-then-not-type_laid : goal.returns-then-not-type_laid
returns-then-not-type_laid c = type-by c.args.t.now c.args.c.now (search numbers depth 14 fits 20000)

pub returns-then-type_named : goal.returns-then-type_named
returns-then-type_named c = type-by c.args.t.now c.args.c.now (search numbers depth 14 fits 20000)

pub returns-then-not-parents_rise : goal.returns-then-not-parents_rise
returns-then-not-parents_rise c = type-by c.args.t.now c.args.c.now (search numbers depth 14 fits 20000)

pub returns-then-not-parents_below : goal.returns-then-not-parents_below
returns-then-not-parents_below c = type-by c.args.t.now c.args.c.now (search numbers depth 14 fits 20000)

pub returns-then-kind_breaks : goal.returns-then-kind_breaks
returns-then-kind_breaks c = type-by c.args.t.now c.args.c.now (search numbers depth 14 fits 20000)

pub returns : goal.returns
returns c = type-by c.args.t.now c.args.c.now (search numbers depth 14 fits 20000)
