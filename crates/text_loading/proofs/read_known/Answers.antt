use Rattle.text_rows.specs.RowAt.{declarations_by}
use Rattle.text_checks.proofs.OverfullLaws.{values-all}
use Rattle.text_loading.proofs.ReadLaws.{short, writable}
use Rattle.text_loading.proofs.ReplyLaws.{few-of, says-many, says-over-52, says-read, says-values}
use borrow.Author.Rules.{rules}
use Rattle.text_loading.proofs.read_known.Goals as goal

pub returns-then-o-gt52 : goal.returns-then-o-gt52
returns-then-o-gt52 c = says-over-52 c.requires.0 c.requires.1 c.args.o.now.outlines (search rules)

pub returns-then-has_many : goal.returns-then-has_many
returns-then-has_many c = says-many c.requires.0 c.requires.1 c.has_many.ensures (search rules)

pub value_names-values-requires : goal.value_names-values-requires
value_names-values-requires c = short c.requires.0

pub returns-then-values-gt12 : goal.returns-then-values-gt12
returns-then-values-gt12 c =
    let v = c.value_names-values in
    says-values c.requires.0 v.result c.requires.1 v.ensures.0 (search rules)

pub read_declared-requires : goal.read_declared-requires
read_declared-requires c =
    let v = c.value_names-values in
    let f = few-of c.args.o.now.body.now v.result c.has_many.ensures (search rules) v.ensures.0 (search rules) in
    (writable c.requires.0 c.requires.1.allowed f, values-all (declarations_by c.args.o.now.body.now) v.result v.ensures.0 (search rules))

pub returns : goal.returns
returns c =
    let v = c.value_names-values in
    let f = few-of c.args.o.now.body.now v.result c.has_many.ensures (search rules) v.ensures.0 (search rules) in
    says-read c.requires.0 c.requires.1 f c.read_declared.ensures
