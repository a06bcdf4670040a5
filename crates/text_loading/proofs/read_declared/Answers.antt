use Rattle.texts.proofs.DeclaredCountLaws.{few}
use Rattle.text_rows.specs.RowAt.{declarations_by}
use Rattle.text_loading.proofs.ReplyLaws.{loads-at, put_count, put_front}
use borrow.Author.Rules.{rules}
use Rattle.text_loading.proofs.read_declared.Goals as goal

pub type_names-types-requires : goal.type_names-types-requires
type_names-types-requires c = (c.requires.0.short, (few (declarations_by c.args.o.now.outline.now.body.now) c.requires.0.few).types)

pub put_diagram-size-requires : goal.put_diagram-size-requires
put_diagram-size-requires c = (c.requires.0, (c.type_names-types.ensures, (c.requires.1, search rules)))

pub slice_bounds-read_diagram-end : goal.slice_bounds-read_diagram-end
slice_bounds-read_diagram-end c = put_count c.put_diagram-size.ensures.1

pub returns : goal.returns
returns c = loads-at (put_front c.put_diagram-size.ensures.1) c.read_diagram.ensures
