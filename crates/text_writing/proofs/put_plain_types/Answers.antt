use Rattle.text_writing.specs.Pieces.{plain_piece}
use Rattle.text_writing.proofs.PuttingLaws.{putting-at, putting-begin, putting-done, putting-fits, putting-long, putting-next, putting-spare}
use borrow.Author.Rules.{rules}
use Rattle.text_writing.proofs.put_plain_types.Goals as goal

pub loop-i-init : goal.loop-i-init
loop-i-init c = putting-begin _ _ _

pub slice_bounds-put_plain_at-count : goal.slice_bounds-put_plain_at-count
slice_bounds-put_plain_at-count c = search (rules, putting-at)

pub slice_bounds-put_plain_at-start : goal.slice_bounds-put_plain_at-start
slice_bounds-put_plain_at-start c = search (rules, putting-at)

pub put_plain_at-at-requires : goal.put_plain_at-at-requires
put_plain_at-at-requires c = search (rules, putting-spare)

pub overflow_add-at : goal.overflow_add-at
unfolding plain_piece
overflow_add-at c = search (rules, putting-fits)

pub loop-i-preserved : goal.loop-i-preserved
unfolding plain_piece
loop-i-preserved c = search (rules, putting-next)

pub shape_of-out : goal.shape_of-out
shape_of-out c = search (rules, putting-long)

pub returns : goal.returns
returns c = search (rules, putting-done)
