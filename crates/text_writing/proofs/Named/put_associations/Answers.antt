use Rattle.text_writing.proofs.PuttingLaws.{putting-at, putting-begin, putting-done, putting-fits, putting-long, putting-next, putting-spare}
use borrow.Author.Rules.{rules}
use Rattle.text_writing.proofs.Named.put_associations.Goals as goal

pub loop-k-init : goal.loop-k-init
loop-k-init c = putting-begin _ _ _

pub slice_bounds-put_association_at-count : goal.slice_bounds-put_association_at-count
slice_bounds-put_association_at-count c = search (rules, putting-at)

pub slice_bounds-put_association_at-start : goal.slice_bounds-put_association_at-start
slice_bounds-put_association_at-start c = search (rules, putting-at)

pub put_association_at-at-requires : goal.put_association_at-at-requires
put_association_at-at-requires c = search (rules, putting-spare)

pub overflow_add-at : goal.overflow_add-at
overflow_add-at c = search (rules, putting-fits)

pub loop-k-preserved : goal.loop-k-preserved
loop-k-preserved c = search (rules, putting-next)

pub shape_of-out : goal.shape_of-out
shape_of-out c = search (rules, putting-long)

pub returns : goal.returns
returns c = search (rules, putting-done)
