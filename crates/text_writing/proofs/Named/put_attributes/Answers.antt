use Rattle.text_writing.proofs.CountingLaws.{types-begin}
use Rattle.text_writing.proofs.PuttingLaws.{putting-at, putting-begin, putting-done, putting-fits, putting-long, putting-next, putting-rest}
use borrow.Author.Rules.{rules}
use Rattle.text_writing.proofs.Named.put_attributes.Goals as goal

pub loop-k-init : goal.loop-k-init
loop-k-init c = (putting-begin _ _ _, types-begin _)

pub slice_bounds-put_attributes_at-count : goal.slice_bounds-put_attributes_at-count
slice_bounds-put_attributes_at-count c = search (rules, putting-at)

pub slice_bounds-put_attributes_at-start : goal.slice_bounds-put_attributes_at-start
slice_bounds-put_attributes_at-start c = search (rules, putting-at)

pub put_attributes_at-at-requires : goal.put_attributes_at-at-requires
put_attributes_at-at-requires c =
    let l = c.loop-k in
    (c.loop-k-test.true, (l.invariant.1, putting-rest l.invariant.0 c.args.self.now.writable.count-is c.requires c.loop-k-test.true))

pub overflow_add-at : goal.overflow_add-at
overflow_add-at c = search (rules, putting-fits)

pub loop-k-preserved : goal.loop-k-preserved
loop-k-preserved c = search (rules, putting-next)

pub shape_of-out : goal.shape_of-out
shape_of-out c = search (rules, putting-long)

pub returns : goal.returns
returns c = search (rules, putting-done)
