use Rattle.text_writing.proofs.FilePartsLaws.{file-parts, file-room, file-size}
use Rattle.text_writing.proofs.TwoWritersLaws.{both-fit, both-put, second-room}
use borrow.Author.Rules.{rules}
use Rattle.text_writing.proofs.put_diagram.Goals as goal

pub invariant_of-named : goal.invariant_of-named
invariant_of-named c =
    let p = c.requires in
    record {
      writable = record { writable = p.0; count-is = c.args.o.now.outline.now.outlines.count-is; few = c.args.o.now.complete };
      types_named = p.1.0;
      values_named = p.1.1.0;
    }

pub put_declared-requires : goal.put_declared-requires
put_declared-requires c = second-room (file-parts _) c.put_head.ensures (file-room _ c.requires.0 c.requires.1.1.1)

pub overflow_add-result : goal.overflow_add-result
overflow_add-result c =
    let p = c.requires in
    let fits = both-fit (file-parts _) c.put_head.ensures (file-room _ p.0 p.1.1.1) c.put_declared.ensures in
    search rules

pub returns : goal.returns
returns c =
    let p = c.requires in
    let put = both-put (file-parts _) c.put_head.ensures (file-room _ p.0 p.1.1.1) c.put_declared.ensures in
    (file-size _ p.0 put, put)
