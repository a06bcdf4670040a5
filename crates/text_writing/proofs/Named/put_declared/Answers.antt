use Rattle.text_writing.proofs.FilePartsLaws.{declared-parts}
use Rattle.text_writing.proofs.TwoWritersLaws.{both-fit, both_long, both-put, first-room, second_at, second-room}
use borrow.Author.Rules.{rules}
use Rattle.text_writing.proofs.Named.put_declared.Goals as goal

pub put_value_types-a-requires : goal.put_value_types-a-requires
put_value_types-a-requires c = first-room (declared-parts _) c.requires

pub slice_bounds-put_types_to_associations-count : goal.slice_bounds-put_types_to_associations-count
slice_bounds-put_types_to_associations-count c =
    second_at (declared-parts _) c.put_value_types-a.ensures c.requires

pub slice_bounds-put_types_to_associations-start : goal.slice_bounds-put_types_to_associations-start
slice_bounds-put_types_to_associations-start c =
    second_at (declared-parts _) c.put_value_types-a.ensures c.requires

pub put_types_to_associations-requires : goal.put_types_to_associations-requires
put_types_to_associations-requires c = second-room (declared-parts _) c.put_value_types-a.ensures c.requires

pub overflow_add-result : goal.overflow_add-result
overflow_add-result c =
    let fits = both-fit (declared-parts _) c.put_value_types-a.ensures c.requires c.put_types_to_associations.ensures in
    search rules

pub shape_of-out : goal.shape_of-out
shape_of-out c =
    both_long (declared-parts _) c.put_value_types-a.ensures c.requires c.put_types_to_associations.ensures

pub returns : goal.returns
returns c =
    both-put (declared-parts _) c.put_value_types-a.ensures c.requires c.put_types_to_associations.ensures
