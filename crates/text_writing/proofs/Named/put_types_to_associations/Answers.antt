use Rattle.text_writing.proofs.FilePartsLaws.{type-parts}
use Rattle.text_writing.proofs.TwoWritersLaws.{both-fit, both_long, both-put, first-room, second_at, second-room}
use borrow.Author.Rules.{rules}
use Rattle.text_writing.proofs.Named.put_types_to_associations.Goals as goal

pub put_types-a-requires : goal.put_types-a-requires
put_types-a-requires c = first-room (type-parts _) c.requires

pub slice_bounds-put_attributes_and_associations-count : goal.slice_bounds-put_attributes_and_associations-count
slice_bounds-put_attributes_and_associations-count c =
    second_at (type-parts _) c.put_types-a.ensures c.requires

pub slice_bounds-put_attributes_and_associations-start : goal.slice_bounds-put_attributes_and_associations-start
slice_bounds-put_attributes_and_associations-start c =
    second_at (type-parts _) c.put_types-a.ensures c.requires

pub put_attributes_and_associations-requires : goal.put_attributes_and_associations-requires
put_attributes_and_associations-requires c = second-room (type-parts _) c.put_types-a.ensures c.requires

pub overflow_add-result : goal.overflow_add-result
overflow_add-result c =
    let fits = both-fit (type-parts _) c.put_types-a.ensures c.requires c.put_attributes_and_associations.ensures in
    search rules

pub shape_of-out : goal.shape_of-out
shape_of-out c =
    both_long (type-parts _) c.put_types-a.ensures c.requires c.put_attributes_and_associations.ensures

pub returns : goal.returns
returns c =
    both-put (type-parts _) c.put_types-a.ensures c.requires c.put_attributes_and_associations.ensures
