use Rattle.text_writing.proofs.FilePartsLaws.{attribute-parts}
use Rattle.text_writing.proofs.TwoWritersLaws.{both-fit, both_long, both-put, first-room, second_at, second-room}
use borrow.Author.Rules.{rules}
use Rattle.text_writing.proofs.Named.put_attributes_and_associations.Goals as goal

pub put_attributes-a-requires : goal.put_attributes-a-requires
put_attributes-a-requires c = first-room (attribute-parts _) c.requires

pub slice_bounds-put_associations-count : goal.slice_bounds-put_associations-count
slice_bounds-put_associations-count c =
    second_at (attribute-parts _) c.put_attributes-a.ensures c.requires

pub slice_bounds-put_associations-start : goal.slice_bounds-put_associations-start
slice_bounds-put_associations-start c =
    second_at (attribute-parts _) c.put_attributes-a.ensures c.requires

pub put_associations-requires : goal.put_associations-requires
put_associations-requires c = second-room (attribute-parts _) c.put_attributes-a.ensures c.requires

pub overflow_add-result : goal.overflow_add-result
overflow_add-result c =
    let fits = both-fit (attribute-parts _) c.put_attributes-a.ensures c.requires c.put_associations.ensures in
    search rules

pub shape_of-out : goal.shape_of-out
shape_of-out c =
    both_long (attribute-parts _) c.put_attributes-a.ensures c.requires c.put_associations.ensures

pub returns : goal.returns
returns c =
    both-put (attribute-parts _) c.put_attributes-a.ensures c.requires c.put_associations.ensures
