use Rattle.text_writing.proofs.CountingLaws.{enumerations-counted}
use Rattle.text_writing.proofs.FilePartsLaws.{count-below, value-parts}
use Rattle.text_writing.proofs.TwoWritersLaws.{both-fit, both_long, both-put, first-room, second_at, second-room}
use borrow.Author.Rules.{rules}
use Rattle.text_writing.proofs.Named.put_value_types.Goals as goal

pub put_enumerations-a-requires : goal.put_enumerations-a-requires
put_enumerations-a-requires c =
    let w = value-parts _ _ c.args.self.now.values_named (enumerations-counted _ c.kind_count-count.ensures) in
    first-room w c.requires

pub slice_bounds-put_plain_types-count : goal.slice_bounds-put_plain_types-count
slice_bounds-put_plain_types-count c =
    let w = value-parts _ _ c.args.self.now.values_named (enumerations-counted _ c.kind_count-count.ensures) in
    second_at w c.put_enumerations-a.ensures c.requires

pub slice_bounds-put_plain_types-start : goal.slice_bounds-put_plain_types-start
slice_bounds-put_plain_types-start c =
    let w = value-parts _ _ c.args.self.now.values_named (enumerations-counted _ c.kind_count-count.ensures) in
    second_at w c.put_enumerations-a.ensures c.requires

pub put_plain_types-requires : goal.put_plain_types-requires
put_plain_types-requires c =
    let w = value-parts _ _ c.args.self.now.values_named (enumerations-counted _ c.kind_count-count.ensures) in
    (count-below _ _ c.args.self.now.values_named (enumerations-counted _ c.kind_count-count.ensures), second-room w c.put_enumerations-a.ensures c.requires)

pub overflow_add-result : goal.overflow_add-result
overflow_add-result c =
    let w = value-parts _ _ c.args.self.now.values_named (enumerations-counted _ c.kind_count-count.ensures) in
    let fits = both-fit w c.put_enumerations-a.ensures c.requires c.put_plain_types.ensures in
    search rules

pub shape_of-out : goal.shape_of-out
shape_of-out c =
    let w = value-parts _ _ c.args.self.now.values_named (enumerations-counted _ c.kind_count-count.ensures) in
    both_long w c.put_enumerations-a.ensures c.requires c.put_plain_types.ensures

pub returns : goal.returns
returns c =
    let w = value-parts _ _ c.args.self.now.values_named (enumerations-counted _ c.kind_count-count.ensures) in
    both-put w c.put_enumerations-a.ensures c.requires c.put_plain_types.ensures
