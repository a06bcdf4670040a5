use Rattle.field_writers.proofs.PutLaws.{put_as}
use Rattle.text_writing.proofs.ByNamesLaws.{attribute-fields, attributes-none}
use Rattle.text_writing.proofs.PuttingLaws.{put-none}
use Rattle.text_writing.proofs.ReadyLaws.{attributes-at, roomy-at}
use Rattle.text_writing.proofs.Named.put_attributes_at.Goals as goal

pub put_attributes-requires : goal.put_attributes-requires
put_attributes-requires c =
    let n = c.args.self.now in
    let i = c.declaration.ensures in
    let own = c.requires.1.0 in
    (roomy-at n.writable c.requires.0 i, attributes-at _ _ _ i n.values_named own c.requires.1.1)

pub returns-then-attribute_count-gt0 : goal.returns-then-attribute_count-gt0
returns-then-attribute_count-gt0 c =
    put_as c.put_attributes.ensures _ (attribute-fields _ _ c.declaration.ensures _ c.args.self.now.values_named c.requires.1.0)

pub returns : goal.returns
returns c = put-none _ (attributes-none _ _ c.attribute_count.ensures c.if-attribute_count-gt0.false)
