use Rattle.std.proofs.Common.{◌∙◌, sym}
use Rattle.field_writers.proofs.PutLaws.{put_as}
use Rattle.text_writing.proofs.ByNamesLaws.{type-field, type-none}
use Rattle.text_writing.proofs.PuttingLaws.{put-none}
use Rattle.text_writing.proofs.ReadyLaws.{parents-at, roomy-at}
use Rattle.text_writing.proofs.Named.put_type_at.Goals as goal

pub put_type-requires : goal.put_type-requires
put_type-requires c =
    let n = c.args.self.now in
    let i = c.declaration.ensures in
    let own = c.requires.1.0 in
    (roomy-at n.writable c.requires.0 i, (parents-at n.writable c.requires.0 i _ n.types_named own, c.requires.1.1))

pub returns-then-is_kind : goal.returns-then-is_kind
returns-then-is_kind c =
    put_as c.put_type.ensures.1 _ (type-field _ _ c.declaration.ensures _ c.args.self.now.types_named c.requires.1.0 (sym c.is_kind.ensures ∙ c.if-is_kind.true))

pub returns : goal.returns
returns c = put-none _ (type-none _ _ (sym c.is_kind.ensures ∙ c.if-is_kind.false))
