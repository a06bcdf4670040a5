use Rattle.std.proofs.Common.{◌∙◌, ap, sym}
use Rattle.texts.specs.Declaration.{is_association}
use Rattle.field_writers.proofs.PutLaws.{put_as}
use Rattle.text_writing.proofs.ByNamesLaws.{association-field, association-none}
use Rattle.text_writing.proofs.PuttingLaws.{put-none}
use Rattle.text_writing.proofs.ReadyLaws.{roomy-at}
use Rattle.text_writing.proofs.Named.put_association_at.Goals as goal

pub put_association-requires : goal.put_association-requires
put_association-requires c =
    let n = c.args.self.now in
    let i = c.declaration.ensures in
    (roomy-at n.writable c.requires.0 i, (ap is_association i ∙ sym c.is_kind.ensures ∙ c.if-is_kind.true, c.requires.1))

pub returns-then-is_kind : goal.returns-then-is_kind
returns-then-is_kind c =
    put_as c.put_association.ensures.1 _ (association-field _ _ c.declaration.ensures _ c.args.self.now.types_named (sym c.is_kind.ensures ∙ c.if-is_kind.true))

pub returns : goal.returns
returns c = put-none _ (association-none _ _ (sym c.is_kind.ensures ∙ c.if-is_kind.false))
