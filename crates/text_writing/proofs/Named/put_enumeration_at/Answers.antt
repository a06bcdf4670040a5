use Rattle.std.proofs.Common.{◌∙◌, sym}
use Rattle.field_writers.proofs.PutLaws.{put_as}
use Rattle.text_writing.proofs.ByNamesLaws.{enumeration-field, enumeration-none}
use Rattle.text_writing.proofs.PuttingLaws.{put-none}
use Rattle.text_writing.proofs.ReadyLaws.{roomy-at}
use Rattle.text_writing.proofs.Named.put_enumeration_at.Goals as goal

pub put_enumeration-requires : goal.put_enumeration-requires
put_enumeration-requires c = (roomy-at c.args.self.now.writable c.requires.0 c.declaration.ensures, c.requires.1)

pub returns-then-is_kind : goal.returns-then-is_kind
returns-then-is_kind c = put_as c.put_enumeration.ensures.1 _ (enumeration-field _ _ c.declaration.ensures (sym c.is_kind.ensures ∙ c.if-is_kind.true))

pub returns : goal.returns
returns c = put-none _ (enumeration-none _ _ (sym c.is_kind.ensures ∙ c.if-is_kind.false))
