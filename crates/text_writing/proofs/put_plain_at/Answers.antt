use mathlib.Core.Path.{refl}
use Rattle.field_writers.proofs.PutLaws.{put_as}
use Rattle.text_writing.proofs.PlainLaws.{slot-field, slot-short}
use Rattle.text_writing.proofs.put_plain_at.Goals as goal

pub put_plain_type-requires : goal.put_plain_type-requires
put_plain_type-requires c =
    (slot-short c.args.values.now.names c.args.i c.slot_name.ensures, c.requires.1)

pub returns : goal.returns
returns c =
    let p = c.put_plain_type.ensures in
    put_as p.1 _ (slot-field c.args.values.now c.args.i c.requires.0 refl c.slot_name.ensures)
