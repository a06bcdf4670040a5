use Prim.Native.Nat.{◌+◌}
use mathlib.Core.Path.{refl}
use Rattle.text_parts.proofs.CountLaws.{interfaces-count}
use Rattle.texts.specs.Table.{declaration_in}
use Rattle.text_rows.specs.RowAt.{declaration_by}
use Rattle.text_parts.proofs.interface_count.Goals as goal

pub returns : goal.returns
unfolding declaration_by declaration_in
returns c = interfaces-count c.args.row.now.rest.now (c.count_for.result + c.count_for-2.result) c.count_for.result c.count_for-2.result refl c.count_for.ensures.0 c.count_for-2.ensures.0
