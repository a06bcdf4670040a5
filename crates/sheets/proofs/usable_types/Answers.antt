use Rattle.sheets.proofs.TypeSetLaws.{usable-are}
use Rattle.sheets.proofs.usable_types.Goals as goal

pub returns : goal.returns
returns c =
    let by = c.args.by.now in
    usable-are by.pair.old.now.stored by.dues.now c.usable_of.result by.due c.usable_of.ensures
