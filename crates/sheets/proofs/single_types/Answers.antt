use Rattle.sheets.proofs.TypeSetLaws.{singles-are}
use Rattle.sheets.proofs.single_types.Goals as goal

pub returns : goal.returns
returns c = singles-are c.args.by.now.old.now.stored c.args.by.now.new.now.stored c.singles_by.result c.singles_by.ensures
