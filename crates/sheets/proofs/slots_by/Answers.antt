use Rattle.sheets.proofs.NamedLaws.{slots-are}
use Rattle.sheets.proofs.slots_by.Goals as goal

pub returns : goal.returns
returns c = slots-are c.args.by.now.old.now.stored c.args.by.now.new.now.stored c.places.result c.args.by.now.old.now.held c.places.ensures.0 c.places.ensures.1
