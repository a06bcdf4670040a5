use Rattle.type_tables.proofs.TypePlaceLaws.{types-placed}
use Rattle.type_tables.proofs.type_places.Goals as goal

pub returns : goal.returns
returns c = types-placed c.args.d.now.stored c.args.e.now.stored c.places.result c.places.ensures.0
