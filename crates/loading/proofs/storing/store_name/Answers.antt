use Rattle.loading.proofs.SlotLaws.{name-put}
use Rattle.loading.proofs.storing.store_name.Goals as goal

pub returns : goal.returns
returns c = name-put c.args.names.now c.args.w.now _ c.args.i _ c.requires.0 c.requires.1 c.put_name.ensures.1
