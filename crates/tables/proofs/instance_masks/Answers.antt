use Rattle.tables.proofs.TableLaws.{instances-of}
use Rattle.tables.proofs.instance_masks.Goals as goal

pub returns : goal.returns
returns c = instances-of c.args.d.stored c.args.d.held c.args.m c.masks.result c.requires c.masks.ensures
