use Rattle.loading.proofs.AssociationLaws.{upper-none, upper-some}
use Rattle.loading.proofs.storing.upper.Goals as goal

pub returns-then-up-none_of : goal.returns-then-up-none_of
returns-then-up-none_of c = upper-none c.args.edition c.args.up c.none_of.result c.none_of.ensures c.if-up-none_of.true

pub returns-else-up-none_of : goal.returns-else-up-none_of
returns-else-up-none_of c = upper-some c.args.edition c.args.up c.none_of.result c.none_of.ensures c.if-up-none_of.false c.requires
