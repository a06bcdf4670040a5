use Rattle.layouts.proofs.LimitLaws.{end_is}
use Rattle.layouts.proofs.end_laid.Goals as goal

pub returns : goal.returns
returns c = end_is c.args.edition c.args.c.now c.low_of.ensures c.up_of.ensures c.limits_laid.ensures c.role_of.ensures c.starts_name.ensures
