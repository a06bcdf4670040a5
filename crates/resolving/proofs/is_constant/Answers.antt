use Rattle.resolving.proofs.LookupLaws.{constant-by}
use Rattle.laws.proofs.ConnectiveLaws.{and-is-both}
use Rattle.resolving.proofs.is_constant.Goals as goal

pub returns : goal.returns
returns c = let a = c.args in let e = constant-by a.constants.now a.size a.c.now a.k in simp and-is-both cc
