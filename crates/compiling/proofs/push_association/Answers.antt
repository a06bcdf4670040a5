use native.Mathlib.Omega.{arith}
use Rattle.compiling.proofs.TableLaws.{appends-both}
use Rattle.compiling.proofs.push_association.Goals as goal

pub returns : goal.returns
returns c = (search appends-both, omega arith)
