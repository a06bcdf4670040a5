use Prim.Native.Nat.{ℕ}
use mathlib.Core.Path.{sym}
use lib.ListN.{length-replicate}
use Rattle.cases.proofs.room.Goals as goal

-- by the law for every number: the check would count 524,288 zeros
pub returns : goal.returns
returns c = sym (length-replicate {A = ℕ} 524288 0)
