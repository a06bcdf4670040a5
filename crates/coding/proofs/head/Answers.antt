use Rattle.coding.proofs.ReplyLaws.{says-head}
use Rattle.bench.specs.View.{reply_of}
use Prim.Native.Nat.{ℕ}
use mathlib.Core.List.{List, []}
use mathlib.Core.Path.{ap}
use lib.ListN.{drop, take}
use Rattle.coding.proofs.head.Goals as goal

pub returns : goal.returns
returns c =
    says-head (reply_of c.args.r []) c.told-status.ensures.0 c.told-status.ensures.1 (ap (λ (x : List ℕ). take 4 (drop 4 x)) c.to_be_bytes-length.ensures) c.put.ensures
