-- `narrowed` meets its contract: row by row.
-- Assumes nothing.
use Prim.Native.Nat.{◌/◌}
use mathlib.Core.Path.{◌≡◌}
use lib.ListN.{get_or}
use Rattle.laws.proofs.ArrayLaws.{made-at}
use Rattle.narrowing.specs.Narrow.{usable_row}
use Rattle.narrowing.proofs.RowLaws.{narrows}
use borrow.Author.Rules.{rules}
use borrow.Author.Tests.{tests}
use Rattle.narrowing.proofs.narrowed.Goals as goal

pub returns : goal.returns
returns c =
    let a = c.args in
    λ singles lows x. narrows a.usable singles a.targets.now lows a.highs.now x c.from_fn.result
    (made-at (λ i b. b ≡ usable_row (get_or a.targets.now i 0) (get_or a.highs.now i 0) a.usable (i / 32)) (λ i b q k. search (rules, tests)) c.from_fn.ensures.items)
