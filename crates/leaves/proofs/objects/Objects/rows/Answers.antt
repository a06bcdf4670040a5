-- `rows` meets its contract: row by row.
-- Assumes nothing.
use native.Mathlib.Omega.{arith}
use borrow.Author.Rules.{rules}
use borrow.Author.Tests.{tests}
use Rattle.link_search.specs.Families.{no_limits}
use Rattle.leaves.specs.Arrays.{RowAsk}
use Rattle.leaves.proofs.MadeLaws.{entry-made}
use Rattle.leaves.proofs.objects.Objects.rows.Goals as goal

pub returns : goal.returns
returns c =
    let a = c.args.self.now in
    entry-made no_limits (λ i l. RowAsk c.args.lows.now c.args.highs.now a.types.now.at a.n a.q.now i l) (λ x b q h k. search (rules, tests)) (omega arith) c.from_fn.ensures.items
