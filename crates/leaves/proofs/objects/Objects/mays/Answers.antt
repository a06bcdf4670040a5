-- `mays` meets its contract: row by row.
-- Assumes nothing.
use native.Mathlib.Omega.{arith}
use borrow.Author.Rules.{rules}
use borrow.Author.Tests.{tests}
use Rattle.leaves.specs.Arrays.{RowMay}
use Rattle.leaves.proofs.MadeLaws.{entry-made}
use Rattle.leaves.proofs.objects.Objects.mays.Goals as goal

pub returns : goal.returns
returns c =
    let a = c.args.self.now in
    entry-made 0 (λ i v. RowMay c.args.targets.now a.types.now.at a.n a.q.now.shut i v) (λ x b q h k. search (rules, tests) fits 20000) (omega arith) c.from_fn.ensures.items
