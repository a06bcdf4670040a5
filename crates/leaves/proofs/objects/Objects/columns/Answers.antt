-- `columns` meets its contract: association by association, and the query's.
-- Assumes nothing.
use Prim.Native.Nat.{ℕ, ◌<◌, ◌≤◌}
use native.Mathlib.Omega.{arith}
use borrow.Author.Rules.{rules}
use borrow.Author.Tests.{tests}
use mathlib.Core.List.{List, []}
use Rattle.link_search.specs.Families.{column_in}
use Rattle.link_search.specs.declared.asked.Column.{Column}
use Rattle.worlds.specs.declared.Lines.{Lines}
use Rattle.worlds.specs.declared.Query.{Query}
use Rattle.leaves.specs.Arrays.{LineAsk, QueryAsk}
use Rattle.leaves.proofs.MadeLaws.{entry-made}
use Rattle.leaves.proofs.objects.Objects.columns.Goals as goal

abbrev One : Lines → Query → List ℕ → ℕ → ℕ → Column → Type 0
One x q types n j c = (j < 16 → LineAsk x types n j c) × (16 ≤ j → QueryAsk q types n c)

pub returns : goal.returns
returns c =
    let a = c.args.self.now in
    let f = entry-made (column_in [] 0) (One a.lines.now a.q.now a.types.now.at a.n) (λ x b q h k. search (rules, tests)) (omega arith) c.from_fn.ensures.items in
    record { line = λ j l. (f j (omega arith)).0 l; query = (f 16 (omega arith)).1 (omega arith) }
