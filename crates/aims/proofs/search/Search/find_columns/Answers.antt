-- `find_columns` meets its contract: column by column.
-- Assumes nothing.
use Prim.Native.Nat.{ℕ}
use Rattle.aims.proofs.ChainLaws.{as_by, each_by}
use Rattle.aims.proofs.ColumnLaws.{column-at, columns_of}
use Rattle.aims.specs.Columns.{ColumnKept}
use Rattle.worlds.specs.Lined.{column_at}
use Rattle.aims.specs.Finds.{Finds}
use Rattle.queries.proofs.FoundLaws.{found-range}
use borrow.Author.Rules.{rules}
use borrow.Author.Tests.{tests}
use mathlib.Core.Path.{refl}
use native.Mathlib.Omega.{arith}
use Rattle.aims.proofs.search.Search.find_columns.Goals as goal

pub returns : goal.returns
returns c =
    let s = c.args.self.now in
    let o = c.args.others.now in
    let K = λ (k : ℕ). ColumnKept (column_at o k) in
    as_by s _ _ _ (λ w h e k _ l. column-at o k l w e) (λ w h e. columns_of o w (λ k l. e k (omega arith) l))
    (each_by s K 0 16 _ (found-range (λ k y. Finds s (K k) y) 0 16 _ c.find_map.ensures.runs refl (λ x y q k. search (rules, tests))))
