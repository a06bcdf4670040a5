-- `find_singles` meets its contract: type by type.
-- Assumes nothing.
use Prim.Native.Nat.{ℕ}
use Rattle.aims.proofs.ChainLaws.{as_by, each_by}
use Rattle.aims.proofs.SingleLaws.{single-at, singles-of}
use Rattle.aims.specs.Finds.{Finds}
use Rattle.aims.specs.Singles.{SingleKept}
use Rattle.queries.proofs.FoundLaws.{found-range}
use borrow.Author.Rules.{rules}
use borrow.Author.Tests.{tests}
use mathlib.Core.Path.{refl}
use native.Mathlib.Omega.{arith}
use Rattle.aims.proofs.search.Search.find_singles.Goals as goal

pub returns : goal.returns
returns c =
    let s = c.args.self.now in
    let o = c.args.others in
    let K = λ (k : ℕ). SingleKept o k in
    as_by s _ _ _ (λ w h e k _ l. single-at _ _ l w e) (λ w h e. singles-of _ w (λ k l. e k (omega arith) l))
    (each_by s K 0 24 _ (found-range (λ k y. Finds s (K k) y) 0 24 _ c.find_map.ensures.runs refl (λ x y q k. search (rules, tests))))
