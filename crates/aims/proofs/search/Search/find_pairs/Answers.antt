-- `find_pairs` meets its contract: each from j on.
-- Assumes nothing.
use Prim.Native.Nat.{ℕ}
use Rattle.aims.proofs.ChainLaws.{as_by, each_by}
use Rattle.aims.specs.Finds.{Finds}
use Rattle.aims.specs.Wholes.{PairApart}
use Rattle.queries.proofs.FoundLaws.{found-range}
use Rattle.worlds.specs.Lined.{whole_at}
use borrow.Author.Rules.{rules}
use borrow.Author.Tests.{tests}
use mathlib.Core.Path.{refl}
use Rattle.aims.proofs.search.Search.find_pairs.Goals as goal

pub returns : goal.returns
returns c =
    let s = c.args.self.now in
    let o = c.args.others.now in
    let j = c.args.j in
    let K = λ (k : ℕ). PairApart (whole_at o j) (whole_at o k) in
    as_by s _ _ _ (λ w _ e. e.at) (λ w _ e. record { at = e })
    (each_by s K j 16 _ (found-range (λ k y. Finds s (K k) y) j 16 _ c.find_map.ensures.runs refl (λ x y q k. search (rules, tests))))
