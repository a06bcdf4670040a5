-- What tables allow does not see two objects change places, and what a query asks for does not see two objects that are no seeds do so.
-- Assumes nothing.
use Prim.Native.Nat.{◌<◌, ℕ}
use mathlib.Core.Path.{◌∙◌, ◌≡◌, ap, ap₂, subst}
use lib.ListN.{get_or}
use native.Mathlib.Omega.{arith}
use Rattle.laws.specs.Bits.{bit}
use Rattle.laws.specs.Swap.{swap}
use Rattle.laws.proofs.SwapLaws.{swap-before, swap-below, swap-from, swap-twice}
use Rattle.growing.specs.World.{Blind}
use Rattle.worlds.specs.declared.Query.{Query}
use Rattle.worlds.specs.Kept.{Allowed, Sheet}
use Rattle.worlds.specs.Asked.{Satisfies, Sane, Solution}
use Rattle.worlds.proofs.RenumberLaws.{column-tally, columns-renumbered, mirrors-renumbered, renumbered-exchanged, row-tally, rows-renumbered, singles-renumbered, wholes-renumbered}

pub blind-allowed : (x : Sheet) → Blind 0 (Allowed x)
blind-allowed x w i j _ _ hi hj a =
    let r = renumbered-exchanged w i j hi hj in
    record {
      few = a.few;
      past = λ s o p h. a.past s (swap i j o) (swap i j p) h;
      inside = λ s o p e. let h = a.inside s (swap i j o) (swap i j p) e in (from-below o h.0, from-below p h.1);
      known = λ o l. a.known (swap i j o) (r.below o l);
      usable = λ o l. a.usable (swap i j o) (r.below o l);
      singles = singles-renumbered r x.singles a.singles;
      rows = rows-renumbered r x.targets x.lows x.highs a.rows;
      columns = columns-renumbered r x.lines a.columns;
      mirrors = mirrors-renumbered r x.lines a.mirrors;
      wholes = wholes-renumbered r x.lines a.wholes;
    }
  where
    -- the exchange once more leads back
    from-below : (o : ℕ) → swap i j o < w.size → o < w.size
    from-below o l = subst (λ (m : ℕ). m < w.size) (swap-twice i j o) (swap-below i j w.size hi hj (swap i j o) l)

pub blind-asked : (q : Query) → Sane q → Blind q.seeds (Satisfies q)
blind-asked q sane w i j pi pj hi hj a =
    let r = renumbered-exchanged w i j hi hj in
    record {
      many = a.many;
      typed = λ o l. ap (λ (m : ℕ). bit (w.kind m) (get_or q.types o 0)) (seed o l) ∙ a.typed o l;
      avoids = λ o h l. a.avoids (swap i j o) (swap-from i j q.seeds pi pj o h) (r.below o l);
      must = λ o s p ho hs hp e. let h = sane.must o s p ho hs hp e in ap₂ (w.link s) (seed o h.0) (seed p h.1) ∙ a.must o s p ho hs hp e;
      shut = λ o s p ho hs hp e. let h = sane.shut o s p ho hs hp e in ap₂ (w.link s) (seed o h.0) (seed p h.1) ∙ a.shut o s p ho hs hp e;
      row = λ h. rw (row-tally r q.row.slot 0, seed 0 h) (a.row h);
      column = λ h. rw (column-tally r q.column.from q.column.slot 0, seed 0 h) (a.column h);
    }
  where
    seed : (o : ℕ) → o < q.seeds → swap i j o ≡ o
    seed = swap-before i j q.seeds pi pj

pub blind-solution : (x : Sheet) (q : Query) (n : ℕ) → Sane q → Blind q.seeds (Solution x q n)
blind-solution x q n sane w i j pi pj hi hj s = record {
  allowed = blind-allowed x w i j (omega arith) (omega arith) hi hj s.allowed;
  asked = blind-asked q sane w i j pi pj hi hj s.asked;
  size = s.size;
}
