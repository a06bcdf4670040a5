-- A world in another numbering keeps what tables ask for: counts over all objects do not depend on the numbering, and all else is asked
-- of each object.
-- Assumes nothing.
use Prim.Native.Nat.{◌*◌, ◌+◌, ◌<◌, ℕ}
use mathlib.Core.Bool.{Bool, ◌&&◌}
use mathlib.Core.List.{List}
use mathlib.Core.Path.{◌∙◌, ◌≡◌, ap, ap₂, refl, sym}
use lib.Dec.{eqb}
use lib.ListN.{get_or}
use native.Mathlib.Omega.{arith}
use borrow.Author.Tests.{eq-eqb, eqb-true}
use Rattle.laws.specs.Bits.{bit}
use Rattle.laws.specs.Bounded.{tally}
use Rattle.laws.specs.Swap.{swap}
use Rattle.laws.proofs.BoundedLaws.{any-ext}
use Rattle.laws.proofs.CountLaws.{tally-ext, tally-holds, tally-some}
use Rattle.laws.proofs.SwapLaws.{swap-below, tally-swap}
use Rattle.growing.specs.World.{World, exchanged}
use Rattle.worlds.specs.declared.Lines.{Lines}
use Rattle.worlds.specs.Kept.{ColumnsKept, MirrorsKept, RowsKept, SinglesKept, WholesKept, whole_by, whole_of}
use Rattle.worlds.specs.Renumbered.{Renumbered}
use Rattle.worlds.specs.Lined.{column_at, mirror_at, whole_at}

-- ---- numberings

pub renumbered-same : (w : World) → Renumbered w w (λ o. o)
renumbered-same w = record { size = refl; kind = λ o. refl; link = λ s o p. refl; below = λ o l. l; counted = λ q. refl }

pub renumbered-exchanged : (w : World) (i j : ℕ) → i < w.size → j < w.size → Renumbered w (exchanged i j w) (swap i j)
renumbered-exchanged w i j hi hj = record {
  size = refl;
  kind = λ o. refl;
  link = λ s o p. refl;
  below = swap-below i j w.size hi hj;
  counted = tally-swap i j w.size hi hj;
}

-- one numbering after the other
pub renumbered-then : {w v u : World} {at to : ℕ → ℕ} → Renumbered w v at → Renumbered v u to → Renumbered w u (λ o. at (to o))
renumbered-then {w} {v} {u} {at} {to} r z = record {
  size = z.size ∙ r.size;
  kind = λ o. z.kind o ∙ r.kind (to o);
  link = λ s o p. z.link s o p ∙ r.link s (to o) (to p);
  below = λ o l. r.below (to o) (omega (arith, r.size, z.below o (omega (arith, r.size))));
  counted = λ q. ap (tally (λ o. q (at (to o)))) (sym r.size) ∙ z.counted (λ o. q (at o)) ∙ ap (tally (λ o. q (at o))) r.size ∙ r.counted q;
}

module _ {w v : World} {at : ℕ → ℕ} (r : Renumbered w v at) where
  -- ---- counts

  -- how many targets an object has in a role slot
  pub row-tally : (s i : ℕ) → tally (λ p. v.link s i p) v.size ≡ tally (λ p. w.link s (at i) p) w.size
  row-tally s i =
      ap (tally (λ p. v.link s i p)) r.size ∙ tally-ext _ _ w.size (λ p l. r.link s i p) ∙ r.counted (λ p. w.link s (at i) p)

  -- how many sources it has there, among the objects of the types of the mask
  pub column-tally : (m s i : ℕ)
      → tally (λ o. bit (v.kind o) m && v.link s o i) v.size ≡ tally (λ o. bit (w.kind o) m && w.link s o (at i)) w.size
  column-tally m s i =
      ap (tally (λ o. bit (v.kind o) m && v.link s o i)) r.size
      ∙ tally-ext _ _ w.size (λ o l. ap₂ (λ (x : ℕ) (b : Bool). bit x m && b) (r.kind o) (r.link s o i))
      ∙ r.counted (λ o. bit (w.kind o) m && w.link s o (at i))

  -- how many objects have the type
  pub kind-tally : (t : ℕ) → tally (λ o. eqb (v.kind o) t) v.size ≡ tally (λ o. eqb (w.kind o) t) w.size
  kind-tally t =
      ap (tally (λ o. eqb (v.kind o) t)) r.size ∙ tally-ext _ _ w.size (λ o l. ap (λ (x : ℕ). eqb x t) (r.kind o))
      ∙ r.counted (λ o. eqb (w.kind o) t)

  whole_same : (x : Lines) (p o j : ℕ) → whole_by x v p o j ≡ whole_by x w (at p) (at o) j
  whole_same x p o j = rw (r.kind o, r.kind p, r.link (whole_at x j).slot o p)

  -- how many wholes it has
  pub whole-tally : (x : Lines) (p : ℕ) → tally (whole_of x v p) v.size ≡ tally (whole_of x w (at p)) w.size
  unfolding whole_of
  whole-tally x p =
      ap (tally (whole_of x v p)) r.size ∙ tally-ext _ _ w.size (λ o l. any-ext _ _ 16 (λ j h. whole_same x p o j)) ∙ r.counted (whole_of x w (at p))

  -- an object of v stands for an object of w
  pub below_at : (o : ℕ) → o < v.size → at o < w.size
  below_at o l = r.below o (omega (arith, r.size))

  -- each object of w has a number in v
  pub renumbered-onto : (o : ℕ) → o < w.size → (i : ℕ) × (i < v.size) × (at i ≡ o)
  renumbered-onto o l =
      let h : 0 < tally (λ i. eqb i o) w.size = tally-holds (λ i. eqb i o) w.size o l (eq-eqb o o refl) in
      let c = r.counted (λ i. eqb i o) in
      let f = tally-some (λ i. eqb (at i) o) w.size (omega arith) in
      (f.0, omega (arith, r.size, f.1), eqb-true (at f.0) o f.2)

  -- ---- what tables ask for

  pub singles-renumbered : (singles : ℕ) → SinglesKept singles w → SinglesKept singles v
  singles-renumbered singles h = record { at = λ t l b. kind-tally t ∙ h.at t l b }

  pub rows-renumbered : (targets lows highs : List ℕ) → RowsKept targets lows highs w → RowsKept targets lows highs v
  rows-renumbered targets lows highs h = record {
    allowed = λ s o p a b c e.
        ap₂ (λ (x y : ℕ). bit x (get_or targets (y * 32 + s) 0)) (r.kind p) (r.kind o)
        ∙ h.allowed s (at o) (at p) a (below_at o b) (below_at p c) (sym (r.link s o p) ∙ e);
    limited = λ s o a b. rw (r.kind o, row-tally s o) (h.limited s (at o) a (below_at o b));
  }

  pub columns-renumbered : (x : Lines) → ColumnsKept x w → ColumnsKept x v
  columns-renumbered x h = record {
    at = λ j p a b e.
        rw (column-tally (column_at x j).from (column_at x j).slot p)
        (h.at j (at p) a (below_at p b) (ap (λ (y : ℕ). bit y (column_at x j).to) (sym (r.kind p)) ∙ e));
  }

  pub mirrors-renumbered : (x : Lines) → MirrorsKept x w → MirrorsKept x v
  mirrors-renumbered x h = record {
    at = λ j o p a b c e f.
        r.link (mirror_at x j).right o p
        ∙ h.at j (at o) (at p) a (below_at o b) (below_at p c) (ap (λ (y : ℕ). bit y (mirror_at x j).from) (sym (r.kind o)) ∙ e)
        (ap (λ (y : ℕ). bit y (mirror_at x j).to) (sym (r.kind p)) ∙ f)
        ∙ sym (r.link (mirror_at x j).left p o);
  }

  pub wholes-renumbered : (x : Lines) → WholesKept x w → WholesKept x v
  wholes-renumbered x h = record { at = λ p l. rw (whole-tally x p) (h.at (at p) (below_at p l)) }
