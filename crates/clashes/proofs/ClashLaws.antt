-- Limits that exclude each other: where all that one counts the other counts too, it counts no more.
-- Assumes nothing.
use Prim.Native.Nat.{◌*◌, ◌+◌, ◌<◌, ◌≤◌, ℕ}
use mathlib.Core.Bool.{◌&&◌, true}
use mathlib.Core.List.{List}
use mathlib.Core.Path.{◌∙◌, ◌≡◌, ap, subst, sym}
use native.Mathlib.Omega.{arith}
use lib.Bits.{bit_and}
use lib.ListN.{get_or}
use Rattle.laws.specs.Bits.{bit}
use Rattle.laws.specs.Bounded.{tally}
use Rattle.laws.proofs.BitLaws.{bit-both}
use Rattle.laws.proofs.BoundedLaws.{any_of}
use Rattle.laws.proofs.ConnectiveLaws.{and_both, and_left, and_right}
use Rattle.laws.proofs.CountLaws.{tally-mono}
use Rattle.growing.specs.World.{World, source_count, target_count}
use Rattle.link_search.specs.Nets.{InLimits}
use Rattle.worlds.specs.declared.Lines.{Lines}
use Rattle.worlds.specs.Kept.{ColumnsKept, MirrorsKept, RowsKept, WholesKept, whole_by, whole_of}
use Rattle.clashes.specs.Clashes.{FirstSources, LinkedBack, Never, OtherSources, TurnedSources}
use Rattle.worlds.specs.Lined.{column_at, mirror_at, whole_at}

-- an object that is a whole by one association is a whole
pub whole-by : (x : Lines) (w : World) (p o j : ℕ) → j < 16 → whole_by x w p o j ≡ true → whole_of x w p o ≡ true
unfolding whole_of
whole-by x w p o j l e = any_of (whole_by x w p o) 16 j l e

-- each type of the mask a is one of b
abbrev pub Inside : ℕ → ℕ → Type 0
Inside a b = (t : ℕ) → bit t a ≡ true → bit t b ≡ true

module _ (first here s mask least most : ℕ) where
  module _ (w : World) (f : FirstSources first here s mask least most w) where
    -- what is counted with types of a is counted with types of b
    pub fewer : (a b : ℕ) → Inside (bit_and a here) b → source_count w s a 0 ≤ source_count w s b 0
    fewer a b i = tally-mono (λ o. bit (w.kind o) a && w.link s o 0) (λ o. bit (w.kind o) b && w.link s o 0) w.size each
      where
        each : (o : ℕ) → o < w.size → bit (w.kind o) a && w.link s o 0 ≡ true → bit (w.kind o) b && w.link s o 0 ≡ true
        each o l h =
            let t : bit (w.kind o) a ≡ true = and_left (bit (w.kind o) a) (w.link s o 0) h in
            let k : w.link s o 0 ≡ true = and_right (bit (w.kind o) a) (w.link s o 0) h in
            and_both (bit (w.kind o) b) (w.link s o 0) (i (w.kind o) (bit-both (w.kind o) a here t (f.typed o l k))) k

    module _ (there t row low high : ℕ) (g : TurnedSources s there t row low high w) where
      -- each target by the other slot is counted as a source
      targets-fewer : Inside row there → Inside (bit_and row here) mask → target_count w t 0 ≤ source_count w s mask 0
      targets-fewer i j = tally-mono (λ o. w.link t 0 o) (λ o. bit (w.kind o) mask && w.link s o 0) w.size each
        where
          each : (o : ℕ) → o < w.size → w.link t 0 o ≡ true → bit (w.kind o) mask && w.link s o 0 ≡ true
          each o l h =
              let r : bit (w.kind o) row ≡ true = g.typed o l h in
              let k : w.link s o 0 ≡ true = g.same.at o l (i (w.kind o) r) ∙ h in
              and_both (bit (w.kind o) mask) (w.link s o 0) (j (w.kind o) (bit-both (w.kind o) row here r (f.typed o l k))) k

      sources-fewer : Inside (bit_and mask here) there → source_count w s mask 0 ≤ target_count w t 0
      sources-fewer i = tally-mono (λ o. bit (w.kind o) mask && w.link s o 0) (λ o. w.link t 0 o) w.size each
        where
          each : (o : ℕ) → o < w.size → bit (w.kind o) mask && w.link s o 0 ≡ true → w.link t 0 o ≡ true
          each o l h =
              let m : bit (w.kind o) mask ≡ true = and_left (bit (w.kind o) mask) (w.link s o 0) h in
              let k : w.link s o 0 ≡ true = and_right (bit (w.kind o) mask) (w.link s o 0) h in
              sym (g.same.at o l (i (w.kind o) (bit-both (w.kind o) mask here m (f.typed o l k)))) ∙ k

  -- ---- the ways out of `is_apart` and `is_apart_back`

  module _ (other low high : ℕ) where
    pub apart_more : most < low → Inside (bit_and other here) mask → Never (λ w. FirstSources first here s mask least most w × OtherSources s other low high w)
    apart_more h i = record { at = λ w p. omega (arith, fewer w p.0 other mask i, p.0.within.most, p.1.least) }

    pub apart-less : high < least → Inside (bit_and mask here) other → Never (λ w. FirstSources first here s mask least most w × OtherSources s other low high w)
    apart-less h i = record { at = λ w p. omega (arith, fewer w p.0 mask other i, p.0.within.least, p.1.most) }

  module _ (there t row low high : ℕ) where
    pub back_more : most < low → Inside row there → Inside (bit_and row here) mask
        → Never (λ w. FirstSources first here s mask least most w × TurnedSources s there t row low high w)
    back_more h i j = record { at = λ w p. omega (arith, targets-fewer w p.0 there t row low high p.1 i j, p.0.within.most, p.1.within.least) }

    pub back-less : high < least → Inside (bit_and mask here) there
        → Never (λ w. FirstSources first here s mask least most w × TurnedSources s there t row low high w)
    back-less h i = record { at = λ w p. omega (arith, sources-fewer w p.0 there t row low high p.1 i, p.0.within.least, p.1.within.most) }

-- ---- a mirror, read from the left to the right, and from the right to the left

module _ (x : Lines) (j s : ℕ) (small : j < 16) (w : World) (some : 0 < w.size) (mirrors : MirrorsKept x w) where
  pub linked-right : (mirror_at x j).right ≡ s → bit (w.kind 0) (mirror_at x j).to ≡ true → LinkedBack s (mirror_at x j).from (mirror_at x j).left w
  linked-right e to = record { at = λ o l h. ap (λ (z : ℕ). w.link z o 0) (sym e) ∙ mirrors.at j o 0 small l some h to }

  pub linked-left : (mirror_at x j).left ≡ s → bit (w.kind 0) (mirror_at x j).from ≡ true → LinkedBack s (mirror_at x j).to (mirror_at x j).right w
  linked-left e from = record { at = λ o l h. ap (λ (z : ℕ). w.link z o 0) (sym e) ∙ sym (mirrors.at j 0 o small some l from h) }

-- ---- what is known besides, as limits of this form

module _ (first here s mask least most : ℕ) where
  module _ (x : Lines) (j : ℕ) (small : j < 16) where
    pub never-column : (column_at x j).slot ≡ s → bit first (column_at x j).to ≡ true
        → Never (λ w. FirstSources first here s mask least most w × OtherSources s (column_at x j).from (column_at x j).low (column_at x j).high w)
        → Never (λ w. FirstSources first here s mask least most w × ColumnsKept x w)
    never-column e to f = record {
      at = λ w p. f.at w (
        p.0,
        subst (λ (z : ℕ). InLimits (column_at x j).low (column_at x j).high (source_count w z (column_at x j).from 0)) e
            (p.1.at j 0 small p.0.some (ap (λ (t : ℕ). bit t (column_at x j).to) p.0.kind ∙ to)),
      );
    }

    pub never-whole : (whole_at x j).slot ≡ s → bit first (whole_at x j).to ≡ true
        → Never (λ w. FirstSources first here s mask least most w × OtherSources s (whole_at x j).from 0 1 w)
        → Never (λ w. FirstSources first here s mask least most w × WholesKept x w)
    never-whole e to f = record {
      at = λ w p. f.at w
          (p.0, record { least = omega arith; most = let m = p.1.at 0 p.0.some in omega (arith, fewest w p.0) });
    }
      where
        fewest : (w : World) → FirstSources first here s mask least most w → source_count w s (whole_at x j).from 0 ≤ tally (whole_of x w 0) w.size
        fewest w a = tally-mono (λ o. bit (w.kind o) (whole_at x j).from && w.link s o 0) (whole_of x w 0) w.size
            (λ o l h. whole-by x w 0 o j small
            (and_both (bit (w.kind o) (whole_at x j).from) (bit (w.kind 0) (whole_at x j).to && w.link (whole_at x j).slot o 0)
            (and_left (bit (w.kind o) (whole_at x j).from) (w.link s o 0) h)
            (and_both (bit (w.kind 0) (whole_at x j).to) (w.link (whole_at x j).slot o 0) (ap (λ (t : ℕ). bit t (whole_at x j).to) a.kind ∙ to)
            (ap (λ (z : ℕ). w.link z o 0) e ∙ and_right (bit (w.kind o) (whole_at x j).from) (w.link s o 0) h))))

    -- by a mirror: read from the left to the right, and from the right to the left
    module _ (targets lows highs : List ℕ) where
      pub never-mirror : (mirror_at x j).right ≡ s → bit first (mirror_at x j).to ≡ true
          → Never (λ w. FirstSources first here s mask least most w × RowsKept targets lows highs w × LinkedBack s (mirror_at x j).from (mirror_at x j).left w)
          → Never (λ w. FirstSources first here s mask least most w × RowsKept targets lows highs w × MirrorsKept x w)
      never-mirror e to f = record {
        at = λ w p. f.at w
            (p.0, p.1, linked-right x j s small w p.0.some p.2 e (ap (λ (t : ℕ). bit t (mirror_at x j).to) p.0.kind ∙ to));
      }

      pub never-mirror-back : (mirror_at x j).left ≡ s → bit first (mirror_at x j).from ≡ true
          → Never (λ w. FirstSources first here s mask least most w × RowsKept targets lows highs w × LinkedBack s (mirror_at x j).to (mirror_at x j).right w)
          → Never (λ w. FirstSources first here s mask least most w × RowsKept targets lows highs w × MirrorsKept x w)
      never-mirror-back e from f = record {
        at = λ w p. f.at w
            (p.0, p.1, linked-left x j s small w p.0.some p.2 e (ap (λ (t : ℕ). bit t (mirror_at x j).from) p.0.kind ∙ from));
      }

  -- y: where the tables have the row of the first object in slot t
  pub never-row : (targets lows highs : List ℕ) (there t y : ℕ) → t < 32 → y ≡ first * 32 + t
      → Never (λ w. FirstSources first here s mask least most w × TurnedSources s there t (get_or targets y 0) (get_or lows y 0) (get_or highs y 0) w)
      → Never (λ w. FirstSources first here s mask least most w × RowsKept targets lows highs w × LinkedBack s there t w)
  never-row targets lows highs there t y small e f = record {
    at = λ w p. let z : w.kind 0 * 32 + t ≡ y = (let k : w.kind 0 ≡ first = p.0.kind in omega arith) in f.at w (
      p.0,
      record {
        same = p.2;
        typed = λ o l h. subst (λ (v : ℕ). bit (w.kind o) (get_or targets v 0) ≡ true) z (p.1.allowed t 0 o small p.0.some l h);
        within = subst (λ (v : ℕ). InLimits (get_or lows v 0) (get_or highs v 0) (target_count w t 0)) z (p.1.limited t 0 small p.0.some);
      },
    );
  }
