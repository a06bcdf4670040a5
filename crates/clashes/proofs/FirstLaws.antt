-- Limits that a query has for the first object, against the tables.
-- Assumes nothing.
use Prim.Native.Nat.{◌*◌, ◌+◌, ◌<◌, max, min, ℕ}
use mathlib.Core.Bool.{Bool, ◌&&◌, true}
use mathlib.Core.List.{List}
use mathlib.Core.Path.{◌∙◌, ◌≡◌, ap, subst, sym}
use native.Mathlib.Omega.{arith}
use lib.Bits.{bit_and}
use lib.ListN.{get_or}
use Rattle.laws.specs.Bits.{bit}
use Rattle.laws.specs.Bounded.{tally}
use Rattle.laws.proofs.BitLaws.{bit-zero}
use Rattle.laws.proofs.BoundedLaws.{tally-none}
use Rattle.growing.specs.World.{World, target_count}
use Rattle.link_search.specs.Nets.{InLimits}
use Rattle.worlds.specs.declared.Lines.{Lines}
use Rattle.worlds.specs.Kept.{ColumnsKept, MirrorsKept, RowsKept, WholesKept}
use Rattle.clashes.specs.Clashes.{FirstColumn, FirstSources, Never}
use Rattle.clashes.specs.Refuted.{Begun, Refuted}
use Rattle.clashes.proofs.ClashLaws.{fewer}

-- x: where the tables have the row of the first object in the slot
pub first-row-refuted : (targets lows highs types : List ℕ) (row low high x seeds : ℕ) → row < 32 → x ≡ get_or types 0 0 * 32 + row
    → min (get_or highs x 0) high < max (get_or lows x 0) low → 0 < seeds → Refuted (λ w. RowsKept targets lows highs w × InLimits low high (target_count w row 0)) types seeds
first-row-refuted targets lows highs types row low high x seeds small e h some = record {
  at = λ w b p.
      let k : w.kind 0 ≡ get_or types 0 0 = b.kept 0 some in
      let z : w.kind 0 * 32 + row ≡ x = omega arith in
      let l = subst (λ (v : ℕ). InLimits (get_or lows v 0) (get_or highs v 0) (target_count w row 0)) z (p.0.limited row 0 small (omega (arith, b.many))) in
      omega (arith, l.least, l.most, p.1.least, p.1.most);
}

module _ (first here s mask least most : ℕ) where
  -- a source is asked for, and no type may have it
  pub never-any : 0 < least → bit_and mask here ≡ 0 → Never (FirstSources first here s mask least most)
  never-any h e = record {
    at = λ w f.
        let a = fewer first here s mask least most w f mask 0 (λ t z. sym (ap (bit t) e) ∙ z) in
        let b : tally (λ o. bit (w.kind o) 0 && w.link s o 0) w.size ≡ 0
        = tally-none (λ o. bit (w.kind o) 0 && w.link s o 0) w.size (λ o l. ap (λ (x : Bool). x && w.link s o 0) (bit-zero (w.kind o))) in
        omega (arith, f.within.least);
  }

-- y: where the table has the sources of the first object in the slot
module _ (targets sources lows highs : List ℕ) (x : Lines) (s mask least most : ℕ) (types : List ℕ) (first y seeds : ℕ) (small : s < 32) (is : first ≡ get_or types 0 0)
    (e : y ≡ first * 32 + s) (some : 0 < seeds) where
  first-sources : (w : World) → Begun types seeds w → FirstColumn targets sources lows highs x s mask least most w → FirstSources first (get_or sources y 0) s mask least most w
  first-sources w b f =
      let k : w.kind 0 ≡ first = b.kept 0 some ∙ sym is in
      let z : w.kind 0 * 32 + s ≡ y = omega arith in
      record {
        some = omega (arith, b.many);
        kind = k;
        typed = λ o l h. subst (λ (v : ℕ). bit (w.kind o) (get_or sources v 0) ≡ true) z (f.back.at s o 0 small l (omega (arith, b.many)) h);
        within = f.within;
      }

  abbrev Known : World → Type 0
  Known = FirstSources first (get_or sources y 0) s mask least most

  abbrev Asks : World → Type 0
  Asks = FirstColumn targets sources lows highs x s mask least most

  pub refuted-any : Never Known → Refuted Asks types seeds
  refuted-any f = record { at = λ w b h. f.at w (first-sources w b h) }

  pub refuted-columns : Never (λ w. Known w × ColumnsKept x w) → Refuted Asks types seeds
  refuted-columns f = record { at = λ w b h. f.at w (first-sources w b h, h.columns) }

  pub refuted-wholes : Never (λ w. Known w × WholesKept x w) → Refuted Asks types seeds
  refuted-wholes f = record { at = λ w b h. f.at w (first-sources w b h, h.wholes) }

  pub refuted-mirrors : Never (λ w. Known w × RowsKept targets lows highs w × MirrorsKept x w) → Refuted Asks types seeds
  refuted-mirrors f = record { at = λ w b h. f.at w (first-sources w b h, h.rows, h.mirrors) }
