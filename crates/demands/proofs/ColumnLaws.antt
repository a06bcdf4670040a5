-- The columns of the given objects are limits.
-- Assumes nothing.
use Rattle.std.specs.Prelude.{Option}
use Prim.Native.Nat.{◌*◌, ◌+◌, ◌<◌, ℕ}
use mathlib.Core.Bool.{Bool, ◌&&◌, true}
use mathlib.Core.List.{List}
use mathlib.Core.Path.{◌∙◌, ◌≡◌, ap, subst}
use native.Mathlib.Omega.{arith}
use lib.Bits.{bit_and}
use lib.ListN.{get_or}
use Rattle.laws.specs.Bits.{bit}
use Rattle.laws.proofs.BitLaws.{bit-and, bit-zero}
use Rattle.laws.proofs.ConnectiveLaws.{and_both, and_left, and_right}
use Rattle.growing.specs.World.{World, source_count}
use Rattle.link_search.specs.Nets.{InLimits}
use Rattle.worlds.specs.declared.Lines.{Lines}
use Rattle.worlds.specs.Kept.{ColumnsKept}
use Rattle.demands.specs.declared.Start.{Start}
use Rattle.demands.specs.Wishes.{Limited, Sharpens, Started}
use Rattle.clashes.specs.Sources.{SourcesKept}
use Rattle.demands.specs.Families.{SourcesWithin}
use Rattle.worlds.specs.Lined.{column_at}

module _ (s : Start) (sources : List ℕ) (best r : Option ℕ) where
  -- x: where the table has the sources of object p in the slot
  pub sources-sharp : (slot mask low high p x : ℕ) → slot < 32 → p < s.k → x ≡ get_or s.types.at p 0 * 32 + slot
      → Sharpens (λ w. (q : ℕ → Bool) × Limited low high (bit_and mask (get_or sources x 0)) 0 q w) s best r
      → Sharpens (λ w. SourcesKept sources w × InLimits low high (source_count w slot mask p)) s best r
  sources-sharp slot mask low high p x small given e f = record {
    at = λ w a h. f.at w a
        (λ o. bit (w.kind o) mask && w.link slot o p, record { within = h.1; typed = λ o b t. typed w a h.0 o b t; apart = λ o b t. bit-zero o });
  }
    where
      typed : (w : World) → Started s w → SourcesKept sources w → (o : ℕ) → o < w.size → bit (w.kind o) mask && w.link slot o p ≡ true
          → bit (w.kind o) (bit_and mask (get_or sources x 0)) ≡ true
      typed w a h o b t =
          let k : w.kind p ≡ get_or s.types.at p 0 = a.kept p given in
          let z : w.kind p * 32 + slot ≡ x = omega arith in
          bit-and (w.kind o) mask (get_or sources x 0)
          ∙ and_both (bit (w.kind o) mask) (bit (w.kind o) (get_or sources x 0)) (and_left (bit (w.kind o) mask) (w.link slot o p) t)
          (subst (λ (y : ℕ). bit (w.kind o) (get_or sources y 0) ≡ true) z
          (h.at slot o p small b (omega (arith, a.many)) (and_right (bit (w.kind o) mask) (w.link slot o p) t)))

  -- object p has a type of the mask `to`
  pub column-sharp : (slot mask to low high p : ℕ) → p < s.k → bit (get_or s.types.at p 0) to ≡ true
      → Sharpens (λ w. SourcesKept sources w × InLimits low high (source_count w slot mask p)) s best r
      → Sharpens (λ w. SourcesKept sources w × SourcesWithin slot mask to low high w) s best r
  column-sharp slot mask to low high p given typed f = record {
    at = λ w a h. f.at w a
        (h.0, h.1.at p (omega (arith, a.many)) (ap (λ (t : ℕ). bit t to) (a.kept p given) ∙ typed));
  }

  pub columns-sharp : (lines : Lines) (j : ℕ) → j < 16
      → Sharpens (λ w. SourcesKept sources w × SourcesWithin (column_at lines j).slot (column_at lines j).from (column_at lines j).to (column_at lines j).low (column_at lines j).high w) s best r
      → Sharpens (λ w. SourcesKept sources w × ColumnsKept lines w) s best r
  columns-sharp lines j l f = record { at = λ w a h. f.at w a (h.0, record { at = λ p. h.1.at j p l }) }
