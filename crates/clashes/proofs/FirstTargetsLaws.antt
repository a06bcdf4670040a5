-- The targets of the first object that a query has limits for, against the columns of the links back.
-- Assumes nothing.
use Prim.Native.Nat.{◌*◌, ◌+◌, ◌<◌, ℕ}
use mathlib.Core.Bool.{true}
use mathlib.Core.List.{List}
use mathlib.Core.Path.{◌∙◌, ◌≡◌, ap, subst, sym}
use native.Mathlib.Omega.{arith}
use lib.ListN.{get_or}
use Rattle.laws.specs.Bits.{bit}
use Rattle.growing.specs.World.{World, source_count, target_count}
use Rattle.link_search.specs.Nets.{InLimits}
use Rattle.worlds.specs.declared.Lines.{Lines}
use Rattle.worlds.specs.Kept.{ColumnsKept, MirrorsKept, RowsKept}
use Rattle.clashes.specs.Clashes.{FirstSources, FirstTargets, LinkedBack, Never, TurnedSources}
use Rattle.clashes.specs.Sources.{SourcesKept}
use Rattle.clashes.specs.Refuted.{Begun, Refuted}
use Rattle.clashes.proofs.ClashLaws.{linked-left, linked-right}
use Rattle.worlds.specs.Lined.{column_at, mirror_at}

-- y: where the table has the row of the first object in the slot
pub first-targets : (targets lows highs types : List ℕ) (first row low high y seeds : ℕ) → row < 32 → first ≡ get_or types 0 0 → y ≡ get_or types 0 0 * 32 + row → 0 < seeds
    → (w : World) → Begun types seeds w → RowsKept targets lows highs w → InLimits low high (target_count w row 0) → FirstTargets first row (get_or targets y 0) low high w
first-targets targets lows highs types first row low high y seeds small is e some w b rows within =
    let k : w.kind 0 ≡ get_or types 0 0 = b.kept 0 some in
    let z : w.kind 0 * 32 + row ≡ y = omega arith in
    let l : 0 < w.size = omega (arith, b.many) in
    record {
      some = l;
      kind = k ∙ sym is;
      typed = λ o a h. subst (λ (v : ℕ). bit (w.kind o) (get_or targets v 0) ≡ true) z (rows.allowed row 0 o small l a h);
      within = within;
    }

module _ (first mask low high : ℕ) where
  -- y: where the table has the sources of the first object in slot s
  pub never_back : (x : Lines) (sources : List ℕ) (i s there y : ℕ) → i < 16 → s < 32 → (column_at x i).slot ≡ s → bit first (column_at x i).to ≡ true → y ≡ first * 32 + s
      → ((t : ℕ) → Never (λ w. FirstSources first (get_or sources y 0) s (column_at x i).from (column_at x i).low (column_at x i).high w × TurnedSources s there t mask low high w))
      → (t : ℕ) → Never (λ w. FirstTargets first t mask low high w × SourcesKept sources w × ColumnsKept x w × LinkedBack s there t w)
  never_back x sources i s there y small slot e to is f t = record {
    at = λ w p.
        let k : w.kind 0 ≡ first = p.0.kind in
        let z : w.kind 0 * 32 + s ≡ y = omega arith in
        (f t).at w (
          record {
            some = p.0.some;
            kind = k;
            typed = λ o l h. subst (λ (v : ℕ). bit (w.kind o) (get_or sources v 0) ≡ true) z (p.1.at s o 0 slot l p.0.some h);
            within = subst (λ (v : ℕ). InLimits (column_at x i).low (column_at x i).high (source_count w v (column_at x i).from 0)) e
                (p.2.at i 0 small p.0.some (ap (λ (u : ℕ). bit u (column_at x i).to) k ∙ to));
          },
          record { same = p.3; typed = p.0.typed; within = p.0.within },
        );
  }

  module _ (x : Lines) (sources : List ℕ) (j s row : ℕ) (small : j < 16) where
    pub never-right : (mirror_at x j).right ≡ s → (mirror_at x j).left ≡ row → bit first (mirror_at x j).to ≡ true
        → Never (λ w. FirstTargets first row mask low high w × SourcesKept sources w × ColumnsKept x w × LinkedBack s (mirror_at x j).from row w)
        → Never (λ w. FirstTargets first row mask low high w × (SourcesKept sources w × ColumnsKept x w × MirrorsKept x w))
    never-right e r to f = record {
      at = λ w p. f.at w (
        p.0,
        p.1.0,
        p.1.1,
        subst (λ (v : ℕ). LinkedBack s (mirror_at x j).from v w) r
            (linked-right x j s small w p.0.some p.1.2 e (ap (λ (u : ℕ). bit u (mirror_at x j).to) p.0.kind ∙ to)),
      );
    }

    pub never-left : (mirror_at x j).left ≡ s → (mirror_at x j).right ≡ row → bit first (mirror_at x j).from ≡ true
        → Never (λ w. FirstTargets first row mask low high w × SourcesKept sources w × ColumnsKept x w × LinkedBack s (mirror_at x j).to row w)
        → Never (λ w. FirstTargets first row mask low high w × (SourcesKept sources w × ColumnsKept x w × MirrorsKept x w))
    never-left e r from f = record {
      at = λ w p. f.at w (
        p.0,
        p.1.0,
        p.1.1,
        subst (λ (v : ℕ). LinkedBack s (mirror_at x j).to v w) r
            (linked-left x j s small w p.0.some p.1.2 e (ap (λ (u : ℕ). bit u (mirror_at x j).from) p.0.kind ∙ from)),
      );
    }

-- ---- such limits refute a query

module _ (targets lows highs types : List ℕ) (first row low high y seeds : ℕ) (small : row < 32) (is : first ≡ get_or types 0 0) (e : y ≡ get_or types 0 0 * 32 + row) (some : 0 < seeds) where
  pub targets-refuted : (P : World → Type 0) → Never (λ w. FirstTargets first row (get_or targets y 0) low high w × P w)
      → Refuted (λ w. (RowsKept targets lows highs w × InLimits low high (target_count w row 0)) × P w) types seeds
  targets-refuted P f = record {
    at = λ w b p. f.at w (first-targets targets lows highs types first row low high y seeds small is e some w b p.0.0 p.0.1, p.1);
  }
