-- Columns, one at a time: a search for fewer sources and one for more.
-- Assumes nothing.
use Prim.Native.Nat.{◌+◌, ◌-◌, ◌<◌, ◌≤◌, ℕ}
use mathlib.Core.Bool.{Bool, ◌&&◌, and-false, false, true}
use mathlib.Core.Path.{◌∙◌, ◌≡◌, ap, refl}
use native.Mathlib.Omega.{arith}
use lib.Dec.{leb}
use lib.ListN.{get_or}
use borrow.Author.Tests.{leb-false, leb-true}
use Rattle.laws.specs.Bits.{bit}
use Rattle.laws.proofs.BoundedLaws.{tally-none}
use Rattle.laws.proofs.ConnectiveLaws.{true-false}
use Rattle.laws.proofs.CountLaws.{tally-le}
use Rattle.growing.specs.World.{World, source_count}
use Rattle.worlds.specs.declared.Column.{Column}
use Rattle.worlds.specs.declared.Lines.{Lines}
use Rattle.worlds.specs.Kept.{Allowed, ColumnsKept, Sheet, TypesAvoided}
use Rattle.worlds.specs.Asked.{Breaks}
use Rattle.queries.specs.Avoided.{ColumnsAvoided}
use Rattle.queries.proofs.BreakLaws.{Throughout, breaks-same}
use Rattle.aims.specs.Columns.{ColumnKept, LeastKept, MostKept}
use Rattle.worlds.specs.Lined.{column_at}

module _ (x : Sheet) (w : World) (h : Allowed x w) (s from p : ℕ) where
  -- a slot past the last has no links
  count_past : 32 ≤ s → source_count w s from p ≡ 0
  count_past l =
      tally-none (λ o. bit (w.kind o) from && w.link s o p) w.size
      (λ o _. ap (λ (b : Bool). bit (w.kind o) from && b) (h.past s o p l) ∙ and-false (bit (w.kind o) from))

  count-few : source_count w s from p ≤ 8
  count-few = omega (arith, tally-le (λ o. bit (w.kind o) from && w.link s o p) w.size, h.few)

module _ (x : Sheet) (n s a from : ℕ) where
  pub least-none : (low : ℕ) → low ≡ 0 → Throughout x (LeastKept s a from low) n
  least-none low e w h _ = record { at = λ p l t. omega arith }

  pub most-free : (high : ℕ) → 8 ≤ high → Throughout x (MostKept s a from high) n
  most-free high e w h _ = record { at = λ p l t. omega (arith, count-few x w h s from p) }

  pub most-past : (high : ℕ) → 32 ≤ s → Throughout x (MostKept s a from high) n
  most-past high e w h _ = record { at = λ p l t. omega (arith, count_past x w h s from p e) }

  module _ (ok : Bool) (m : World) where
    pub least-past : (low : ℕ) → 32 ≤ s → 0 < low → Breaks x (TypesAvoided a) n ok m → Breaks x (LeastKept s a from low) n ok m
    least-past low e z = breaks-same x n ok m (LeastKept s a from low) (TypesAvoided a)
        (λ w h k. record { at = λ p l. go w h k p l (bit (w.kind p) a) refl })
        (λ w h k. record { at = λ p l t. absurd (true-false t (k.at p l)) })
      where
        go : (w : World) → Allowed x w → LeastKept s a from low w → (p : ℕ) → p < w.size → (t : Bool) → bit (w.kind p) a ≡ t → bit (w.kind p) a ≡ false
        go w h k p l true t = absurd (omega (arith, k.at p l t, count_past x w h s from p e))
        go w h k p l false t = t

    pub least-found : (low : ℕ) → 0 < low → Breaks x (ColumnsAvoided s a from 0 (low - 1)) n ok m → Breaks x (LeastKept s a from low) n ok m
    least-found low z = breaks-same x n ok m (LeastKept s a from low) (ColumnsAvoided s a from 0 (low - 1))
        (λ w h k. record { at = λ p l t g. omega (arith, k.at p l t, g.most) })
        (λ w h k. record { at = λ p l t. go w k p l t (leb low (source_count w s from p)) refl })
      where
        go : (w : World) → ColumnsAvoided s a from 0 (low - 1) w → (p : ℕ) → p < w.size → bit (w.kind p) a ≡ true → (b : Bool) → leb low (source_count w s from p) ≡ b → low ≤ source_count w s from p
        go w k p l t true e = leb-true low (source_count w s from p) e
        go w k p l t false e =
            let under = leb-false low (source_count w s from p) e in absurd (k.at p l t (record { least = omega arith; most = omega arith }))

    pub most-found : (high : ℕ) → Breaks x (ColumnsAvoided s a from (high + 1) 8) n ok m → Breaks x (MostKept s a from high) n ok m
    most-found high = breaks-same x n ok m (MostKept s a from high) (ColumnsAvoided s a from (high + 1) 8)
        (λ w h k. record { at = λ p l t g. omega (arith, k.at p l t, g.least) })
        (λ w h k. record { at = λ p l t. go w h k p l t (leb (source_count w s from p) high) refl })
      where
        go : (w : World) → Allowed x w → ColumnsAvoided s a from (high + 1) 8 w → (p : ℕ) → p < w.size → bit (w.kind p) a ≡ true
            → (b : Bool) → leb (source_count w s from p) high ≡ b → source_count w s from p ≤ high
        go w h k p l t true e = leb-true (source_count w s from p) high e
        go w h k p l t false e =
            let over = leb-false (source_count w s from p) high e in absurd (k.at p l t (record { least = omega arith; most = count-few x w h s from p }))

-- ---- both limits of a column, and all columns

module _ (c : Column) (w : World) where
  abbrev pub LeastBy : Type 0
  LeastBy = LeastKept c.slot c.to c.from c.low w

  abbrev pub MostBy : Type 0
  MostBy = MostKept c.slot c.to c.from c.high w

  pub column-least : ColumnKept c w → LeastBy
  column-least k = record { at = λ p l t. (k.at p l t).least }

  pub column-most : ColumnKept c w → MostBy
  column-most k = record { at = λ p l t. (k.at p l t).most }

  pub column-both : LeastBy → MostBy → ColumnKept c w
  column-both f g = record { at = λ p l t. record { least = f.at p l t; most = g.at p l t } }

pub column-at : (x : Lines) (j : ℕ) → j < 16 → (w : World) → ColumnsKept x w → ColumnKept (column_at x j) w
column-at x j h w k = record { at = λ p l t. k.at j p h l t }

pub columns_of : (x : Lines) (w : World) → ((j : ℕ) → j < 16 → ColumnKept (column_at x j) w) → ColumnsKept x w
columns_of x w k = record { at = λ j p h l t. (k j h).at p l t }
