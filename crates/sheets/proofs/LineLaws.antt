-- What an association asks by each rule, as a record of numbers.
-- Assumes nothing.
use Prim.Native.Nat.{◌*◌, ◌+◌, ◌<◌, ◌≤◌, min, ℕ}
use mathlib.Core.Bool.{Bool, cond, false, true}
use mathlib.Core.List.{List}
use mathlib.Core.Path.{◌≡◌, ap, sym}
use lib.Dec.{ltb}
use lib.ListN.{get_or}
use borrow.Author.Tests.{le-ltb, lt-ltb}
use Rattle.laws.specs.Connective.{both}
use Rattle.worlds.specs.declared.Column.{Column}
use Rattle.worlds.specs.declared.Mirror.{Mirror}
use Rattle.worlds.specs.declared.Whole.{Whole}
use Rattle.sheets.specs.LinesBy.{column_by, composed, counted, counted_from, counted_to, element_if, mirror_by, mirrored, whole_by}

-- ---- by rule 7, where b says whether there is such an association

module _ (sets slots arrows lows ups : List ℕ) (n j : ℕ) where
  column-of : Bool → Column
  column-of b = record {
    slot = cond (both b (counted arrows j)) (get_or slots (counted_to arrows j) 0) 0;
    from = cond (both b (counted arrows j)) (get_or sets (counted_from arrows j) 0) 0;
    to = cond (both b (counted arrows j)) (get_or sets (counted_to arrows j) 0) 0;
    low = cond b (min 9 (get_or lows (counted_from arrows j) 0)) 0;
    high = cond b (min 8 (get_or ups (counted_from arrows j) 0)) 8;
  }

  column-is : (b : Bool) → ltb j n ≡ b → column-of b ≡ column_by sets slots arrows lows ups n j
  unfolding column_by element_if column-of
  column-is b e = ap column-of (sym e)

  pub column-past : n ≤ j → ◌≡◌ {A = Column} (record { slot = 0; from = 0; to = 0; low = 0; high = 8 }) (column_by sets slots arrows lows ups n j)
  unfolding column-of both
  column-past l = column-is false (le-ltb j n l)

  pub column-there : j < n → {slot from to low high : ℕ} → slot ≡ cond (counted arrows j) (get_or slots (counted_to arrows j) 0) 0
      → from ≡ cond (counted arrows j) (get_or sets (counted_from arrows j) 0) 0 → to ≡ cond (counted arrows j) (get_or sets (counted_to arrows j) 0) 0
      → low ≡ min 9 (get_or lows (counted_from arrows j) 0) → high ≡ min 8 (get_or ups (counted_from arrows j) 0)
      → ◌≡◌ {A = Column} (record { slot = slot; from = from; to = to; low = low; high = high }) (column_by sets slots arrows lows ups n j)
  unfolding column-of both
  column-there l p q r s t = rw (p, q, r, s, t) (column-is true (lt-ltb j n l))

-- ---- by rules 8 and 9, where b says whether there is such an association that asks

pub mirror-is : (sets slots arrows : List ℕ) (n j : ℕ) (b : Bool) → both (ltb j n) (mirrored arrows j) ≡ b
    → ◌≡◌ {A = Mirror} (record {
      right = cond b (get_or slots (j * 2 + 1) 0) 0;
      left = cond b (get_or slots (j * 2) 0) 0;
      from = cond b (get_or sets (j * 2) 0) 0;
      to = cond b (get_or sets (j * 2 + 1) 0) 0;
    }) (mirror_by sets slots arrows n j)
unfolding mirror_by element_if
mirror-is sets slots arrows n j b e = sym (rw e)

pub whole-is : (sets slots forms : List ℕ) (n j : ℕ) (b : Bool) → both (ltb j n) (composed forms j) ≡ b
    → ◌≡◌ {A = Whole} (record { slot = cond b (get_or slots (j * 2 + 1) 0) 0; from = cond b (get_or sets (j * 2) 0) 0; to = cond b (get_or sets (j * 2 + 1) 0) 0 })
    (whole_by sets slots forms n j)
unfolding whole_by element_if
whole-is sets slots forms n j b e = sym (rw e)
