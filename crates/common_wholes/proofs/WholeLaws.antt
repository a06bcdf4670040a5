-- A composition that asks for a source gives a part its whole: the sources are wholes, and there is only one whole.
-- Assumes nothing.
use Prim.Native.Nat.{◌<◌, ◌≤◌, ℕ}
use mathlib.Core.Bool.{Bool, ◌&&◌, true}
use mathlib.Core.Logic.{⊎_elim}
use mathlib.Core.Path.{◌∙◌, ◌≡◌, ap}
use native.Mathlib.Omega.{arith}
use lib.Bits.{bit_and}
use lib.ListN.{get_or}
use Rattle.std.specs.Prelude.{Option, None, Some, IfSome}
use Rattle.std.specs.Option.{unwrap_or}
use Rattle.laws.specs.Bits.{bit}
use Rattle.laws.specs.Bounded.{tally}
use Rattle.laws.proofs.BitLaws.{bit-both}
use Rattle.laws.proofs.BoundedLaws.{any_of}
use Rattle.laws.proofs.ConnectiveLaws.{and_both, and_left, and_right, known}
use Rattle.laws.proofs.CountLaws.{tally-less, tally-mono}
use Rattle.growing.specs.World.{World}
use Rattle.worlds.specs.declared.Lines.{Lines}
use Rattle.worlds.specs.Kept.{ColumnsKept, WholesKept, source_by, whole_by, whole_of}
use Rattle.common_wholes.specs.Common.{Common, WholeIn}
use Rattle.worlds.specs.Lined.{column_at, whole_at}

-- where p holds only where q does, p somewhere, and q at one place at most, p holds where q does
tally-once : (p q : ℕ → Bool) (n : ℕ) → ((k : ℕ) → k < n → p k ≡ true → q k ≡ true) → 1 ≤ tally p n → tally q n ≤ 1 → (o : ℕ) → o < n → q o ≡ true → p o ≡ true
tally-once p q n f some one o l e = ⊎_elim (λ h. h) (λ h. absurd (let z = tally-less p q n o f l h e in omega arith)) (known (p o))

-- p of type t is a target of column j, whose sources are wholes of such parts
module _ (x : Lines) (t j : ℕ) (small : j < 16) (some : 0 < (column_at x j).low) (slot : (whole_at x j).slot ≡ (column_at x j).slot)
    (target : bit t (column_at x j).to ≡ true) (part : bit t (whole_at x j).to ≡ true)
    (inside : (u : ℕ) → bit u (column_at x j).from ≡ true → bit u (whole_at x j).from ≡ true) where
  module _ (w : World) (columns : ColumnsKept x w) (wholes : WholesKept x w) (p : ℕ) (l : p < w.size) (kind : w.kind p ≡ t) where
    source-whole : (o : ℕ) → o < w.size → source_by x w j p o ≡ true → whole_of x w p o ≡ true
    unfolding whole_of
    source-whole o _ e =
        any_of (whole_by x w p o) 16 j small
        (and_both (bit (w.kind o) (whole_at x j).from) (bit (w.kind p) (whole_at x j).to && w.link (whole_at x j).slot o p)
        (inside (w.kind o) (and_left (bit (w.kind o) (column_at x j).from) (w.link (column_at x j).slot o p) e))
        (and_both (bit (w.kind p) (whole_at x j).to) (w.link (whole_at x j).slot o p) (ap (λ (u : ℕ). bit u (whole_at x j).to) kind ∙ part)
        (ap (λ (z : ℕ). w.link z o p) slot ∙ and_right (bit (w.kind o) (column_at x j).from) (w.link (column_at x j).slot o p) e)))

    enough : 1 ≤ tally (source_by x w j p) w.size
    enough = let h = columns.at j p small l (ap (λ (u : ℕ). bit u (column_at x j).to) kind ∙ target) in omega (arith, h.least)

    whole-in : WholeIn x (column_at x j).from w p
    whole-in = record {
      there = let h = tally-mono (source_by x w j p) (whole_of x w p) w.size source-whole in omega (arith, enough);
      typed = λ o a e. and_left (bit (w.kind o) (column_at x j).from) (w.link (column_at x j).slot o p)
          (tally-once (source_by x w j p) (whole_of x w p) w.size source-whole enough (wholes.at p l) o a e);
    }

  pub giving : Common x t (column_at x j).from
  giving = record { at = whole-in }

-- a whole with types of two masks
pub common-both : (x : Lines) (t a b : ℕ) → Common x t a → Common x t b → Common x t (bit_and a b)
common-both x t a b f g = record {
  at = λ w c d p l e. record {
    there = (f.at w c d p l e).there;
    typed = λ o m h. bit-both (w.kind o) a b ((f.at w c d p l e).typed o m h) ((g.at w c d p l e).typed o m h);
  };
}

-- one mask more, where there may be one
pub common-more : (x : Lines) (t m : ℕ) (k : Option ℕ) → IfSome k (Common x t) → Common x t m → Common x t (bit_and (unwrap_or k m) m)
common-more x t m None f g = common-both x t m m g g
common-more x t m (Some a) f g = common-both x t a m f g
