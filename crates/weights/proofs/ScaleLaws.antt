-- The pairs of weights balance in each world, and so something is lacking where the first objects do not balance.
-- Assumes nothing.
use Prim.Native.Nat.{◌*◌, ◌+◌, ◌<◌, ◌≤◌, ℕ}
use native.Mathlib.Omega.{arith}
use Rattle.std.specs.Prelude.{IfSome, None, Option, Some}
use mathlib.Core.Bool.{true}
use mathlib.Core.List.{List}
use mathlib.Core.Path.{◌∙◌, ◌≡◌, ap, ap₂, refl, subst, sym}
use lib.ListN.{get_or}
use Rattle.laws.specs.Bits.{bit}
use Rattle.growing.specs.World.{World}
use Rattle.worlds.specs.declared.Lines.{Lines}
use Rattle.worlds.specs.declared.Query.{Query}
use Rattle.worlds.specs.Asked.{Satisfies}
use Rattle.worlds.specs.Coherent.{Slotted, SourceTable}
use Rattle.worlds.specs.Kept.{Allowed, sheet}
use Rattle.weights.specs.declared.Own.{Own}
use Rattle.weights.specs.declared.Scale.{Scale}
use Rattle.weights.specs.declared.Shortage.{Shortage}
use Rattle.weights.specs.Numbers.{number_at}
use Rattle.weights.specs.Scales.{Fair, columns_scale, mirror_scale, own_of, parts_scale, rows_scale, together, whole_scale}
use Rattle.weights.specs.Weigh.{Lacks, Short}
use Rattle.weights.proofs.FairLaws.{columns-at, mirror-at, rows_at, whole-at}
use Rattle.worlds.specs.Lined.{column_at, mirror_at, whole_at}

-- the scale that f makes of what is asked of the first object and of the types that may have links to it in slot s
abbrev Balanced : List ℕ → Lines → ℕ → (Option Own → ℕ → Scale) → Type 0
Balanced sources x s f = (usable singles : ℕ) (targets lows highs : List ℕ) (q : Query) (w : World) → SourceTable targets sources → Allowed (sheet usable singles targets lows highs x) w
    → Satisfies q w → 0 < w.size → let r = f (own_of q) (get_or sources (w.kind 0 * 32 + s) 0) in together targets lows highs x r.a w ≤ together targets lows highs x r.b w

fair-of : (sources : List ℕ) (x : Lines) (own : Option Own) (t s may : ℕ) (f : Option Own → ℕ → Scale) {r : Scale} → may ≡ get_or sources (t * 32 + s) 0 → r ≡ f own may
    → (f own may).a.slot < 32 → (f own may).b.slot < 32 → Balanced sources x s f → Fair sources x own t r
fair-of sources x own t s may f {r} m e low high balanced = record {
  low = subst (λ (z : Scale). z.a.slot < 32) (sym e) low;
  high = subst (λ (z : Scale). z.b.slot < 32) (sym e) high;
  at = λ usable singles targets lows highs q w turned o allowed asked some k.
      let g : r ≡ f (own_of q) (get_or sources (w.kind 0 * 32 + s) 0) = e ∙ ap₂ f o (m ∙ ap (λ (u : ℕ). get_or sources (u * 32 + s) 0) (sym k)) in
      subst (λ (z : Scale). together targets lows highs x z.a w ≤ together targets lows highs x z.b w) (sym g)
      (balanced usable singles targets lows highs q w turned allowed asked some);
}

module _ (sources : List ℕ) (x : Lines) (own : Option Own) (t : ℕ) where
  module _ (j may : ℕ) (r : Scale) (l : j < 16) (slotted : Slotted x) where
    pub rows-fair : may ≡ get_or sources (t * 32 + (column_at x j).slot) 0
        → r ≡ rows_scale own (column_at x j).slot (column_at x j).from (column_at x j).to (column_at x j).high may → Fair sources x own t r
    rows-fair m e = fair-of sources x own t (column_at x j).slot may
        (λ o n. rows_scale o (column_at x j).slot (column_at x j).from (column_at x j).to (column_at x j).high n) m e
        (unfold rows_scale in slotted.column j l) (unfold rows_scale in slotted.column j l)
        (λ u g targets lows highs q w turned allowed asked some. rows_at u g targets lows highs sources x q w turned allowed asked some j l (slotted.column j l))

    pub columns-fair : may ≡ get_or sources (t * 32 + (column_at x j).slot) 0
        → r ≡ columns_scale own (column_at x j).slot (column_at x j).from (column_at x j).to (column_at x j).low may → Fair sources x own t r
    columns-fair m e = fair-of sources x own t (column_at x j).slot may
        (λ o n. columns_scale o (column_at x j).slot (column_at x j).from (column_at x j).to (column_at x j).low n) m e
        (unfold columns_scale in slotted.column j l) (unfold columns_scale in slotted.column j l)
        (λ u g targets lows highs q w turned allowed asked some. columns-at u g targets lows highs sources x q w turned allowed asked some j l (slotted.column j l))

    pub right-fair : may ≡ get_or sources (t * 32 + (mirror_at x j).right) 0
        → r ≡ mirror_scale own (mirror_at x j).right (mirror_at x j).left (mirror_at x j).from (mirror_at x j).to may → Fair sources x own t r
    right-fair m e = fair-of sources x own t (mirror_at x j).right may
        (λ o n. mirror_scale o (mirror_at x j).right (mirror_at x j).left (mirror_at x j).from (mirror_at x j).to n) m e
        (unfold mirror_scale in slotted.right j l) (unfold mirror_scale in slotted.left j l)
        (λ u g targets lows highs q w turned allowed asked some. mirror-at u g targets lows highs sources x q w turned allowed asked some
        (mirror_at x j).right (mirror_at x j).left (mirror_at x j).from (mirror_at x j).to (slotted.right j l) (slotted.left j l)
        (λ o p k i a b. allowed.mirrors.at j o p l k i a b))

    pub left-fair : may ≡ get_or sources (t * 32 + (mirror_at x j).left) 0
        → r ≡ mirror_scale own (mirror_at x j).left (mirror_at x j).right (mirror_at x j).to (mirror_at x j).from may → Fair sources x own t r
    left-fair m e = fair-of sources x own t (mirror_at x j).left may
        (λ o n. mirror_scale o (mirror_at x j).left (mirror_at x j).right (mirror_at x j).to (mirror_at x j).from n) m e
        (unfold mirror_scale in slotted.left j l) (unfold mirror_scale in slotted.right j l)
        (λ u g targets lows highs q w turned allowed asked some. mirror-at u g targets lows highs sources x q w turned allowed asked some
        (mirror_at x j).left (mirror_at x j).right (mirror_at x j).to (mirror_at x j).from (slotted.left j l) (slotted.right j l)
        (λ o p k i a b. sym (allowed.mirrors.at j p o l i k b a)))

  whole-low : (from to : ℕ) (o : Option Own) → IfSome o (λ a. a.row.slot < 32) → (whole_scale o from to).a.slot < 32
  unfolding whole_scale parts_scale
  whole-low from to (Some a) row = row
  whole-low from to None row = omega arith

  whole-high : (from to : ℕ) (o : Option Own) → IfSome o (λ a. a.row.slot < 32) → (whole_scale o from to).b.slot < 32
  unfolding whole_scale parts_scale
  whole-high from to (Some a) row = row
  whole-high from to None row = omega arith

  pub whole-fair : (from to : ℕ) (r : Scale) → Slotted x → IfSome own (λ a. a.row.slot < 32) → ((j u : ℕ) → j < 16 → bit u (whole_at x j).to ≡ true → bit u to ≡ true) → r ≡ whole_scale own from to
      → Fair sources x own t r
  whole-fair from to r slotted row joined e = fair-of sources x own t 0 (get_or sources (t * 32 + 0) 0) (λ o n. whole_scale o from to) refl e
      (whole-low from to own row) (whole-high from to own row)
      (λ u g targets lows highs q w turned allowed asked some. whole-at u g targets lows highs sources x q w turned allowed asked some from to slotted joined)

-- what is lacking where the scale balances
pub short-of : (targets sources lows highs : List ℕ) (lines : Lines) (q : Query) (own : Option Own) (types : List ℕ) (k free : ℕ) (x : Scale) (r : Option Shortage) → 0 < k → SourceTable targets sources → own ≡ own_of q
    → Fair sources lines own (get_or types 0 0) x
    → Lacks (number_at targets lows highs lines.wholes x.a) (number_at targets lows highs lines.wholes x.b) types k free r
    → Short targets lows highs lines q types k free r
short-of targets sources lows highs lines q own types k free x r l turned o fair lacks = record {
  some = lacks.some;
  at = λ usable singles w begins allowed asked. let m = begins.many in
      lacks.at w begins (fair.at usable singles targets lows highs q w turned o allowed asked (omega arith) (begins.kept 0 l));
}
