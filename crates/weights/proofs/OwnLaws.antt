-- What a query asks of the first object holds of its row and of its column.
-- Assumes nothing.
use Prim.Native.Nat.{◌<◌, ◌≤◌, zero-le, ℕ}
use Rattle.std.specs.Prelude.{IfSome, None, Option, Some}
use Rattle.std.specs.Bool.{then_some}
use Rattle.std.specs.Option.{MatchOption}
use native.Mathlib.Nat.{le_trans}
use native.Mathlib.Omega.{arith}
use mathlib.Core.Bool.{Bool, ◌&&◌, cond, false, true}
use mathlib.Core.Path.{◌∙◌, ◌≡◌, ap, refl, subst, sym}
use lib.Bits.{bit_and}
use lib.Dec.{eqb, ltb}
use borrow.Author.Tests.{eqb-true, ltb-true}
use Rattle.laws.specs.Bits.{bit}
use Rattle.laws.specs.Bounded.{tally}
use Rattle.laws.proofs.ConnectiveLaws.{and_both, and_left, and_right, where-least}
use Rattle.laws.proofs.CountLaws.{tally-le, tally-mono}
use Rattle.growing.specs.World.{World}
use Rattle.worlds.specs.declared.Query.{Query}
use Rattle.worlds.specs.Asked.{Satisfies, source_asked}
use Rattle.weights.specs.declared.Own.{Own}
use Rattle.weights.specs.Numbers.{in_mask}
use Rattle.weights.specs.Scales.{column_least, column_most, own_in, own_of, parts_scale, row_least, row_most, whole_scale}
use Rattle.weights.proofs.NumberLaws.{in_meet}

-- a number is not above what is chosen by a test where it is not above either
cond-most : (b : Bool) (n x y : ℕ) → (b ≡ true → n ≤ x) → n ≤ y → n ≤ cond b x y
cond-most true n x y f g = f refl
cond-most false n x y f g = g

-- what a function says of nothing asked and of each limits asked, it says of an Option of them
pub own-by : {P : Own → Type 0} (g : Option Own → ℕ) (o : Option Own) {r : ℕ} → MatchOption o (r ≡ g None) P → ((a : Own) → P a → r ≡ g (Some a)) → r ≡ g o
own-by g None e f = e
own-by g (Some a) e f = f a e

-- likewise of the pair that the scale of wholes is made of
pub whole-by : {P : Own → Type 0} (from to : ℕ) (o : Option Own) (r : ℕ × ℕ) → MatchOption o (r ≡ (0, 0)) P → ((a : Own) → P a → r ≡ (a.row.slot, a.row.low))
    → parts_scale r.0 r.1 from to ≡ whole_scale o from to
unfolding whole_scale
whole-by from to None r e f = ap (λ (k : ℕ × ℕ). parts_scale k.0 k.1 from to) e
whole-by from to (Some a) r e f = ap (λ (k : ℕ × ℕ). parts_scale k.0 k.1 from to) (f a e)

module _ (q : Query) (w : World) (asked : Satisfies q w) where
  -- what holds of a query with seeds and of nothing asked holds of what is asked
  own-cases : (P : Option Own → Type 0) → (0 < q.seeds → P (Some (own_in q))) → P None → P (own_of q)
  own-cases P f g = go (ltb 0 q.seeds) refl
    where
      go : (b : Bool) → ltb 0 q.seeds ≡ b → P (then_some b (own_in q))
      go true e = f (ltb-true 0 q.seeds e)
      go false e = g

  pub row-least : (s : ℕ) → row_least (own_of q) s ≤ tally (λ p. w.link s 0 p) w.size
  row-least s = own-cases (λ (o : Option Own). row_least o s ≤ tally (λ p. w.link s 0 p) w.size)
      (λ i. unfold row_least in where-least (eqb q.row.slot s) q.row.low (tally (λ p. w.link s 0 p) w.size) (λ e.
      subst (λ (r : ℕ). q.row.low ≤ tally (λ p. w.link r 0 p) w.size) (eqb-true q.row.slot s e) (asked.row i).least))
      (unfold row_least in zero-le)

  pub row-most : (s : ℕ) → w.size ≤ 8 → tally (λ p. w.link s 0 p) w.size ≤ row_most (own_of q) s
  row-most s few =
      let l = tally-le (λ p. w.link s 0 p) w.size in
      own-cases (λ (o : Option Own). tally (λ p. w.link s 0 p) w.size ≤ row_most o s)
      (λ i. unfold row_most in cond-most (eqb q.row.slot s) (tally (λ p. w.link s 0 p) w.size) q.row.high 255
      (λ e. subst (λ (r : ℕ). tally (λ p. w.link r 0 p) w.size ≤ q.row.high) (eqb-true q.row.slot s e) (asked.row i).most)
      (omega arith))
      (unfold row_most in omega arith)

  -- the sources of types `from`, where only types of the mask `may` can have links to the first object
  module _ (s from may : ℕ) (reach : (o : ℕ) → o < w.size → w.link s o 0 ≡ true → bit (w.kind o) may ≡ true) where
    abbrev sources : ℕ → Bool
    sources o = bit (w.kind o) from && w.link s o 0

    -- the query's own slot is s
    there : eqb q.column.slot s ≡ true → (o : ℕ) → w.link q.column.slot o 0 ≡ w.link s o 0
    there e o = ap (λ (r : ℕ). w.link r o 0) (eqb-true q.column.slot s e)

    pub column-least : column_least (own_of q) s from may ≤ tally sources w.size
    column-least = own-cases (λ (o : Option Own). column_least o s from may ≤ tally sources w.size)
        (λ i. unfold column_least in where-least (eqb q.column.slot s && in_mask (bit_and q.column.from may) from) q.column.least (tally sources w.size) (λ e.
        let t = and_left (eqb q.column.slot s) (in_mask (bit_and q.column.from may) from) e in
        let k = and_right (eqb q.column.slot s) (in_mask (bit_and q.column.from may) from) e in
        le_trans (asked.column i).least (tally-mono (source_asked q w) sources w.size (λ o l h.
        let link = sym (there t o) ∙ and_right (bit (w.kind o) q.column.from) (w.link q.column.slot o 0) h in
        and_both (bit (w.kind o) from) (w.link s o 0)
        (in_meet q.column.from may from k (w.kind o) (and_left (bit (w.kind o) q.column.from) (w.link q.column.slot o 0) h) (reach o l link)) link))))
        (unfold column_least in zero-le)

    pub column-most : w.size ≤ 8 → tally sources w.size ≤ column_most (own_of q) s from may
    column-most few =
        let n = tally-le sources w.size in
        own-cases (λ (o : Option Own). tally sources w.size ≤ column_most o s from may)
        (λ i. unfold column_most in cond-most (eqb q.column.slot s && in_mask (bit_and from may) q.column.from) (tally sources w.size) q.column.most 255 (λ e.
        let t = and_left (eqb q.column.slot s) (in_mask (bit_and from may) q.column.from) e in
        let k = and_right (eqb q.column.slot s) (in_mask (bit_and from may) q.column.from) e in
        le_trans (tally-mono sources (source_asked q w) w.size (λ o l h.
        let link = and_right (bit (w.kind o) from) (w.link s o 0) h in
        and_both (bit (w.kind o) q.column.from) (w.link q.column.slot o 0)
        (in_meet from may q.column.from k (w.kind o) (and_left (bit (w.kind o) from) (w.link s o 0) h) (reach o l link)) (there t o ∙ link)))
        (asked.column i).most)
        (omega arith))
        (unfold column_most in omega arith)
