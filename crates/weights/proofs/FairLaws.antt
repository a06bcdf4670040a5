-- The pairs of weights balance in a world that the tables allow and the query asks for. `rows_at`: links that sources have at least,
-- against columns; `columns-at`: sources that targets have at least, against rows; `mirror-at`: links that sources have at least, against
-- the rows back, which are the columns by the mirror; `whole-at`: parts of wholes, each of at most one whole.
-- Assumes nothing.
use Prim.Native.Nat.{◌*◌, ◌+◌, ◌<◌, ◌≤◌, max, min, suc, zero, zero-le, ℕ}
use native.Mathlib.Nat.{le-min, le_trans, max-le}
use native.Mathlib.Omega.{arith}
use mathlib.Core.Bool.{Bool, ◌&&◌, cond, false, true}
use mathlib.Core.List.{List}
use mathlib.Core.Path.{◌∙◌, ◌≡◌, ap, refl, subst, sym}
use Rattle.std.specs.Bool.{then_some}
use lib.Dec.{eqb, ltb}
use lib.ListN.{get_or}
use borrow.Author.Tests.{eqb-true, ltb-true}
use Rattle.laws.specs.Bits.{bit}
use Rattle.laws.specs.Bounded.{tally}
use Rattle.laws.proofs.BoundedLaws.{any_at, any_of}
use Rattle.laws.proofs.ConnectiveLaws.{and_both, and_left, and_right, where-least}
use Rattle.laws.proofs.CountLaws.{tally-le, tally-mono}
use Rattle.growing.specs.World.{World, source_count, target_count}
use Rattle.worlds.specs.declared.Lines.{Lines}
use Rattle.worlds.specs.declared.Query.{Query}
use Rattle.worlds.specs.Asked.{Satisfies}
use Rattle.worlds.specs.Coherent.{Slotted, SourceTable}
use Rattle.worlds.specs.Kept.{Allowed, sheet, whole_by, whole_of}
use Rattle.weights.specs.declared.Count.TheVariants.{Flat, High, Low, Parts}
use Rattle.weights.specs.Numbers.{in_mask, line_number, number_at, whole_low, whole_row}
use Rattle.weights.specs.Scales.{column_least, column_most, columns_scale, mirror_scale, own_in, own_of, parts_scale, row_least, row_most, rows_scale, together, whole_scale}
use Rattle.weights.specs.Sums.{sum}
use Rattle.weights.proofs.BalanceLaws.{columns-balance, parts-balance, rows-balance}
use Rattle.weights.proofs.NumberLaws.{in-mask, number-flat, number-high, number-low, number-parts}
use Rattle.weights.proofs.OwnLaws.{column-least, column-most, row-least, row-most}
use Rattle.weights.proofs.SumLaws.{sum-ext}
use Rattle.worlds.specs.Lined.{column_at, whole_at}

-- the first object has a limit of its own
limit-cases : (P : ℕ → ℕ → Type 0) (first limit : ℕ) → P 0 first → ((o : ℕ) → P o limit) → (o : ℕ) → P o (cond (eqb o 0) first limit)
limit-cases P first limit f g o = go (eqb o 0) refl
  where
    go : (b : Bool) → eqb o 0 ≡ b → P o (cond b first limit)
    go true e = subst (λ (p : ℕ). P p first) (sym (eqb-true o 0 e)) f
    go false e = g o

-- sums of equal numbers
sums-le : (f f' g g' : ℕ → ℕ) (n : ℕ) → ((i : ℕ) → f i ≡ f' i) → ((i : ℕ) → g i ≡ g' i) → sum f' n ≤ sum g' n → sum f n ≤ sum g n
sums-le f f' g g' n p q l = let a = sum-ext f f' n (λ i k. p i) in
    let b = sum-ext g g' n (λ i k. q i) in omega arith

module _ (usable singles : ℕ) (targets lows highs sources : List ℕ) (x : Lines) (q : Query) (w : World) (turned : SourceTable targets sources)
    (allowed : Allowed (sheet usable singles targets lows highs x) w) (asked : Satisfies q w) (some : 0 < w.size) where
  -- only types that may have links to the first object have one
  reached : (s : ℕ) → s < 32 → (o : ℕ) → o < w.size → w.link s o 0 ≡ true → bit (w.kind o) (get_or sources (w.kind 0 * 32 + s) 0) ≡ true
  reached s l o k h = turned.at (w.kind o) s (w.kind 0) (allowed.known o k) l (allowed.known 0 some) ∙ allowed.rows.allowed s o 0 l k some h

  row-few : (s o : ℕ) → target_count w s o ≤ 255
  row-few s o = let l = tally-le (λ p. w.link s o p) w.size in
      let f = allowed.few in omega arith

  row_low : (s first : ℕ) → s < 32 → first ≤ target_count w s 0 → (o : ℕ) → o < w.size → max (get_or lows (w.kind o * 32 + s) 0) (cond (eqb o 0) first 0) ≤ target_count w s o
  row_low s first l f = limit-cases (λ (o m : ℕ). o < w.size → max (get_or lows (w.kind o * 32 + s) 0) m ≤ target_count w s o) first 0
      (λ k. max-le (allowed.rows.limited s 0 l k).least f) (λ o k. max-le (allowed.rows.limited s o l k).least zero-le)

  -- links that sources have at least, against what their targets have at most
  rows-sum : (s from to first : ℕ) (high : ℕ → ℕ) → s < 32 → first ≤ target_count w s 0 → ((p : ℕ) → p < w.size → bit (w.kind p) to ≡ true → source_count w s from p ≤ high p)
      → sum (λ o. cond (bit (w.kind o) from && in_mask (get_or targets (w.kind o * 32 + s) 0) to) (max (get_or lows (w.kind o * 32 + s) 0) (cond (eqb o 0) first 0)) 0) w.size
      ≤ sum (λ p. cond (bit (w.kind p) to) (high p) 0) w.size
  rows-sum s from to first high l f columns = rows-balance w s good (λ t. bit t to) (λ o. max (get_or lows (w.kind o * 32 + s) 0) (cond (eqb o 0) first 0)) high
      (λ o k e. row_low s first l f o k)
      (λ o p k m e h. in-mask (get_or targets (w.kind o * 32 + s) 0) to (and_right (bit (w.kind o) from) (in_mask (get_or targets (w.kind o * 32 + s) 0) to) e) (w.kind p)
      (allowed.rows.allowed s o p l k m h))
      (λ p m e. le_trans (tally-mono (λ o. good (w.kind o) && w.link s o p) (λ o. bit (w.kind o) from && w.link s o p) w.size (λ o k h.
      and_both (bit (w.kind o) from) (w.link s o p)
      (and_left (bit (w.kind o) from) (in_mask (get_or targets (w.kind o * 32 + s) 0) to) (and_left (good (w.kind o)) (w.link s o p) h))
      (and_right (good (w.kind o)) (w.link s o p) h))) (columns p m e))
    where
      good : ℕ → Bool
      good t = bit t from && in_mask (get_or targets (t * 32 + s) 0) to

  pub rows_at : (j : ℕ) → j < 16 → (column_at x j).slot < 32
      → let r = rows_scale (own_of q) (column_at x j).slot (column_at x j).from (column_at x j).to (column_at x j).high (get_or sources (w.kind 0 * 32 + (column_at x j).slot) 0) in
      together targets lows highs x r.a w ≤ together targets lows highs x r.b w
  unfolding rows_scale
  rows_at j l k =
      let s = (column_at x j).slot in
      let from = (column_at x j).from in
      let to = (column_at x j).to in
      let high = (column_at x j).high in
      let may = get_or sources (w.kind 0 * 32 + s) 0 in
      let first = row_least (own_of q) s in
      let last = min high (column_most (own_of q) s from may) in
      sums-le
      (λ o. number_at targets lows highs x.wholes (record { count = Low to; mask = from; slot = s; limit = 0; first = first }) o (w.kind o))
      (λ o. cond (bit (w.kind o) from && in_mask (get_or targets (w.kind o * 32 + s) 0) to) (max (get_or lows (w.kind o * 32 + s) 0) (cond (eqb o 0) first 0)) 0)
      (λ p. number_at targets lows highs x.wholes (record { count = Flat; mask = to; slot = s; limit = high; first = last }) p (w.kind p))
      (λ p. cond (bit (w.kind p) to) (cond (eqb p 0) last high) 0)
      w.size
      (λ o. number-low targets lows highs x.wholes from s 0 first (cond (eqb o 0) first 0) (w.kind o) to)
      (λ p. number-flat targets lows highs x.wholes to s high last (cond (eqb p 0) last high) (w.kind p))
      (rows-sum s from to first (λ p. cond (eqb p 0) last high) k (row-least q w asked s)
      (limit-cases (λ (p m : ℕ). p < w.size → bit (w.kind p) to ≡ true → source_count w s from p ≤ m) last high
      (λ i e. le-min (allowed.columns.at j 0 l i e).most (column-most q w asked s from may (reached s k) allowed.few))
      (λ p i e. (allowed.columns.at j p l i e).most)))

  pub columns-at : (j : ℕ) → j < 16 → (column_at x j).slot < 32
      → let r = columns_scale (own_of q) (column_at x j).slot (column_at x j).from (column_at x j).to (column_at x j).low (get_or sources (w.kind 0 * 32 + (column_at x j).slot) 0) in
      together targets lows highs x r.a w ≤ together targets lows highs x r.b w
  unfolding columns_scale
  columns-at j l k =
      let s = (column_at x j).slot in
      let from = (column_at x j).from in
      let to = (column_at x j).to in
      let low = (column_at x j).low in
      let may = get_or sources (w.kind 0 * 32 + s) 0 in
      let first = max low (column_least (own_of q) s from may) in
      let last = row_most (own_of q) s in
      sums-le
      (λ p. number_at targets lows highs x.wholes (record { count = Flat; mask = to; slot = s; limit = low; first = first }) p (w.kind p))
      (λ p. cond (bit (w.kind p) to) (cond (eqb p 0) first low) 0)
      (λ o. number_at targets lows highs x.wholes (record { count = High; mask = from; slot = s; limit = 255; first = last }) o (w.kind o))
      (λ o. cond (bit (w.kind o) from) (min (get_or highs (w.kind o * 32 + s) 0) (cond (eqb o 0) last 255)) 0)
      w.size
      (λ p. number-flat targets lows highs x.wholes to s low first (cond (eqb p 0) first low) (w.kind p))
      (λ o. number-high targets lows highs x.wholes from s 255 last (cond (eqb o 0) last 255) (w.kind o))
      (columns-balance w s (λ t. bit t from) (λ t. bit t to) (λ p. cond (eqb p 0) first low) (λ o. min (get_or highs (w.kind o * 32 + s) 0) (cond (eqb o 0) last 255))
      (limit-cases (λ (p m : ℕ). p < w.size → bit (w.kind p) to ≡ true → m ≤ source_count w s from p) first low
      (λ i e. max-le (allowed.columns.at j 0 l i e).least (column-least q w asked s from may (reached s k)))
      (λ p i e. (allowed.columns.at j p l i e).least))
      (limit-cases (λ (o m : ℕ). o < w.size → bit (w.kind o) from ≡ true → target_count w s o ≤ min (get_or highs (w.kind o * 32 + s) 0) m) last 255
      (λ i e. le-min (allowed.rows.limited s 0 k i).most (row-most q w asked s allowed.few))
      (λ o i e. le-min (allowed.rows.limited s o k i).most (row-few s o))))

  -- a column is a row back
  pub mirror-at : (s back from to : ℕ) → s < 32 → back < 32
      → ((o p : ℕ) → o < w.size → p < w.size → bit (w.kind o) from ≡ true → bit (w.kind p) to ≡ true → w.link s o p ≡ w.link back p o)
      → let r = mirror_scale (own_of q) s back from to (get_or sources (w.kind 0 * 32 + s) 0) in
      together targets lows highs x r.a w ≤ together targets lows highs x r.b w
  unfolding mirror_scale
  mirror-at s back from to l k mirror =
      let may = get_or sources (w.kind 0 * 32 + s) 0 in
      let first = row_least (own_of q) s in
      let last = min (row_most (own_of q) back) (column_most (own_of q) s from may) in
      sums-le
      (λ o. number_at targets lows highs x.wholes (record { count = Low to; mask = from; slot = s; limit = 0; first = first }) o (w.kind o))
      (λ o. cond (bit (w.kind o) from && in_mask (get_or targets (w.kind o * 32 + s) 0) to) (max (get_or lows (w.kind o * 32 + s) 0) (cond (eqb o 0) first 0)) 0)
      (λ p. number_at targets lows highs x.wholes (record { count = High; mask = to; slot = back; limit = 255; first = last }) p (w.kind p))
      (λ p. cond (bit (w.kind p) to) (min (get_or highs (w.kind p * 32 + back) 0) (cond (eqb p 0) last 255)) 0)
      w.size
      (λ o. number-low targets lows highs x.wholes from s 0 first (cond (eqb o 0) first 0) (w.kind o) to)
      (λ p. number-high targets lows highs x.wholes to back 255 last (cond (eqb p 0) last 255) (w.kind p))
      (rows-sum s from to first (λ p. min (get_or highs (w.kind p * 32 + back) 0) (cond (eqb p 0) last 255)) l (row-least q w asked s)
      (limit-cases (λ (p m : ℕ). p < w.size → bit (w.kind p) to ≡ true → source_count w s from p ≤ min (get_or highs (w.kind p * 32 + back) 0) m) last 255
      (λ i e. le-min (le_trans (turn 0 i e) (allowed.rows.limited back 0 k i).most)
      (le-min (le_trans (turn 0 i e) (row-most q w asked back allowed.few)) (column-most q w asked s from may (reached s l) allowed.few)))
      (λ p i e. le-min (le_trans (turn p i e) (allowed.rows.limited back p k i).most) (le_trans (turn p i e) (row-few back p)))))
    where
      turn : (p : ℕ) → p < w.size → bit (w.kind p) to ≡ true → source_count w s from p ≤ target_count w back p
      turn p i e = tally-mono (λ o. bit (w.kind o) from && w.link s o p) (λ o. w.link back p o) w.size (λ o m h.
          sym (mirror o p m i (and_left (bit (w.kind o) from) (w.link s o p) h) e) ∙ and_right (bit (w.kind o) from) (w.link s o p) h)

  -- ---- wholes

  abbrev parts : ℕ → ℕ
  parts o = tally (λ p. whole_of x w p o) w.size

  -- by one line: where it counts, all links in its slot go to parts
  line-parts : (slotted : Slotted x) (r o limit j : ℕ) → o < w.size → j < 16 → limit ≤ target_count w r o
      → whole_row targets lows x.wholes r limit (w.kind o) j ≤ parts o
  unfolding whole_row line_number whole_of
  line-parts slotted r o limit j k l f =
      let s = (whole_at x j).slot in
      let from = (whole_at x j).from in
      let to = (whole_at x j).to in
      let target = get_or targets (w.kind o * 32 + s) 0 in
      let low = get_or lows (w.kind o * 32 + s) 0 in
      where-least (bit (w.kind o) from && in_mask target to) (cond (eqb r s) (max low limit) low) (parts o) (λ e.
      le_trans (links s low (allowed.rows.limited s o (slotted.whole j l) k).least (eqb r s) refl)
      (tally-mono (λ p. w.link s o p) (λ p. whole_of x w p o) w.size (λ p i h.
      any_of (whole_by x w p o) 16 j l (and_both (bit (w.kind o) from) (bit (w.kind p) to && w.link s o p) (and_left (bit (w.kind o) from) (in_mask target to) e)
      (and_both (bit (w.kind p) to) (w.link s o p)
      (in-mask target to (and_right (bit (w.kind o) from) (in_mask target to) e) (w.kind p) (allowed.rows.allowed s o p (slotted.whole j l) k i h)) h)))))
    where
      links : (s low : ℕ) → low ≤ target_count w s o → (b : Bool) → eqb r s ≡ b → cond b (max low limit) low ≤ target_count w s o
      links s low m true e = max-le m (subst (λ (z : ℕ). limit ≤ target_count w z o) (eqb-true r s e) f)
      links s low m false e = m

  all-parts : (slotted : Slotted x) (r o limit n : ℕ) → o < w.size → n ≤ 16 → limit ≤ target_count w r o
      → whole_low targets lows x.wholes r limit (w.kind o) n ≤ parts o
  unfolding whole_low
  all-parts slotted r o limit zero k l f = zero-le
  all-parts slotted r o limit (suc n) k l f = max-le (all-parts slotted r o limit n k (omega arith) f) (line-parts slotted r o limit n k l f)

  parts-of : (to : ℕ) → ((j t : ℕ) → j < 16 → bit t (whole_at x j).to ≡ true → bit t to ≡ true) → (o p : ℕ) → whole_of x w p o ≡ true → bit (w.kind p) to ≡ true
  unfolding whole_of
  parts-of to joined o p e =
      let a = any_at (whole_by x w p o) 16 e in
      let j = a.0 in
      joined j (w.kind p) a.1 (and_left (bit (w.kind p) (whole_at x j).to) (w.link (whole_at x j).slot o p)
      (and_right (bit (w.kind o) (whole_at x j).from) (bit (w.kind p) (whole_at x j).to && w.link (whole_at x j).slot o p) a.2))

  same-limit : (b : Bool) → ◌≡◌ {A = ℕ} (cond b 1 1) 1
  same-limit true = refl
  same-limit false = refl

  -- of wholes whose first has at least `first` targets in slot r
  parts-at : (r first from to : ℕ) → first ≤ target_count w r 0 → Slotted x → ((j t : ℕ) → j < 16 → bit t (whole_at x j).to ≡ true → bit t to ≡ true)
      → let z = parts_scale r first from to in
      together targets lows highs x z.a w ≤ together targets lows highs x z.b w
  unfolding parts_scale
  parts-at r first from to f slotted joined =
      let least : ℕ → ℕ = λ o. whole_low targets lows x.wholes r (cond (eqb o 0) first 0) (w.kind o) 16 in
      sums-le
      (λ o. number_at targets lows highs x.wholes (record { count = Parts; mask = from; slot = r; limit = 0; first = first }) o (w.kind o))
      (λ o. cond (bit (w.kind o) from) (least o) 0)
      (λ p. number_at targets lows highs x.wholes (record { count = Flat; mask = to; slot = r; limit = 1; first = 1 }) p (w.kind p))
      (λ p. cond (bit (w.kind p) to) 1 0)
      w.size
      (λ o. number-parts targets lows highs x.wholes from r 0 first (cond (eqb o 0) first 0) (w.kind o))
      (λ p. number-flat targets lows highs x.wholes to r 1 1 (cond (eqb p 0) 1 1) (w.kind p)
      ∙ ap (λ (m : ℕ). cond (bit (w.kind p) to) m 0) (same-limit (eqb p 0)))
      (parts-balance w.size (whole_of x w) (λ o. cond (bit (w.kind o) from) (least o) 0) (λ p. bit (w.kind p) to)
      (λ o k. where-least (bit (w.kind o) from) (least o) (parts o) (λ e. all-parts slotted r o (cond (eqb o 0) first 0) 16 k (omega arith)
      (limit-cases (λ (o m : ℕ). m ≤ target_count w r o) first 0 f (λ o. zero-le) o)))
      (λ p k. allowed.wholes.at p k)
      (λ o p k l e. parts-of to joined o p e))

  pub whole-at : (from to : ℕ) → Slotted x → ((j t : ℕ) → j < 16 → bit t (whole_at x j).to ≡ true → bit t to ≡ true)
      → let r = whole_scale (own_of q) from to in
      together targets lows highs x r.a w ≤ together targets lows highs x r.b w
  unfolding whole_scale
  whole-at from to slotted joined = go (ltb 0 q.seeds) refl
    where
      go : (b : Bool) → ltb 0 q.seeds ≡ b → let r = whole_scale (then_some b (own_in q)) from to in
          together targets lows highs x r.a w ≤ together targets lows highs x r.b w
      go true e = parts-at q.row.slot q.row.low from to (asked.row (ltb-true 0 q.seeds e)).least slotted joined
      go false e = parts-at 0 0 from to zero-le slotted joined
