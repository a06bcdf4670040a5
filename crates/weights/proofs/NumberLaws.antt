-- Laws of the numbers by types: how the code finds them, and what they are by each count.
-- Assumes nothing.
use Prim.Native.Nat.{◌*◌, ◌+◌, ◌<◌, max, min, ℕ}
use native.Mathlib.Numerals.{add-one}
use native.Mathlib.Omega.{arith}
use mathlib.Core.Bool.{Bool, ◌&&◌, cond, false, true}
use mathlib.Core.List.{List}
use mathlib.Core.Path.{◌∙◌, ◌≡◌, ap, ap₂, refl, sym}
use lib.Bits.{bit_and, bit_or}
use lib.ListN.{get_or}
use borrow.Author.Count.{below_more}
use borrow.Author.Tests.{eqb-true, ne_eqb}
use Rattle.laws.specs.Bits.{bit}
use Rattle.laws.proofs.BitLaws.{bit-or, bit-both}
use Rattle.laws.proofs.ConnectiveLaws.{or_left, or_right}
use Rattle.weights.specs.declared.Count.TheVariants.{Flat, High, Low, Parts}
use Rattle.weights.specs.declared.Count.{Count}
use Rattle.weights.specs.declared.Weight.{Weight}
use Rattle.weights.specs.Numbers.{in_mask, limit_at, counted, number_by, whole_low, whole_row}
use Rattle.worlds.specs.declared.Whole.{Whole}
use Rattle.worlds.specs.Lined.{zero_whole}

-- ---- masks

pub in-mask : (a b : ℕ) → in_mask a b ≡ true → (t : ℕ) → bit t a ≡ true → bit t b ≡ true
unfolding in_mask
in-mask a b h t e = sym (ap (bit t) (eqb-true (bit_or a b) b h)) ∙ bit-or t a b ∙ or_left (bit t a) (bit t b) e

pub in_meet : (a b c : ℕ) → in_mask (bit_and a b) c ≡ true → (t : ℕ) → bit t a ≡ true → bit t b ≡ true → bit t c ≡ true
in_meet a b c h t e f = in-mask (bit_and a b) c h t (bit-both t a b e f)

-- the parts of one line more
pub mask-more : (wholes : List Whole) (j m : ℕ) → ((k : ℕ) → k < j → (t : ℕ) → bit t (get_or wholes k zero_whole).to ≡ true → bit t m ≡ true)
    → (k : ℕ) → k < j + 1 → (t : ℕ) → bit t (get_or wholes k zero_whole).to ≡ true → bit t (bit_or m (get_or wholes j zero_whole).to) ≡ true
mask-more wholes j m f =
    let next = (get_or wholes j zero_whole).to in
    below_more (λ (k : ℕ). (t : ℕ) → bit t (get_or wholes k zero_whole).to ≡ true → bit t (bit_or m next) ≡ true) j
    (λ k l t e. bit-or t m next ∙ or_left (bit t m) (bit t next) (f k l t e)) (λ t e. bit-or t m next ∙ or_right (bit t m) (bit t next) e)

-- ---- the largest number by wholes

module _ (targets lows : List ℕ) (wholes : List Whole) (slot limit t : ℕ) where
  pub whole-begin : 0 ≡ whole_low targets lows wholes slot limit t 0
  unfolding whole_low
  whole-begin = refl

  pub whole-next : (j : ℕ) {n m r : ℕ} → n ≡ whole_low targets lows wholes slot limit t j → m ≡ whole_row targets lows wholes slot limit t j → r ≡ max n m
      → r ≡ whole_low targets lows wholes slot limit t (j + 1)
  whole-next j e f g = g ∙ ap₂ max e f ∙ sym (ap (whole_low targets lows wholes slot limit t) (add-one j) ∙ (unfold whole_low in refl))

-- ---- the number of a type

module _ (targets lows highs : List ℕ) (wholes : List Whole) where
  module _ (w : Weight) (limit t : ℕ) where
    pub number-none : {i : ℕ} → i ≡ t → bit i w.mask ≡ false → 0 ≡ number_by targets lows highs wholes w limit t
    unfolding number_by
    number-none q e = let h : bit t w.mask ≡ false = ap (λ (k : ℕ). bit k w.mask) (sym q) ∙ e in rw h

    pub number-as : (k : Count) {i r : ℕ} → i ≡ t → w.count ≡ k → bit i w.mask ≡ true → r ≡ counted targets lows highs wholes k w limit t
        → r ≡ number_by targets lows highs wholes w limit t
    unfolding number_by
    number-as k q e f' g =
        let f : bit t w.mask ≡ true = ap (λ (k : ℕ). bit k w.mask) (sym q) ∙ f' in
        let by : Count → ℕ = λ c. counted targets lows highs wholes c w limit t in
        let h : by w.count ≡ number_by targets lows highs wholes w limit t = rw f in
        g ∙ ap by (sym e) ∙ h

  -- by what is counted
  module _ (mask slot limit₀ first limit t : ℕ) where
    pub number-low : (to : ℕ) → number_by targets lows highs wholes (record { count = Low to; mask = mask; slot = slot; limit = limit₀; first = first }) limit t
        ≡ cond (bit t mask && in_mask (get_or targets (t * 32 + slot) 0) to) (max (get_or lows (t * 32 + slot) 0) limit) 0
    unfolding number_by counted
    number-low to = go (bit t mask)
      where
        go : (b : Bool) → cond b (cond (in_mask (get_or targets (t * 32 + slot) 0) to) (max (get_or lows (t * 32 + slot) 0) limit) 0) 0
            ≡ cond (b && in_mask (get_or targets (t * 32 + slot) 0) to) (max (get_or lows (t * 32 + slot) 0) limit) 0
        go true = refl
        go false = refl

    pub number-high : number_by targets lows highs wholes (record { count = High; mask = mask; slot = slot; limit = limit₀; first = first }) limit t
        ≡ cond (bit t mask) (min (get_or highs (t * 32 + slot) 0) limit) 0
    unfolding number_by counted
    number-high = refl

    pub number-flat : number_by targets lows highs wholes (record { count = Flat; mask = mask; slot = slot; limit = limit₀; first = first }) limit t ≡ cond (bit t mask) limit 0
    unfolding number_by counted
    number-flat = refl

    pub number-parts : number_by targets lows highs wholes (record { count = Parts; mask = mask; slot = slot; limit = limit₀; first = first }) limit t
        ≡ cond (bit t mask) (whole_low targets lows wholes slot limit t 16) 0
    unfolding number_by counted
    number-parts = refl

-- an object that is not the first has the common limit
pub limit-else : (w : Weight) (o : ℕ) → 0 < o → limit_at w o ≡ w.limit
limit-else w o l = ap (λ (b : Bool). cond b w.first w.limit) (ne_eqb o 0 (λ e. omega arith))
