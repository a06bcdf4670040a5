-- A loop that marks the images of the chosen types, type by type, and the sets of types that it makes.
-- Assumes nothing.
use Prim.Native.Nat.{◌+◌, ◌<◌, ◌≤◌, ℕ}
use native.Mathlib.Nat.{le_antisymm, lt_of_lt_of_le}
use mathlib.Core.Bool.{Bool, ◌&&◌, ◌||◌, and-false, false, or-false, true}
use mathlib.Core.List.{List}
use mathlib.Core.Path.{◌∙◌, ◌≡◌, ap, ap₂, refl, subst, sym}
use lib.Dec.{eqb, ltb}
use lib.ListN.{get_or}
use borrow.Author.Tests.{eq-eqb, eqb-false, eqb-true, lt-ltb, ltb-true, ne_eqb}
use Rattle.laws.specs.Bits.{Marks, bit}
use Rattle.laws.specs.Bounded.{any}
use Rattle.laws.specs.Connective.{both}
use Rattle.laws.proofs.BitLaws.{bit-zero}
use Rattle.laws.proofs.BoundedLaws.{any-ext, any-more}
use Rattle.laws.proofs.ConnectiveLaws.{both_left, both_right, or_right}
use Rattle.sheets.specs.NamedIn.{is_image}

module _ (images : List ℕ) (chosen : ℕ → Bool) (k : ℕ) where
  image-more : (i t : ℕ) → is_image images chosen (i + 1) t ≡ is_image images chosen i t || both (eqb (get_or images i 0) t) (chosen i)
  unfolding is_image
  image-more i t = any-more (λ i. both (eqb (get_or images i 0) t) (chosen i)) i

  pub shown-begin : Marks (is_image images chosen 0) k 0
  unfolding is_image any
  shown-begin t = bit-zero t ∙ sym (and-false (ltb t k))

  -- type i is chosen, and its image b one of the k
  pub shown-hit : (i mask s : ℕ) {w b : ℕ} {r c : Bool} → r ≡ both (ltb (get_or images i 0) k) c → c ≡ chosen i → r ≡ true → w ≡ i → b ≡ get_or images w 0
      → ((j : ℕ) → bit j s ≡ bit j mask || eqb j b) → Marks (is_image images chosen i) k mask → Marks (is_image images chosen (i + 1)) k s
  unfolding both
  shown-hit i mask s {w} {b} {r} {c} e o q f g step so j =
      step j ∙ ap₂ (λ (x : Bool) (y : ℕ). x || eqb j y) (so j) at ∙ go (eqb j (get_or images i 0)) refl ∙ sym (ap (λ (x : Bool). ltb j k && x) (image-more i j))
    where
      at : b ≡ get_or images i 0
      at = g ∙ ap (λ (n : ℕ). get_or images n 0) f

      below : get_or images i 0 < k
      below = ltb-true _ _ (both_left (ltb (get_or images i 0) k) c (sym e ∙ q))

      on : chosen i ≡ true
      on = sym o ∙ both_right (ltb (get_or images i 0) k) c (sym e ∙ q)

      go : (z : Bool) → eqb j (get_or images i 0) ≡ z
          → (ltb j k && is_image images chosen i j) || z ≡ ltb j k && (is_image images chosen i j || both (eqb (get_or images i 0) j) (chosen i))
      go true z =
          let same : j ≡ get_or images i 0 = eqb-true _ _ z in
          or_right (ltb j k && is_image images chosen i j) true refl
          ∙ sym (rw (lt-ltb j k (subst (λ (n : ℕ). n < k) (sym same) below), eq-eqb (get_or images i 0) j (sym same), on) (or_right (is_image images chosen i j) true refl))
      go false z =
          or-false (ltb j k && is_image images chosen i j)
          ∙ ap (λ (x : Bool). ltb j k && x) (sym (rw (ne_eqb (get_or images i 0) j (λ h. eqb-false _ _ z (sym h))) (or-false (is_image images chosen i j))))

  pub shown-miss : (i mask : ℕ) {r c : Bool} → r ≡ both (ltb (get_or images i 0) k) c → c ≡ chosen i → r ≡ false
      → Marks (is_image images chosen i) k mask → Marks (is_image images chosen (i + 1)) k mask
  unfolding both
  shown-miss i mask {r} {c} e o q so j = so j ∙ go (ltb j k) refl (eqb (get_or images i 0) j) refl ∙ sym (ap (λ (x : Bool). ltb j k && x) (image-more i j))
    where
      off : both (ltb (get_or images i 0) k) (chosen i) ≡ false
      off = ap (both (ltb (get_or images i 0) k)) (sym o) ∙ sym e ∙ q

      go : (a : Bool) → ltb j k ≡ a → (b : Bool) → eqb (get_or images i 0) j ≡ b
          → a && is_image images chosen i j ≡ a && (is_image images chosen i j || both b (chosen i))
      go true a true b =
          let same : get_or images i 0 ≡ j = eqb-true _ _ b in
          let none : chosen i ≡ false = rw (same, a) at off in
          sym (rw none (or-false (is_image images chosen i j)))
      go true a false b = sym (or-false (is_image images chosen i j))
      go false a b z = refl

  pub shown-done : (m i mask : ℕ) → i ≤ m → m ≤ i → Marks (is_image images chosen i) k mask → Marks (is_image images chosen m) k mask
  shown-done m i mask h l f = subst (λ (n : ℕ). Marks (is_image images chosen n) k mask) (le_antisymm h l) f

-- the image that is marked is one of the k
pub shown-below : (a k : ℕ) (b : Bool) {r : Bool} → r ≡ both (ltb a k) b → r ≡ true → a < k
shown-below a k b {r} e q = ltb-true _ _ (both_left (ltb a k) b (sym e ∙ q))

-- two choices that agree below m
pub image-ext : (images : List ℕ) (p q : ℕ → Bool) (m t : ℕ) → ((i : ℕ) → i < m → p i ≡ q i) → is_image images p m t ≡ is_image images q m t
unfolding is_image
image-ext images p q m t f =
    any-ext (λ i. both (eqb (get_or images i 0) t) (p i)) (λ i. both (eqb (get_or images i 0) t) (q i)) m
    (λ i l. ap (both (eqb (get_or images i 0) t)) (f i l))

-- the same where the choice is a mask
pub images-by : (images : List ℕ) (p : ℕ → Bool) (m n k chosen mask : ℕ) → m ≤ n → Marks p n chosen
    → Marks (is_image images (λ i. bit i chosen) m) k mask → Marks (is_image images p m) k mask
images-by images p m n k chosen mask l f g j = g j ∙ ap (λ (x : Bool). ltb j k && x) (image-ext images (λ i. bit i chosen) p m j
    (λ i h. f i ∙ ap (λ (b : Bool). b && p i) (lt-ltb i n (lt_of_lt_of_le h l))))
