-- Limits and rows of targets on masks: a mask of eight objects says of n objects what the rule does.
-- Assumes nothing.
use Prim.Native.Nat.{ℕ, ◌^◌, ◌<◌, ◌≤◌}
use native.Mathlib.Decide.{dec_lt}
use native.Mathlib.Omega.{arith}
use mathlib.Core.Bool.{Bool, true, false, ◌&&◌}
use mathlib.Core.List.{List, [], ◌∷◌}
use mathlib.Core.Path.{◌≡◌, refl, sym, ap, ap₂, ◌∙◌}
use lib.Bits.{bit_and}
use lib.Dec.{ltb}
use lib.ListN.{get_or}
use borrow.Author.Tests.{lt-ltb, le-ltb}
use Rattle.laws.specs.Connective.{both, imp, same}
use Rattle.laws.specs.Bounded.{all}
use Rattle.laws.specs.Bits.{bit}
use Rattle.laws.proofs.ConnectiveLaws.{both_left, both_right, same-is}
use Rattle.laws.proofs.BoundedLaws.{all-at, all-ext}
use Rattle.laws.proofs.CountLaws.{tally-ext}
use Rattle.laws.proofs.BitLaws.{bit-above, bit-and}
use Rattle.laws.proofs.MaskLaws.{all-beyond, tally-beyond}
use Rattle.files.specs.Diagram.{Limits}
use Rattle.rules.specs.Arrow.{within}
use Rattle.masks.specs.Masks.{row_fits}

-- ---- the first n objects

abbrev pub object_masks : List ℕ
object_masks = 0 ∷ 1 ∷ 3 ∷ 7 ∷ 15 ∷ 31 ∷ 63 ∷ 127 ∷ 255 ∷ []

-- each mask has the bits below its index, and is a byte
right : ℕ → Bool
right n = both (all (λ p. same (bit p (get_or object_masks n 0)) (ltb p n)) 8) (ltb (get_or object_masks n 0) 256)

all_right : all right 9 ≡ true
unfolding right all both same bit
all_right = refl

pub object-masks : (n : ℕ) → n ≤ 8 → (p : ℕ) → bit p (get_or object_masks n 0) ≡ ltb p n
unfolding right
object-masks n h p = go (dec_lt p 8)
  where
    here : right n ≡ true
    here = all-at right 9 all_right n (let l : n < 9 = omega arith in l)

    small : get_or object_masks n 0 < 2 ^ 8
    small = borrow.Author.Tests.ltb-true _ _ (both_right (all (λ p. same (bit p (get_or object_masks n 0)) (ltb p n)) 8) _ here)

    go : Dec (p < 8) → bit p (get_or object_masks n 0) ≡ ltb p n
    go (yes l) = same-is _ _ (all-at (λ p. same (bit p (get_or object_masks n 0)) (ltb p n)) 8 (both_left _ _ here) p l)
    go (no l) = bit-above 8 p (get_or object_masks n 0) small (omega arith) ∙ sym (le-ltb p n (omega arith))

-- ---- a row of targets

module _ (targets : ℕ → Bool) (mask to : ℕ) (limits : Limits) (n : ℕ) (h : n ≤ 8) (is : (p : ℕ) → bit p mask ≡ targets p && ltb p n) where
  inside : (p : ℕ) → p < n → bit p mask ≡ targets p
  inside p l = is p ∙ ap (λ (b : Bool). targets p && b) (lt-ltb p n l) ∙ go (targets p)
    where
      go : (b : Bool) → b && true ≡ b
      go true = refl
      go false = refl

  outside : (p : ℕ) → n ≤ p → bit p mask ≡ false
  outside p l = is p ∙ ap (λ (b : Bool). targets p && b) (le-ltb p n l) ∙ go (targets p)
    where
      go : (b : Bool) → b && false ≡ false
      go true = refl
      go false = refl

  pub row-narrow : row_fits (λ p. bit p mask) to limits 8 ≡ row_fits targets to limits n
  unfolding row_fits imp
  row-narrow =
      ap₂ (λ (a : Bool) (k : ℕ). both a (within limits k))
      (all-beyond (λ p. imp (bit p mask) (bit p to)) n (λ p l. ap (λ (b : Bool). imp b (bit p to)) (outside p l)) 8 h
      ∙ all-ext _ _ n (λ p l. ap (λ (b : Bool). imp b (bit p to)) (inside p l)))
      (tally-beyond (λ p. bit p mask) n outside 8 h ∙ tally-ext _ _ n inside)

-- the row's bits among the first n objects
pub row-among : (links : ℕ → Bool) (a b n p : ℕ) → ((p : ℕ) → bit p a ≡ links p) → ((p : ℕ) → bit p b ≡ ltb p n) → bit p (bit_and a b) ≡ links p && ltb p n
row-among links a b n p f g = bit-and p a b ∙ ap₂ (λ (x y : Bool). x && y) (f p) (g p)
