-- Laws of sets of types as masks: one set without another, and the types of the first objects.
-- Assumes nothing.
use Prim.Native.Nat.{◌+◌, ℕ}
use mathlib.Core.Bool.{Bool, ◌&&◌, ◌||◌, not}
use mathlib.Core.List.{List}
use mathlib.Core.Path.{◌∙◌, ◌≡◌, ap, ap₂, sym}
use lib.Bits.{bit_and}
use lib.Dec.{eqb}
use lib.ListN.{get_or}
use Rattle.laws.specs.Bits.{bit}
use Rattle.laws.proofs.BitLaws.{bit-and, bit-zero}
use Rattle.laws.proofs.BoundedLaws.{any-more}
use Rattle.laws.proofs.LoopLaws.{any-begin}
use Rattle.demands.specs.Wishes.{available, present}

module _ (types : List ℕ) where
  pub present-begin : (t : ℕ) → bit t 0 ≡ present types 0 t
  present-begin t = bit-zero t ∙ sym (any-begin (λ o. eqb t (get_or types o 0)))

  -- r is m with the type of object o
  pub present-more : (o m r : ℕ) → ((t : ℕ) → bit t m ≡ present types o t) → ((t : ℕ) → bit t r ≡ bit t m || eqb t (get_or types o 0))
      → (t : ℕ) → bit t r ≡ present types (o + 1) t
  present-more o m r f g t = g t ∙ ap (λ (b : Bool). b || eqb t (get_or types o 0)) (f t) ∙ sym (any-more (λ o. eqb t (get_or types o 0)) o)

-- the mask of the available types, as it is made
pub bit-free : (usable singles forb here rest free : ℕ) (types : List ℕ) (k : ℕ) → ((t : ℕ) → bit t here ≡ present types k t)
    → ((t : ℕ) → bit t rest ≡ bit t usable && not (bit t forb)) → ((t : ℕ) → bit t free ≡ bit t rest && not (bit t (bit_and singles here)))
    → (t : ℕ) → bit t free ≡ available usable singles forb types k t
bit-free usable singles forb here rest free types k f g h t =
    h t ∙ ap₂ (λ (x y : Bool). x && not y) (g t) (bit-and t singles here ∙ ap (λ (b : Bool). bit t singles && b) (f t))
