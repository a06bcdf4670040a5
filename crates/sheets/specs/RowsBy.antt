-- The rows' tables as numbers of the arrays, before anything is said of a diagram: for type t and slot s at place t * 32 + s. Sets of
-- types are masks.
-- Assumes nothing.
use Rattle.std.specs.Prelude.{◌%◌, ◌/◌, ◌<◌, max, min, suc, zero, ℕ, Bool, cond, List, ◌≡◌, eqb, ltb, get_or, length}
use Rattle.std.specs.Int.Bits.{bit_and, bit_or}
use Rattle.laws.specs.Bits.{bit}
use Rattle.laws.specs.Bounded.{all, any}
use Rattle.laws.specs.Connective.{both, imp}
use Rattle.type_tables.specs.RowsIn.{carried_in, other_end}

-- ---- one end

-- the types whose links go to end e, by the types of each end
unfoldable pub source_in : List ℕ → List ℕ → ℕ → ℕ
source_in sets arrows e = cond (carried_in arrows e) (get_or sets (other_end e) 0) 0

-- x is the place of slot s and a type of the set, one of the first k
unfoldable pub is_place : ℕ → ℕ → ℕ → ℕ → Bool
is_place set s k x = both (ltb (x / 32) k) (both (eqb s (x % 32)) (bit (x / 32) set))

-- r is l with f done at these places
pub record Stepped (f : ℕ → ℕ) (set s k : ℕ) (l r : List ℕ) : Type 0 where
  pub size : length r ≡ 768
  pub is : (x : ℕ) → x < 768 → get_or r x 0 ≡ cond (is_place set s k x) (f (get_or l x 0)) (get_or l x 0)

-- ---- all ends

-- the links of the type and slot of place x go to end e
abbrev pub leads_at : List ℕ → List ℕ → List ℕ → ℕ → ℕ → ℕ → Bool
leads_at sets arrows slots k x e = is_place (source_in sets arrows e) (get_or slots e 0) k x

-- m, and one step for each index below n at which p holds
unfoldable pub gathered : (ℕ → Bool) → (ℕ → ℕ → ℕ) → ℕ → ℕ → ℕ
gathered p f m zero = m
gathered p f m (suc n) = cond (p n) (f n (gathered p f m n)) (gathered p f m n)

-- the largest lower limit and the least upper one, where more than 9, more than 8, is as good
abbrev pub low_at : List ℕ → (ℕ → Bool) → ℕ → ℕ
low_at lows p n = gathered p (λ e m. max m (min 9 (get_or lows e 0))) 0 n

abbrev pub high_at : List ℕ → (ℕ → Bool) → ℕ → ℕ
high_at ups p n = gathered p (λ e m. min m (min 8 (get_or ups e 0))) 8 n

-- with the types of `more`, and of these the ones that are in the set of each end
abbrev pub mask_at : ℕ → List ℕ → ℕ → (ℕ → Bool) → ℕ → ℕ
mask_at more keeps m p n = gathered p (λ e m. bit_and (bit_or m more) (get_or keeps e 0)) m n

-- there is such an end, and type u is in the set of each
unfoldable pub target_at : List ℕ → (ℕ → Bool) → ℕ → ℕ → Bool
target_at sets p n u = both (any p n) (all (λ e. imp (p e) (bit u (get_or sets e 0))) n)
