-- Numbers by types: what the tables say that each object of a type has at least or at most.
-- Assumes nothing.
use Rattle.std.specs.Prelude.{◌*◌, ◌+◌, max, min, suc, zero, ℕ, Bool, ◌&&◌, cond, List, eqb, get_or}
use Rattle.std.specs.Int.Bits.{bit_or}
use Rattle.laws.specs.Bits.{bit}
use Rattle.weights.specs.declared.Count.{Count}
use Rattle.weights.specs.declared.Count.TheVariants.{Flat, High, Low, Parts}
use Rattle.weights.specs.declared.Weight.{Weight}
use Rattle.worlds.specs.declared.Whole.{Whole}
use Rattle.worlds.specs.Lined.{zero_whole}

-- every type of the mask a is one of b
unfoldable pub in_mask : ℕ → ℕ → Bool
in_mask a b = eqb (bit_or a b) b

-- the first object has a limit of its own
abbrev pub limit_at : Weight → ℕ → ℕ
limit_at w o = cond (eqb o 0) w.first w.limit

-- how many links to parts an object of type t has at least by a line from types to types, where its targets and its lower limit are given
unfoldable pub line_number : ℕ → ℕ → ℕ → ℕ → Bool → ℕ → ℕ → ℕ
line_number from to target low own limit t = cond (bit t from && in_mask target to) (cond own (max low limit) low) 0

module _ (targets lows : List ℕ) (wholes : List Whole) where
  -- the same by line j; in the given slot, at least `limit`
  unfoldable pub whole_row : ℕ → ℕ → ℕ → ℕ → ℕ
  whole_row slot limit t j =
      let w = get_or wholes j zero_whole in let s = w.slot in line_number w.from w.to (get_or targets (t * 32 + s) 0) (get_or lows (t * 32 + s) 0) (eqb slot s) limit t

  -- the largest of these over the first n lines
  unfoldable pub whole_low : ℕ → ℕ → ℕ → ℕ → ℕ
  whole_low slot limit t zero = 0
  whole_low slot limit t (suc n) = max (whole_low slot limit t n) (whole_row slot limit t n)

module _ (targets lows highs : List ℕ) (wholes : List Whole) where
  -- the number of a type t of the mask, by what is counted
  unfoldable pub counted : Count → Weight → ℕ → ℕ → ℕ
  counted (Low to) w limit t = cond (in_mask (get_or targets (t * 32 + w.slot) 0) to) (max (get_or lows (t * 32 + w.slot) 0) limit) 0
  counted High w limit t = min (get_or highs (t * 32 + w.slot) 0) limit
  counted Flat w limit t = limit
  counted Parts w limit t = whole_low targets lows wholes w.slot limit t 16

  -- the number of type t
  unfoldable pub number_by : Weight → ℕ → ℕ → ℕ
  number_by w limit t = cond (bit t w.mask) (counted w.count w limit t) 0

  -- the number of object o, which has type t
  abbrev pub number_at : Weight → ℕ → ℕ → ℕ
  number_at w o t = number_by w (limit_at w o) t
