-- Links of given objects as a net: the bits that must stand, those that may, and the nets between the two.
-- Assumes nothing.
use Rattle.std.specs.Prelude.{ℕ, ◌/◌, ◌%◌, ◌≤◌, ◌<◌, ◌≡◌, Bool, true, false, List, get_or}
use Rattle.laws.specs.Bits.{bit}
use Rattle.laws.specs.Bounded.{tally}

-- row i = o * 32 + s holds the targets of object o by the role in slot s; bit p is the link to object p
abbrev pub Net : Type 0
Net = ℕ → ℕ → Bool

-- the net of an array of masks
abbrev pub net_of : List ℕ → Net
net_of rows i p = bit p (get_or rows i 0)

-- w has each bit of `must`, and besides only bits of `may`
pub record Between (must may : List ℕ) (w : Net) : Type 0 where
  pub least : (i p : ℕ) → i < 256 → p < 8 → net_of must i p ≡ true → w i p ≡ true
  pub most : (i p : ℕ) → i < 256 → p < 8 → w i p ≡ true → net_of must i p ≡ false → net_of may i p ≡ true

-- n lies within limits
pub record InLimits (low high n : ℕ) : Type 0 where
  pub least : low ≤ n
  pub most : n ≤ high

-- how many bits may still be decided
unfoldable pub open_bits : List ℕ → ℕ
open_bits may = tally (λ k. bit (k % 8) (get_or may (k / 8) 0)) 2048
