-- What refutes a query: no world that begins with objects of the given types has a property that each solution has.
-- Assumes nothing.
use Rattle.std.specs.Prelude.{◌*◌, ◌+◌, ◌<◌, ◌≤◌, ℕ, Bool, ◌&&◌, ◌||◌, false, not, true, List, ◌≡◌, get_or}
use Rattle.laws.specs.Bits.{bit}
use Rattle.laws.specs.Bounded.{any}
use Rattle.growing.specs.World.{World}
use Rattle.link_search.specs.Nets.{net_of}
use Rattle.worlds.specs.declared.Lines.{Lines}
use Rattle.worlds.specs.Lined.{whole_at}

-- w begins with objects of the given types
pub record Begun (types : List ℕ) (seeds : ℕ) (w : World) : Type 0 where
  pub many : seeds ≤ w.size
  pub eight : w.size ≤ 8
  pub known : (o : ℕ) → o < w.size → w.kind o < 24
  pub kept : (o : ℕ) → o < seeds → w.kind o ≡ get_or types o 0

-- no world that begins so has the property P
pub record Refuted (P : World → Type 0) (types : List ℕ) (seeds : ℕ) : Type 0 where
  pub at : (w : World) → Begun types seeds w → P w → ⊥

-- the links that must stand do, and those that must not do not
pub record BitsKept (must shut : List ℕ) (w : World) : Type 0 where
  pub must-stand : (o s p : ℕ) → o < 8 → s < 32 → p < 8 → net_of must (o * 32 + s) p ≡ true → w.link s o p ≡ true
  pub must-not : (o s p : ℕ) → o < 8 → s < 32 → p < 8 → net_of shut (o * 32 + s) p ≡ true → w.link s o p ≡ false

-- a target has a type that the table of targets has
pub record TargetsKept (targets : List ℕ) (w : World) : Type 0 where
  pub at : (s o p : ℕ) → s < 32 → o < w.size → p < w.size → w.link s o p ≡ true → bit (w.kind p) (get_or targets (w.kind o * 32 + s) 0) ≡ true

-- a link to object p that must stand, and must not, or p has no type of the mask
abbrev pub bad_bit : ℕ → ℕ → ℕ → List ℕ → ℕ → Bool
bad_bit must shut mask types p = bit p must && (bit p shut || not (bit (get_or types p 0) mask))

-- a link stands exactly when the link back does, between types of two masks
pub record MirroredBetween (from to right left : ℕ) (w : World) : Type 0 where
  pub at : (o p : ℕ) → o < w.size → p < w.size → bit (w.kind o) from ≡ true → bit (w.kind p) to ≡ true → w.link right o p ≡ w.link left p o

-- a link from o to p that must stand makes o a whole of p by association j, by some association
abbrev pub must_whole_by : Lines → List ℕ → List ℕ → ℕ → ℕ → ℕ → Bool
must_whole_by x must types p o j =
    bit (get_or types o 0) (whole_at x j).from && bit (get_or types p 0) (whole_at x j).to && net_of must (o * 32 + (whole_at x j).slot) p

abbrev pub must_whole : Lines → List ℕ → List ℕ → ℕ → ℕ → Bool
must_whole x must types p o = any (must_whole_by x must types p o) 16
