-- What is known of a world that is looked for, and what is demanded of it: one more object with a type of a mask, or that there is no such
-- world.
-- Assumes nothing.
use Rattle.std.specs.Prelude.{◌+◌, ◌<◌, ◌≤◌, ℕ, Bool, ◌&&◌, false, not, true, List, Option, ◌≡◌, eqb, get_or, is_none, unwrap_or}
use Rattle.laws.specs.Bits.{bit}
use Rattle.laws.specs.Bounded.{any, tally}
use Rattle.growing.specs.World.{World}
use Rattle.growing.specs.Growth.{Extra}
use Rattle.link_search.specs.Nets.{InLimits}
use Rattle.demands.specs.declared.Start.{Start}

-- one of the first k objects has type t
abbrev pub present : List ℕ → ℕ → ℕ → Bool
present types k t = any (λ o. eqb t (get_or types o 0)) k

-- an extra object can have type t: a usable type, not forbidden, and no singleton that is among the first k
abbrev pub available : ℕ → ℕ → ℕ → List ℕ → ℕ → ℕ → Bool
available usable singles forb types k t = bit t usable && not (bit t forb) && not (bit t singles && present types k t)

-- w starts with k objects of the given types; it has at most `spare` more, with types of the mask `free`
pub record Started (s : Start) (w : World) : Type 0 where
  pub many : s.k ≤ w.size
  pub few : w.size ≤ s.k + s.spare
  pub eight : w.size ≤ 8
  pub known : (o : ℕ) → o < w.size → w.kind o < 24
  pub kept : (o : ℕ) → o < s.k → w.kind o ≡ get_or s.types.at o 0
  pub extra : (o : ℕ) → s.k ≤ o → o < w.size → bit (w.kind o) s.free ≡ true

-- what is demanded is right about w: there is something, and where w has extra objects, one has a type of the mask
pub record Right (k : ℕ) (r : Option ℕ) (w : World) : Type 0 where
  pub alive : is_none r ≡ false
  pub extra : k < w.size → Extra 24 k (unwrap_or r 0) w

-- of each world with the property P that starts so: where a is right about it, b is
pub record Sharpens (P : World → Type 0) (s : Start) (a b : Option ℕ) : Type 0 where
  pub at : (w : World) → Started s w → P w → Right s.k a w → Right s.k b w

-- p holds at `low` to `high` objects of w; these have types of the mask, and are not among the objects `shut`
pub record Limited (low high mask shut : ℕ) (p : ℕ → Bool) (w : World) : Type 0 where
  pub within : InLimits low high (tally p w.size)
  pub typed : (o : ℕ) → o < w.size → p o ≡ true → bit (w.kind o) mask ≡ true
  pub apart : (o : ℕ) → o < w.size → p o ≡ true → bit o shut ≡ false
