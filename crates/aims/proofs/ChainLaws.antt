-- Searches one after the other by `find_map` over a range.
-- Assumes nothing.
use Prim.Native.Nat.{◌<◌, ◌≤◌, ℕ}
use mathlib.Core.Path.{refl}
use Rattle.std.specs.Prelude.{None, Option, Some}
use Rattle.growing.specs.World.{World}
use Rattle.worlds.specs.declared.Site.{Site}
use Rattle.worlds.specs.Kept.{Allowed, sheet_of}
use Rattle.queries.proofs.BreakLaws.{Throughout, breaks-hit, breaks-none, breaks-same}
use Rattle.queries.proofs.FoundLaws.{Found}
use Rattle.aims.specs.declared.search.Search.{Search}
use Rattle.aims.specs.Finds.{Finds}

module _ (s : Search) where
  -- nothing is found, and all worlds keep K
  pub keeps : (K : World → Type 0) → Throughout (sheet_of s.tables.now) K s.n → Finds s K None
  keeps K f = breaks-none _ _ _ _ _ refl f

  -- a search for each of some
  pub each_by : (K : ℕ → World → Type 0) (a b : ℕ) (r : Option Site) → Found (λ k y. Finds s (K k) y) a b r → Finds s (λ w. (k : ℕ) → a ≤ k → k < b → K k w) r
  each_by K a b None f = breaks-none _ _ _ _ _ refl (λ w h e k l m. (f k l m).kept refl w h e)
  each_by K a b (Some y) f = breaks-hit _ _ _ _ _ _ refl (λ w k. k f.0 f.1 f.2) f.3

  -- another name for what is looked for, among allowed worlds
  pub as_by : (K L : World → Type 0) (r : Option Site) → ((w : World) → Allowed (sheet_of s.tables.now) w → K w → L w) → ((w : World) → Allowed (sheet_of s.tables.now) w → L w → K w)
      → Finds s L r → Finds s K r
  as_by K L r f g = breaks-same _ _ _ _ K L f g
