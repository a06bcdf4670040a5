-- Limits that exclude each other: what is known of the sources of the first object, and which properties no world has together.
-- Assumes nothing.
use Rattle.std.specs.Prelude.{◌<◌, ℕ, true, List, ◌≡◌}
use Rattle.laws.specs.Bits.{bit}
use Rattle.growing.specs.World.{World, source_count, target_count}
use Rattle.link_search.specs.Nets.{InLimits}
use Rattle.worlds.specs.declared.Lines.{Lines}
use Rattle.worlds.specs.Kept.{ColumnsKept, MirrorsKept, RowsKept, WholesKept}
use Rattle.clashes.specs.Sources.{SourcesKept}

-- no world has the property P
pub record Never (P : World → Type 0) : Type 0 where
  pub at : (w : World) → P w → ⊥

-- the first object has the type `first`; its sources in slot s have types of the mask `here`, and the number of those with types of `mask` has limits
pub record FirstSources (first here s mask least most : ℕ) (w : World) : Type 0 where
  pub some : 0 < w.size
  pub kind : w.kind 0 ≡ first
  pub typed : (o : ℕ) → o < w.size → w.link s o 0 ≡ true → bit (w.kind o) here ≡ true
  pub within : InLimits least most (source_count w s mask 0)

-- so has the number of those with types of another mask
abbrev pub OtherSources : ℕ → ℕ → ℕ → ℕ → World → Type 0
OtherSources s mask low high w = InLimits low high (source_count w s mask 0)

-- a link in slot s from an object with a type of the mask `there` to the first object stands exactly when the link back in slot t does
pub record LinkedBack (s there t : ℕ) (w : World) : Type 0 where
  pub at : (o : ℕ) → o < w.size → bit (w.kind o) there ≡ true → w.link s o 0 ≡ w.link t 0 o

-- so it is, the targets of the first object in slot t have types of the mask `row`, and their number has limits
pub record TurnedSources (s there t row low high : ℕ) (w : World) : Type 0 where
  pub same : LinkedBack s there t w
  pub typed : (o : ℕ) → o < w.size → w.link t 0 o ≡ true → bit (w.kind o) row ≡ true
  pub within : InLimits low high (target_count w t 0)

-- what the tables say of the sources of the first object in slot s, and the limits that a query has for the number of those with types of the mask
pub record FirstColumn (targets sources lows highs : List ℕ) (x : Lines) (s mask least most : ℕ) (w : World) : Type 0 where
  pub rows : RowsKept targets lows highs w
  pub back : SourcesKept sources w
  pub columns : ColumnsKept x w
  pub mirrors : MirrorsKept x w
  pub wholes : WholesKept x w
  pub within : InLimits least most (source_count w s mask 0)

-- the first object has the type `first`; its targets in slot s have types of the mask, and their number has limits
pub record FirstTargets (first s mask low high : ℕ) (w : World) : Type 0 where
  pub some : 0 < w.size
  pub kind : w.kind 0 ≡ first
  pub typed : (p : ℕ) → p < w.size → w.link s 0 p ≡ true → bit (w.kind p) mask ≡ true
  pub within : InLimits low high (target_count w s 0)
