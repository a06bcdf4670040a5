-- What a query asks of a world, and the worlds that a search for it wants.
-- Assumes nothing.
use Rattle.std.specs.Prelude.{◌*◌, ◌+◌, ◌<◌, ◌≤◌, ℕ, Bool, ◌&&◌, false, true, [], Option, None, Some, ◌≡◌, get_or}
use Rattle.laws.specs.Bits.{bit}
use Rattle.laws.specs.Bounded.{tally}
use Rattle.growing.specs.World.{World, target_count}
use Rattle.link_search.specs.Nets.{InLimits, net_of}
use Rattle.worlds.specs.declared.Query.{Query}
use Rattle.worlds.specs.declared.Site.{Site}
use Rattle.worlds.specs.Kept.{Allowed, Sheet, world_in}

-- o counts as a source of the first seed
abbrev pub source_asked : Query → World → ℕ → Bool
source_asked q w o = bit (w.kind o) q.column.from && w.link q.column.slot o 0

pub record Satisfies (q : Query) (w : World) : Type 0 where
  -- the seeds and their types, and the types that no other object has
  pub many : q.seeds ≤ w.size
  pub typed : (o : ℕ) → o < q.seeds → bit (w.kind o) (get_or q.types o 0) ≡ true
  pub avoids : (o : ℕ) → q.seeds ≤ o → o < w.size → bit (w.kind o) q.never ≡ false
  -- links that must stand, and links that must not
  pub must : (o s p : ℕ) → o < 8 → s < 32 → p < 8 → net_of q.must (o * 32 + s) p ≡ true → w.link s o p ≡ true
  pub shut : (o s p : ℕ) → o < 8 → s < 32 → p < 8 → net_of q.shut (o * 32 + s) p ≡ true → w.link s o p ≡ false
  -- how many targets and how many sources the first seed has
  pub row : 0 < q.seeds → InLimits q.row.low q.row.high (target_count w q.row.slot 0)
  pub column : 0 < q.seeds → InLimits q.column.least q.column.most (tally (source_asked q w) w.size)

-- a query speaks of links between seeds only, and of role slots
pub record Sane (q : Query) : Type 0 where
  pub few : q.seeds ≤ 8
  pub row : q.row.slot < 32
  pub column : q.column.slot < 32
  pub must : (o s p : ℕ) → o < 8 → s < 32 → p < 8 → net_of q.must (o * 32 + s) p ≡ true → (o < q.seeds) × (p < q.seeds)
  pub shut : (o s p : ℕ) → o < 8 → s < 32 → p < 8 → net_of q.shut (o * 32 + s) p ≡ true → (o < q.seeds) × (p < q.seeds)

-- a world of n objects that the tables allow and the query asks for
pub record Solution (x : Sheet) (q : Query) (n : ℕ) (w : World) : Type 0 where
  pub allowed : Allowed x w
  pub asked : Satisfies q w
  pub size : w.size ≡ n

-- the world of n objects that was built; where none was, any
abbrev pub world_built : ℕ → Option Site → World
world_built n None = world_in n [] []
world_built n (Some s) = world_in n s.types s.links

-- a world with the property: where `ok`, m is one; else there is none
pub record Answers (S : World → Type 0) (ok : Bool) (m : World) : Type 0 where
  pub sound : ok ≡ true → S m
  pub complete : ok ≡ false → (w : World) → S w → ⊥

-- an allowed world of n objects that does not keep K: where `ok`, m is one; else all keep it
pub record Breaks (x : Sheet) (K : World → Type 0) (n : ℕ) (ok : Bool) (m : World) : Type 0 where
  pub allowed : ok ≡ true → Allowed x m
  pub size : ok ≡ true → m.size ≡ n
  pub broken : ok ≡ true → K m → ⊥
  pub kept : ok ≡ false → (w : World) → Allowed x w → w.size ≡ n → K w
