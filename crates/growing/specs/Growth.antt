-- Growth: given the types of the first k objects, a search for a world of at most n objects that starts with these. S says which
-- worlds are wanted; nothing here looks into it. A set of types is a mask. The objects from place k on are the extra ones, and
-- n - k is the number of spare places. A forbidden type is one that no extra object may have: the search forbids a type as soon
-- as all worlds with an extra object of this type are covered, so that no choice of types comes up twice.
-- Assumes nothing.
use Rattle.std.specs.Prelude.{ℕ, ◌<◌, ◌≤◌, ◌≡◌, Bool, true, false, List, get_or}
use Rattle.laws.specs.Bits.{bit}
use Rattle.growing.specs.World.{World}

-- w has at most n objects, the given types first, and no extra object of a forbidden type
pub record Extends (kinds : List ℕ) (k forb n : ℕ) (w : World) : Type 0 where
  pub few : w.size ≤ n
  pub many : k ≤ w.size
  pub kept : (o : ℕ) → o < k → w.kind o ≡ get_or kinds o 0
  pub avoids : (o : ℕ) → k ≤ o → o < w.size → bit (w.kind o) forb ≡ false

-- no wanted world starts with the given types
abbrev pub Nowhere : (World → Type 0) → List ℕ → ℕ → ℕ → ℕ → Type 0
Nowhere S kinds k forb n = (w : World) → Extends kinds k forb n w → S w → ⊥

-- an extra object of w with a type of the mask g, of a diagram with so many types
pub record Extra (types k g : ℕ) (w : World) : Type 0 where
  pub at : ℕ
  pub past : k ≤ at
  pub below : at < w.size
  pub small : w.kind at < types
  pub typed : bit (w.kind at) g ≡ true

-- what a demand promises: `dead`, there is no wanted world; `more`, each has an extra object; and where a wanted world has extra
-- objects, one has a type of the mask g
pub record Demanded (S : World → Type 0) (types : ℕ) (kinds : List ℕ) (k forb n : ℕ) (dead more : Bool) (g : ℕ) : Type 0 where
  pub nowhere : dead ≡ true → Nowhere S kinds k forb n
  pub beyond : more ≡ true → (w : World) → Extends kinds k forb n w → S w → k < w.size
  pub extra : (w : World) → Extends kinds k forb n w → S w → k < w.size → Extra types k g w

-- the answer of the search for links among the k objects alone: `skip`, it was not made; `ok`, it found the world m
pub record Ended (S : World → Type 0) (kinds : List ℕ) (k : ℕ) (skip ok : Bool) (m : World) : Type 0 where
  pub size : ok ≡ true → m.size ≡ k
  pub kept : ok ≡ true → (o : ℕ) → o < k → m.kind o ≡ get_or kinds o 0
  pub sound : ok ≡ true → S m
  pub complete : ok ≡ false → skip ≡ false → (w : World) → w.size ≡ k → ((o : ℕ) → o < k → w.kind o ≡ get_or kinds o 0) → S w → ⊥

-- the answer of the growth: `ok`, it found the world m; else there is none
pub record Grown (S : World → Type 0) (kinds : List ℕ) (k forb n : ℕ) (ok : Bool) (m : World) : Type 0 where
  pub fits : ok ≡ true → Extends kinds k forb n m
  pub sound : ok ≡ true → S m
  pub complete : ok ≡ false → Nowhere S kinds k forb n

-- the growth has tried, for one more object, the types of the mask g that are below t: no wanted world has an extra object of
-- such a type, and f holds the forbidden types, those of forb and some of these
pub record Tried (S : World → Type 0) (types : ℕ) (kinds : List ℕ) (k forb n g t f : ℕ) : Type 0 where
  pub within : t ≤ types
  pub kept : (x : ℕ) → bit x forb ≡ true → bit x f ≡ true
  pub added : (x : ℕ) → bit x f ≡ true → bit x forb ≡ false → (x < t) × (bit x g ≡ true)
  pub none : (w : World) → Extends kinds k forb n w → S w → (o : ℕ) → k ≤ o → o < w.size → w.kind o < t → bit (w.kind o) g ≡ true → ⊥
