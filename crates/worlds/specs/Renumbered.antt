-- A world in another numbering of its objects, and one in which given objects come first.
-- Assumes nothing.
use Rattle.std.specs.Prelude.{◌<◌, ℕ, Bool, List, ◌≡◌, get_or}
use Rattle.laws.specs.Bounded.{tally}
use Rattle.growing.specs.World.{World}
use Rattle.worlds.specs.Kept.{Allowed, Sheet}

-- object o of v is object `at o` of w, and what is counted of all objects of w is counted of all objects of v
pub record Renumbered (w v : World) (at : ℕ → ℕ) : Type 0 where
  pub size : v.size ≡ w.size
  pub kind : (o : ℕ) → v.kind o ≡ w.kind (at o)
  pub link : (s o p : ℕ) → v.link s o p ≡ w.link s (at o) (at p)
  pub below : (o : ℕ) → o < w.size → at o < w.size
  pub counted : (q : ℕ → Bool) → tally (λ o. q (at o)) w.size ≡ tally q w.size

-- w in a numbering in which the first k of the listed objects come first; the tables allow it
pub record Brought (x : Sheet) (w : World) (objects : List ℕ) (k : ℕ) : Type 0 where
  pub world : World
  pub at : ℕ → ℕ
  pub allowed : Allowed x world
  pub renumbered : Renumbered w world at
  pub first : (i : ℕ) → i < k → at i ≡ get_or objects i 0
