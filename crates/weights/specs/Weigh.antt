-- What is lacking among the first objects of a world.
-- Assumes nothing.
use Rattle.std.specs.Prelude.{◌*◌, ◌+◌, ◌<◌, ◌≤◌, ℕ, true, IfSome, List, Option, ◌≡◌, get_or}
use Rattle.laws.specs.Bits.{bit}
use Rattle.laws.specs.Bounded.{one}
use Rattle.growing.specs.World.{World}
use Rattle.growing.specs.Demand.{extras}
use Rattle.worlds.specs.declared.Lines.{Lines}
use Rattle.worlds.specs.declared.Query.{Query}
use Rattle.worlds.specs.Asked.{Satisfies}
use Rattle.worlds.specs.Kept.{Allowed, sheet}
use Rattle.weights.specs.declared.Gain.{Gain}
use Rattle.weights.specs.declared.Shortage.{Shortage}
use Rattle.weights.specs.Sums.{sum}

-- w starts with k objects of the given types, and further objects have types of the mask `free`
pub record Begins (types : List ℕ) (k free : ℕ) (w : World) : Type 0 where
  pub many : k ≤ w.size
  pub known : (o : ℕ) → o < w.size → w.kind o < 24
  pub kept : (o : ℕ) → o < k → w.kind o ≡ get_or types o 0
  pub extra : (o : ℕ) → k ≤ o → o < w.size → bit (w.kind o) free ≡ true

-- for the types below n of the mask `free`, b is above a by at most `most`, and only for types of the mask g
pub record Gains (a b : ℕ → ℕ) (free n : ℕ) (r : Gain) : Type 0 where
  pub at : (t : ℕ) → t < n → bit t free ≡ true → b t ≤ a t + r.most * one (bit t r.g)

-- q gains all that p does, and of type t enough for y against x
pub record Gained (p q : Gain) (t x y : ℕ) : Type 0 where
  pub most : p.most ≤ q.most
  pub kept : (u : ℕ) → bit u p.g ≡ true → bit u q.g ≡ true
  pub new : y ≤ x + q.most * one (bit t q.g)

-- a number and b number of object o of type t: of each world that begins so and whose numbers a are together not above its numbers b,
-- at least so many further objects, and not none, have types of the mask
pub record Lacks (a b : ℕ → ℕ → ℕ) (types : List ℕ) (k free : ℕ) (r : Option Shortage) : Type 0 where
  pub some : IfSome r (λ s. 0 < s.c)
  pub at : (w : World) → Begins types k free w → sum (λ o. a o (w.kind o)) w.size ≤ sum (λ o. b o (w.kind o)) w.size
      → IfSome r (λ s. s.c ≤ extras s.g k w)

-- what is lacking in each world that begins so, that the tables allow and the query asks for: at least so many further objects, and not
-- none, have types of the mask
pub record Short (targets lows highs : List ℕ) (lines : Lines) (q : Query) (types : List ℕ) (k free : ℕ) (r : Option Shortage) : Type 0 where
  pub some : IfSome r (λ s. 0 < s.c)
  pub at : (usable singles : ℕ) (w : World) → Begins types k free w → Allowed (sheet usable singles targets lows highs lines) w → Satisfies q w
      → IfSome r (λ s. s.c ≤ extras s.g k w)
