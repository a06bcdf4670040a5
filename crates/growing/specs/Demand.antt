-- Demand: a lower limit that the first k objects cannot meet among themselves demands extra objects, of certain types.
-- Assumes nothing.
use Rattle.std.specs.Prelude.{ℕ, ◌+◌, ◌-◌, ◌<◌, ◌≤◌, ◌≡◌, Bool, true, false, not, ◌&&◌, List, get_or}
use Rattle.laws.specs.Bits.{bit}
use Rattle.laws.specs.Bounded.{tally}
use Rattle.growing.specs.World.{World, source_count}
use Rattle.growing.specs.Growth.{Extends}

-- at how many places from k on, below n, q holds
abbrev pub from : (ℕ → Bool) → ℕ → ℕ → ℕ
from q k n = tally (λ i. q (k + i)) (n - k)

-- how many extra objects have a type of the mask g
abbrev pub extras : ℕ → ℕ → World → ℕ
extras g k w = from (λ o. bit (w.kind o) g) k w.size

-- each wanted world has at least c extra objects with types of the mask g
abbrev pub Needs : (World → Type 0) → List ℕ → ℕ → ℕ → ℕ → ℕ → ℕ → Type 0
Needs S kinds k forb n g c = (w : World) → Extends kinds k forb n w → S w → c ≤ extras g k w

-- the extra objects of wanted worlds have types of the mask
abbrev pub Available : (World → Type 0) → List ℕ → ℕ → ℕ → ℕ → ℕ → Type 0
Available S kinds k forb n available =
    (w : World) → Extends kinds k forb n w → S w → (o : ℕ) → k ≤ o → o < w.size → bit (w.kind o) available ≡ true

-- q holds at no fewer than low objects of w, only at those of an allowed type, and at none that is closed (known to be left out)
pub record AtLeast (q : ℕ → Bool) (low : ℕ) (allowed closed : ℕ → Bool) (w : World) : Type 0 where
  pub enough : low ≤ tally q w.size
  pub typed : (o : ℕ) → o < w.size → q o ≡ true → allowed (w.kind o) ≡ true
  pub free : (o : ℕ) → o < w.size → q o ≡ true → closed o ≡ false

-- how many of the first k objects have an allowed type and are not closed
abbrev pub candidates : (ℕ → Bool) → (ℕ → Bool) → List ℕ → ℕ → ℕ
candidates allowed closed kinds k = tally (λ o. allowed (get_or kinds o 0) && not (closed o)) k

-- the row of object o in role slot r: no fewer than low targets, with types of the mask `targets`
abbrev pub RowAtLeast : ℕ → ℕ → ℕ → ℕ → (ℕ → Bool) → World → Type 0
RowAtLeast r o low targets closed w = AtLeast (λ p. w.link r o p) low (λ x. bit x targets) closed w

-- the column of object p in role slot r: it is the target of no fewer than low objects with types of the mask `counted`; types of
-- the mask `sources` may have such a link at all
pub record ColumnAtLeast (r p low counted sources : ℕ) (closed : ℕ → Bool) (w : World) : Type 0 where
  pub enough : low ≤ source_count w r counted p
  pub typed : (o : ℕ) → o < w.size → w.link r o p ≡ true → bit (w.kind o) sources ≡ true
  pub free : (o : ℕ) → o < w.size → w.link r o p ≡ true → closed o ≡ false
