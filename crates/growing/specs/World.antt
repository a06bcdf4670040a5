-- What a search by types sees of a record: how many objects there are, their types, and their links. Values stay out: what they
-- may be is a matter of the type alone. Types, role slots and objects are numbers.
-- Assumes nothing.
use Rattle.std.specs.Prelude.{ℕ, ◌<◌, ◌≤◌, Bool, ◌&&◌}
use Rattle.laws.specs.Bits.{bit}
use Rattle.laws.specs.Bounded.{tally}
use Rattle.laws.specs.Swap.{swap}

-- `link r o p`: object o has a link in role slot r to the target p. Only what stands below `size` counts.
pub record World : Type 0 where
  pub size : ℕ
  pub kind : ℕ → ℕ
  pub link : ℕ → ℕ → ℕ → Bool

-- the number of targets of object o in slot s
abbrev pub target_count : World → ℕ → ℕ → ℕ
target_count w s o = tally (λ p. w.link s o p) w.size

-- the number of sources of object p in slot s, among objects with types of the mask
abbrev pub source_count : World → ℕ → ℕ → ℕ → ℕ
source_count w s mask p = tally (λ o. bit (w.kind o) mask && w.link s o p) w.size

-- the world in which the objects i and j have changed places
abbrev pub exchanged : ℕ → ℕ → World → World
exchanged i j w = record { size = w.size; kind = λ o. w.kind (swap i j o); link = λ r o p. w.link r (swap i j o) (swap i j p) }

-- a property of worlds that does not see two objects from place k on change places
abbrev pub Blind : ℕ → (World → Type 0) → Type 0
Blind k S = (w : World) (i j : ℕ) → k ≤ i → k ≤ j → i < w.size → j < w.size → S w → S (exchanged i j w)
