-- What the looks and the search answer, for any demand C on nets.
-- Assumes nothing.
use Rattle.std.specs.Prelude.{ℕ, ◌+◌, ◌*◌, ◌<◌, ◌≡◌, Bool, true, false, List, Option, None, Some, Result, Ok, Err}
use Rattle.laws.specs.Bits.{bit}
use Rattle.laws.specs.Bounded.{tally}
use Rattle.link_search.specs.Nets.{Net, net_of, Between}
use Rattle.link_search.specs.Families.{ColumnFits, Within, Wholes}
use Rattle.link_search.specs.declared.asked.Column.{Column}
use Rattle.link_search.specs.declared.asked.Limits.{Limits}
use Rattle.link_search.specs.declared.asked.Whole.{Whole}
use Rattle.link_search.specs.declared.Spot.{Spot}
use Rattle.link_search.specs.declared.NoNet.{NoNet}
use Rattle.link_search.specs.declared.mirrors.Side.{Side}
use Rattle.link_search.specs.declared.mirrors.Side.TheVariants.{There, Back}

-- one set of bits with limits: what must stand is within them, or a bit that may stand is wanted, or no set between is within them
abbrev pub BitsJudged : ℕ → ℕ → Limits → Result (Option ℕ) NoNet → Type 0
BitsJudged must may l (Ok None) = Within l (tally (λ k. bit k must) 8)
BitsJudged must may l (Ok (Some k)) = (k < 8) × (bit k may ≡ true)
BitsJudged must may l (Err _) = (w : ℕ → Bool) → ((k : ℕ) → k < 8 → bit k must ≡ true → w k ≡ true)
    → ((k : ℕ) → k < 8 → w k ≡ true → bit k must ≡ false → bit k may ≡ true) → Within l (tally w 8) → ⊥

-- target p of a column: the same, where a bit is a source whose link to p may stand
abbrev pub ColumnSaid : Column → List ℕ → List ℕ → ℕ → Result (Option ℕ) NoNet → Type 0
ColumnSaid c must may p (Ok None) = ColumnFits c (net_of must) p
ColumnSaid c must may p (Ok (Some o)) = (o < 8) × (net_of may (o * 32 + c.slot) p ≡ true)
ColumnSaid c must may p (Err _) = (w : Net) → Between must may w → ColumnFits c w p → ⊥

-- a link and the link back, each by what must stand and what may: they agree, or one is wanted, or they cannot agree
abbrev pub Paired : Bool → Bool → Bool → Bool → Result (Option Side) NoNet → Type 0
Paired first may_first second may_second (Ok None) = first ≡ second
Paired first may_first second may_second (Ok (Some There)) = may_first ≡ true
Paired first may_first second may_second (Ok (Some Back)) = may_second ≡ true
Paired first may_first second may_second (Err _) = (a b : Bool) → (first ≡ true → a ≡ true) → (a ≡ true → first ≡ false → may_first ≡ true)
    → (second ≡ true → b ≡ true) → (b ≡ true → second ≡ false → may_second ≡ true) → a ≡ b → ⊥

-- a bit that may stand
pub record Wanted (may : List ℕ) (s : Spot) : Type 0 where
  pub below : s.row < 256
  pub inside : s.target < 8
  pub spot : net_of may s.row s.target ≡ true

-- a look: the bits that must stand meet the demand, or a bit that may stand is to be decided, or no net between meets it
abbrev pub Looked : (Net → Type 0) → List ℕ → List ℕ → Result (Option Spot) NoNet → Type 0
Looked C must may (Ok None) = C (net_of must)
Looked C must may (Ok (Some s)) = Wanted may s
Looked C must may (Err _) = (w : Net) → Between must may w → C w → ⊥

-- a look at the wholes, where no bit is ever wanted
abbrev pub WholesSaid : List Whole → List ℕ → Result Unit NoNet → Type 0
WholesSaid wholes must (Ok _) = Wholes wholes (net_of must)
WholesSaid wholes must (Err _) = (may : List ℕ) (w : Net) → Between must may w → Wholes wholes w → ⊥

-- the search, from what came to what is left: a net that is found lies between what came and meets the demand; where none is found,
-- both arrays are as they came, and no net between meets it
pub record NetAnswer (C : Net → Type 0) (must may must' may' : List ℕ) (ok : Bool) : Type 0 where
  pub between : ok ≡ true → Between must may (net_of must')
  pub sound : ok ≡ true → C (net_of must')
  pub kept : ok ≡ false → must' ≡ must
  pub kept_may : ok ≡ false → may' ≡ may
  pub complete : ok ≡ false → (w : Net) → Between must may w → C w → ⊥
