-- 01 "The bench": rows of calls, "refused ones included".
-- Assumes nothing.
use Rattle.std.specs.Prelude.{false, List, [], ◌∷◌, ◌≡◌}
use Rattle.steps.specs.Bench.{Bench, Call, Outcome, fresh}
use Rattle.steps.specs.Effect.{changes, witness}
use Rattle.steps.specs.Step.{Step}

pub record Event : Type 0 where
  pub call : Call
  pub outcome : Outcome

-- each call gets the bench that the one before returned, "refused ones included"
abbrev pub Row : Bench → List Event → Bench → Type 0
Row b [] last = b ≡ last
Row b (e ∷ es) last = Step b e.call e.outcome × Row e.outcome.bench es last

-- a row taken apart at one of its calls: the bench that the call got, and the rows before and behind it
pub record RowAt (b : Bench) (before : List Event) (e : Event) (behind : List Event) (last : Bench) : Type 0 where
  pub bench : Bench
  pub row_before : Row b before bench
  pub step : Step bench e.call e.outcome
  pub row-behind : Row e.outcome.bench behind last

-- "A bench is the fresh one or one that a call returned."
abbrev pub Reached : Bench → Type 0
Reached b = (es : List Event) × Row fresh es b

-- "none of which drops or stores a witness"
abbrev pub KeepsWitness : List Event → Type 0
KeepsWitness [] = Unit {0}
KeepsWitness (e ∷ es) = (changes e.call e.outcome.reply witness ≡ false) × KeepsWitness es
