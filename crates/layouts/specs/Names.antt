-- A row of names, as the reader of a value type meets it.
-- Assumes nothing.
use Rattle.std.specs.Prelude.{ℕ, Bool, List}
use Rattle.laws.specs.Connective.{both}
use Rattle.laws.specs.Bounded.{all}
use Rattle.files.specs.Content.{starts_name, past_names, at_end}

-- n names stand there, and nothing behind them
unfoldable pub names_laid : List ℕ → ℕ → Bool
names_laid c n = both (all (λ i. starts_name (past_names i c)) n) (at_end (past_names n c))
