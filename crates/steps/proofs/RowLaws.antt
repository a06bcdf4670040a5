-- A row of calls can be taken apart at any of them.
-- Assumes nothing.
use mathlib.Core.List.{List, [], ◌++◌, ◌∷◌}
use mathlib.Core.Path.{refl}
use Rattle.steps.specs.Bench.{Bench}
use Rattle.steps.specs.Row.{Event, Row, RowAt}

pub row_at : (b : Bench) (before : List Event) (e : Event) (behind : List Event) (last : Bench) → Row b (before ++ e ∷ behind) last → RowAt b before e behind last
row_at b [] e behind last r = record { bench = b; row_before = refl; step = r.0; row-behind = r.1 }
row_at b (x ∷ before) e behind last r =
    let k = row_at x.outcome.bench before e behind last r.1 in
    record { bench = k.bench; row_before = (r.0, k.row_before); step = k.step; row-behind = k.row-behind }
