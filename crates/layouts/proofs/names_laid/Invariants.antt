use mathlib.Core.Bool.{true}
use mathlib.Core.Path.{◌≡◌}
use Rattle.laws.specs.Bounded.{all}
use Rattle.files.specs.Content.{past_names}
use Rattle.layouts.proofs.NamesLaws.{starts}
use Rattle.layouts.proofs.names_laid.Given as goal

abbrev pub invariant-loop : goal.invariant-loop
invariant-loop l = (l.rest ≡ past_names l.counter l.c) × (all (starts l.c) l.counter ≡ true)
