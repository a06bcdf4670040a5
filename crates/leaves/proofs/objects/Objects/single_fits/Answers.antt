-- `single_fits` meets its contract: in the order of the definition.
-- Assumes nothing.
use Prim.Native.Nat.{ℕ}
use mathlib.Core.Path.{ap}
use lib.Dec.{eqb}
use Rattle.laws.proofs.SearchLaws.{imp-yes, tests}
use Rattle.leaves.specs.Fitting.{single_fits}
use Rattle.leaves.proofs.objects.Objects.single_fits.Goals as goal

pub returns-then-not-is_in : goal.returns-then-not-is_in
unfolding single_fits
returns-then-not-is_in c = search tests depth 8 fits 20000

pub returns : goal.returns
unfolding single_fits
returns c = imp-yes (search tests) (ap (λ (x : ℕ). eqb x 1) c.count_of.ensures)
