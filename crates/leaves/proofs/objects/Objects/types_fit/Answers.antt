-- `types_fit` meets its contract: in the order of the definition.
-- Assumes nothing.
use Rattle.laws.proofs.SearchLaws.{tests}
use Rattle.leaves.specs.Fitting.{types_fit}
use Rattle.leaves.proofs.objects.Objects.types_fit.Goals as goal

pub returns-then-self : goal.returns-then-self
unfolding types_fit
returns-then-self c = search tests depth 8 fits 20000

pub returns-then-not-each_fits : goal.returns-then-not-each_fits
unfolding types_fit
returns-then-not-each_fits c = search tests depth 8 fits 20000

pub returns : goal.returns
unfolding types_fit
returns c = search tests depth 8 fits 20000
