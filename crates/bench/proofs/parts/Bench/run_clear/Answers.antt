use mathlib.Core.Path.{refl}
use Rattle.steps.specs.Bench.{Clear}
use Rattle.steps.specs.Effect.{effect}
use Rattle.steps.specs.Step.{clear}
use Rattle.bench.proofs.CallLaws.{whole-stores}
use Rattle.bench.proofs.parts.Bench.run_clear.Goals as goal

pub returns : goal.returns
unfolding effect
returns c = let a = c.args in whole-stores a.self.now (Clear a.place) a.place (clear a.place) _ c.set.ensures c.cleared.ensures refl (λ o e. e)
