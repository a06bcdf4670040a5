use Rattle.bench.proofs.CallLaws.{whole-stores}
use mathlib.Core.Path.{refl}
use Rattle.steps.specs.Bench.{Load}
use Rattle.steps.specs.Effect.{effect}
use Rattle.steps.specs.Step.{load}
use Rattle.bench.proofs.parts.Bench.run_load.Goals as goal

pub returns : goal.returns
unfolding effect
returns c = let a = c.args in whole-stores a.self.now (Load a.place a.file.now) a.place (load a.place a.file.now) _ c.set.ensures c.loaded.ensures refl (λ o e. e)
