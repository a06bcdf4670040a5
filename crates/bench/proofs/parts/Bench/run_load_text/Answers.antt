use mathlib.Core.Path.{refl}
use Rattle.steps.specs.Bench.{LoadText}
use Rattle.steps.specs.Effect.{effect}
use Rattle.steps.specs.Step.{load_text}
use Rattle.bench.proofs.CallLaws.{whole-stores}
use Rattle.bench.proofs.parts.Bench.run_load_text.Goals as goal

pub returns : goal.returns
unfolding effect
returns c = let a = c.args in whole-stores a.self.now (LoadText a.place a.text.now) a.place (load_text a.place a.text.now) _ c.set.ensures c.loaded_text.ensures refl (λ o e. e)
