use mathlib.Core.Path.{ap}
use Rattle.bench.specs.View.{left_by}
use Rattle.bench.proofs.CallLaws.{whole-kept}
use Rattle.bench.proofs.parts.Bench.run_convert.Goals as goal

pub returns : goal.returns
returns c = whole-kept c.args.self.now _ c.converted.result (ap (left_by c.args.self.now) c.told.ensures) c.converted.ensures
