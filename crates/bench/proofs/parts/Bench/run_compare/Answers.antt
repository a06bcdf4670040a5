use Rattle.std.specs.Prelude.{None, Some}
use Rattle.bench.proofs.CompareLaws.{chosen}
use Rattle.bench.proofs.parts.Bench.run_compare.Goals as goal

pub returns-in-Ok-Some : goal.returns-in-Ok-Some
returns-in-Ok-Some c = chosen c.args.self.now c.args.bound (Some c.in-Ok-Some.found) _ c.in-Ok-Some.field-0-is c.in-Ok-Some.ensures

pub returns-in-Ok-None : goal.returns-in-Ok-None
returns-in-Ok-None c = chosen c.args.self.now c.args.bound None _ c.in-Ok-None.field-0-is c.in-Ok-None.ensures
