use native.Mathlib.Omega.{arith}
use Rattle.bench.proofs.AskLaws.{compile-done, compile-place, number-few}
use Rattle.bench.proofs.parts.Bench.run_compile.Goals as goal

pub overflow_cast-result : goal.overflow_cast-result
overflow_cast-result c = let few = number-few c.in-Ok.d c.compile-c.ensures in record { fits = omega arith }

pub returns-in-Ok : goal.returns-in-Ok
returns-in-Ok c = compile-done c.args.self.now c.args.place c.in-Ok.d c.in-Ok.ensures c.compile-c.ensures

pub returns-in-Err : goal.returns-in-Err
returns-in-Err c = rw (c.number.ensures) (compile-place c.args.self.now c.args.place _ c.in-Err.ensures)
