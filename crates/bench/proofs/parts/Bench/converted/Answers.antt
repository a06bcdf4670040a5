use Rattle.bench.proofs.ConvertLaws.{convert-done, convert-refused}
use Rattle.bench.proofs.parts.Bench.converted.Goals as goal

pub returns-in_err-n : goal.returns-in_err-n
returns-in_err-n c = convert-refused c.args.self.now c.args.file.now c.args.out.now _ _ c.from_residual.ensures.1 c.in_err-n.ensures

pub returns : goal.returns
returns c = convert-done c.args.self.now c.args.file.now c.args.out.now _ c.in_ok-n.ensures
