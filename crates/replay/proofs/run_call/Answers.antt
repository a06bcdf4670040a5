use native.Mathlib.Omega.{arith}
use Rattle.coding.specs.CallBytes.{call_of}
use Rattle.replay.proofs.CodeLaws.{at_code}
use Rattle.replay.proofs.run_call.Goals as goal

pub returns-in-1 : goal.returns-in-1
unfolding call_of
returns-in-1 c = at_code _ 1 c.args.code c.in-1.is (λ buffer. c.run_load.ensures)

pub returns-in-2 : goal.returns-in-2
unfolding call_of
returns-in-2 c = at_code _ 2 c.args.code c.in-2.is (λ buffer. c.run_clear.ensures)

pub returns-in-3 : goal.returns-in-3
unfolding call_of
returns-in-3 c = at_code _ 3 c.args.code c.in-3.is (λ buffer. c.run_judge.ensures)

pub returns-in-5 : goal.returns-in-5
unfolding call_of
returns-in-5 c = at_code _ 5 c.args.code c.in-5.is (λ buffer. c.run_evaluate.ensures)

pub returns-in-6 : goal.returns-in-6
unfolding call_of
returns-in-6 c = at_code _ 6 c.args.code c.in-6.is (λ buffer. c.run_compare.ensures)

pub returns-in_default : goal.returns-in_default
unfolding call_of
returns-in_default c = at_code _ 8 c.args.code (omega arith) (λ buffer. c.run_load_text.ensures)
