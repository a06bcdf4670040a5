use native.Mathlib.Omega.{arith}
use mathlib.Core.Path.{◌≡◌}
use Rattle.coding.specs.CallBytes.{call_of}
use Rattle.replay.proofs.CodeLaws.{at_code, nine}
use Rattle.replay.proofs.run_lent.Goals as goal

pub returns-in-7 : goal.returns-in-7
unfolding call_of
returns-in-7 c = at_code _ 7 c.args.code c.in-7.is (λ byte. c.run_hand_out.ensures)

pub returns-in_default : goal.returns-in_default
unfolding call_of
returns-in_default c = at_code _ 9 c.args.code (nine (λ e. let h : c.args.code ≡ 7 = e in omega arith) c.requires) (λ byte. c.run_convert.ensures)
