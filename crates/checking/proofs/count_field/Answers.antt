use native.Mathlib.Omega.{arith}
use Rattle.checking.proofs.CheckLaws.{count-60, count-61, count-62, count-63, count-other}
use Rattle.checking.proofs.count_field.Goals as goal

pub returns-in-96 : goal.returns-in-96
returns-in-96 c = count-60 c.args.s c.args.tag c.args.c c.in-96.is c.byte.ensures

pub returns-in-97 : goal.returns-in-97
returns-in-97 c = count-61 c.args.s c.args.tag c.args.c c.in-97.is

pub returns-in-98 : goal.returns-in-98
returns-in-98 c = count-62 c.args.s c.args.tag c.args.c c.in-98.is

pub returns-in-99 : goal.returns-in-99
returns-in-99 c = count-63 c.args.s c.args.tag c.args.c c.in-99.is

pub returns-in_default : goal.returns-in_default
returns-in_default c =
    count-other c.args.s c.args.tag c.args.c (λ h. omega arith) (λ h. omega arith) (λ h. omega arith) (λ h. omega arith)
