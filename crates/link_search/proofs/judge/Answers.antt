-- `judge` meets its contract: a law for each way out.
-- Assumes nothing.
use native.Mathlib.Omega.{arith}
use Rattle.link_search.proofs.JudgeLaws.{judged-many, judged-short}
use Rattle.link_search.proofs.judge.Goals as goal

pub returns-then-from-y : goal.returns-then-from-y
returns-then-from-y c = let a = c.args in judged-many a.must a.may a.limits _ (omega arith)

pub returns-then-y-a : goal.returns-then-y-a
returns-then-y-a c = let a = c.args in judged-short a.must a.may a.limits _ (omega arith)
