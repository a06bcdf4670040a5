use Rattle.std.proofs.Common.{arith, refl, rules}
use Rattle.text_rows.proofs.FrontLaws.{front-mark, front-stray, front-word}
use Rattle.text_rows.proofs.tokens.token_at.Goals as goal

pub returns-then-n-gt0 : goal.returns-then-n-gt0
returns-then-n-gt0 c = search (rules, front-word)

pub returns-in-Some : goal.returns-in-Some
returns-in-Some c =
    front-mark _ _ c.run_size-n.ensures c.requires (omega arith) c.in-Some.m c.mark_size.result c.in-Some.ensures.0 (c.in-Some.ensures.1 _ refl) c.mark_size.ensures

pub returns-in-None : goal.returns-in-None
returns-in-None c = front-stray _ _ c.run_size-n.ensures c.requires (omega arith) c.in-None.ensures.0
