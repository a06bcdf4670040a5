use Rattle.std.proofs.Common.{refl, rules}
use Rattle.text_rows.proofs.EndLaws.{behind-after, behind-self, continues-next, continues-self, ends-none, ends-some}
use Rattle.text_rows.proofs.RowLaws.{rest-shorter}
use Rattle.text_rows.proofs.row_end.Goals as goal

pub loop-token-init : goal.loop-token-init
loop-token-init c = (behind-self _, continues-self _ _)

pub returns-then-eq : goal.returns-then-eq
returns-then-eq c =
    let i = c.loop-token.invariant in
    ends-some (rw c.in-Some.is at c.next_token.ensures) i.1 (search rules) i.0 _ refl

pub loop-token-smaller : goal.loop-token-smaller
loop-token-smaller c = rest-shorter (rw c.in-Some.is at c.next_token.ensures)

pub loop-token-preserved : goal.loop-token-preserved
loop-token-preserved c =
    let h = rw c.in-Some.is at c.next_token.ensures in
    let i = c.loop-token.invariant in
    (behind-after h i.0, continues-next h i.1 (search rules))

pub returns : goal.returns
returns c = ends-none _ _ _ _ c.loop-token.invariant.1 (rw c.in_default.is at c.next_token.ensures)
