use Rattle.std.proofs.Common.{◌∙◌, sym}
use Rattle.text_rows.proofs.RowLaws.{accepted-end, accepted-long, accepted-next, rest-shorter}
use Rattle.text_rows.proofs.is_accepted.Goals as goal

pub returns-then-is_name_state-token : goal.returns-then-is_name_state-token
returns-then-is_name_state-token c =
    accepted-long (rw c.in-Some.is at c.next_token.ensures) c.is_name_state.ensures c.if-is_name_state-token.true ∙ sym c.loop-token.invariant.1

pub loop-token-smaller : goal.loop-token-smaller
loop-token-smaller c = rest-shorter (rw c.in-Some.is at c.next_token.ensures)

pub loop-token-preserved : goal.loop-token-preserved
loop-token-preserved c =
    let h = rw c.in-Some.is at c.next_token.ensures in
    (c.in-Some.token.state.in_table, c.loop-token.invariant.1 ∙ accepted-next h c.is_name_state.ensures c.if-is_name_state-token.false)

pub returns : goal.returns
returns c = c.eq.ensures ∙ accepted-end _ c.loop-token.q.0 (rw c.in_default.is at c.next_token.ensures) ∙ sym c.loop-token.invariant.1

pub invariant_of-q : goal.invariant_of-q
invariant_of-q c = record { in_table = c.loop-token.invariant.0 }
