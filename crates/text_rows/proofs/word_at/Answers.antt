use Rattle.std.proofs.Common.{ℕ, ◌-◌, ◌∙◌, ap, arith, refl, rules, sym, take}
use Rattle.text_rows.specs.RowAt.{row_at}
use Rattle.text_rows.proofs.EndLaws.{behind-after, behind-is, behind-self, behind-start}
use Rattle.text_rows.proofs.NotedLaws.{one-from}
use Rattle.text_rows.proofs.RowLaws.{rest-shorter, word_end, word-here, word_next, word_none}
use Rattle.text_rows.proofs.word_at.Goals as goal

pub loop-token-init : goal.loop-token-init
unfolding row_at
loop-token-init c = (omega arith, (behind-self _, refl))

pub overflow_sub-result : goal.overflow_sub-result
overflow_sub-result c = (behind-is _ _ (behind-start (rw c.in-Some.is at c.next_token.ensures) c.loop-token.invariant.1.0)).0

pub returns-then-wanted-left : goal.returns-then-wanted-left
returns-then-wanted-left c =
    let b = c.args in
    let h = rw c.in-Some.is at c.next_token.ensures in
    let i = c.loop-token.invariant.1 in
    ap (take c.in-Some.token.front.size) (sym (behind-is _ _ (behind-start h i.0)).1)
    ∙ word-here h b.a b.b b.c c.is_wanted-wanted.ensures c.loop-token.left c.if-wanted-left.true ∙ sym i.1

pub returns-then-eq : goal.returns-then-eq
returns-then-eq c =
    let b = c.args in
    let h = rw c.in-Some.is at c.next_token.ensures in
    let left = c.saturating_sub-left.ensures ∙ ap (λ (k : ℕ). c.loop-token.left - k) (c.from.ensures ∙ one-from _) in
    word_none h b.a b.b b.c c.is_wanted-wanted.ensures c.loop-token.left c.if-wanted-left.false left (search rules) ∙ sym c.loop-token.invariant.1.1

pub loop-token-smaller : goal.loop-token-smaller
loop-token-smaller c = rest-shorter (rw c.in-Some.is at c.next_token.ensures)

pub loop-token-preserved : goal.loop-token-preserved
loop-token-preserved c =
    let b = c.args in
    let h = rw c.in-Some.is at c.next_token.ensures in
    let i = c.loop-token.invariant.1 in
    let left = c.saturating_sub-left.ensures ∙ ap (λ (k : ℕ). c.loop-token.left - k) (c.from.ensures ∙ one-from _) in (
      c.in-Some.token.state.in_table,
      (behind-after h i.0, i.1 ∙ word_next h b.a b.b b.c c.is_wanted-wanted.ensures c.loop-token.left c.if-wanted-left.false left (search rules)),
    )

pub returns : goal.returns
returns c =
    let b = c.args in
    word_end _ c.loop-token.state.0 (rw c.in_default.is at c.next_token.ensures) b.a b.b b.c c.loop-token.left ∙ sym c.loop-token.invariant.1.1

pub invariant_of-state : goal.invariant_of-state
invariant_of-state c = record { in_table = c.loop-token.invariant.0 }
