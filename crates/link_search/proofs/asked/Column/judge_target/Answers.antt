-- `judge_target` meets its contract: the column as two masks.
-- Assumes nothing.
use Prim.Native.Nat.{ℕ, ◌≤◌}
use mathlib.Core.Path.{sym, ap, subst, ◌∙◌}
use lib.Dec.{eqb, leb}
use borrow.Author.Tests.{eqb-true, leb-true}
use Rattle.laws.proofs.ConnectiveLaws.{and_left, and_right}
use Rattle.link_search.specs.Answers.{BitsJudged}
use Rattle.link_search.specs.Families.{limits_at}
use Rattle.link_search.proofs.ColumnLaws.{column-said, column-free}
use Rattle.link_search.proofs.asked.Column.judge_target.Goals as goal

pub returns-then-limits : goal.returns-then-limits
returns-then-limits c =
    let a = c.args in
    let l = limits_at a.self.now.limits c.from.result in
    column-free a.self.now a.bounds.now.must a.bounds.now.may a.p
    (ap (λ (q : ℕ). (limits_at a.self.now.limits q).low) (sym c.from.ensures) ∙ eqb-true l.low 0 (and_left (eqb l.low 0) (leb 8 l.high) c.if-limits.true))
    (subst (λ (q : ℕ). 8 ≤ (limits_at a.self.now.limits q).high) c.from.ensures (leb-true 8 l.high (and_right (eqb l.low 0) (leb 8 l.high) c.if-limits.true)))

pub returns : goal.returns
returns c =
    let a = c.args in
    column-said a.self.now a.bounds.now.must a.bounds.now.may a.p c.sources.result c.sources-2.result c.judge.result c.requires
    c.sources.ensures c.sources-2.ensures
    (subst (λ (q : ℕ). BitsJudged c.sources.result c.sources-2.result (limits_at a.self.now.limits q) c.judge.result) c.from.ensures c.judge.ensures)
