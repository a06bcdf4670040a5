-- `ask_rows` meets its contract: what the query asks for is what is to be avoided.
-- Assumes nothing.
use Rattle.aims.proofs.ChainLaws.{keeps}
use Rattle.aims.proofs.SkipLaws.{skip-rows}
use Rattle.queries.proofs.AskedLaws.{fit-rowed, fit-seeded}
use Rattle.queries.proofs.AvoidedLaws.{row-said}
use Rattle.queries.proofs.FitLaws.{sane-of}
use Rattle.queries.specs.Forms.{rowed, seeded}
use Rattle.worlds.specs.declared.Query.{Query}
use borrow.Author.Tests.{not-true}
use mathlib.Core.Bool.{not}
use mathlib.Core.Path.{◌∙◌, ap}
use native.Mathlib.Omega.{arith}
use Rattle.aims.proofs.search.Search.ask_rows.Goals as goal

pub returns-then-not-meets : goal.returns-then-not-meets
returns-then-not-meets c = keeps c.args.self.now _ (skip-rows _ _ (c.meets.ensures.1 (not-true c.meets.result (ap not c.if-not-meets.true))) _ _ _)

pub ask-requires : goal.ask-requires
ask-requires c =
    let s = c.args in
    let p = c.requires in sane-of (c.with_row.ensures ∙ ap (λ (y : Query). rowed y s.s s.low s.high) c.with_seeds-q.ensures) (fit-rowed 1 (seeded 1 s.a 0 0) s.s (fit-seeded 1 s.a 0 0 (omega arith)) p s.low s.high)

pub returns : goal.returns
returns c =
    let s = c.args in
    let p = c.requires in
    row-said _ _ _ _ _ _ p _ _ _ (c.with_row.ensures ∙ ap (λ (y : Query). rowed y s.s s.low s.high) c.with_seeds-q.ensures) c.ask.ensures
