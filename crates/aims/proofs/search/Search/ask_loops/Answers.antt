-- `ask_loops` meets its contract: what the query asks for is what is to be avoided.
-- Assumes nothing.
use Rattle.aims.proofs.ChainLaws.{keeps}
use Rattle.aims.proofs.SkipLaws.{skip-loops}
use Rattle.queries.proofs.AvoidedLaws.{loop-said}
use Rattle.queries.proofs.FitLaws.{fit-loop, sane-of}
use Rattle.queries.specs.Forms.{linked}
use Rattle.worlds.specs.declared.Query.{Query}
use borrow.Author.Tests.{not-true}
use mathlib.Core.Bool.{not}
use mathlib.Core.Path.{◌∙◌, ap}
use Rattle.aims.proofs.search.Search.ask_loops.Goals as goal

pub returns-then-not-meets : goal.returns-then-not-meets
returns-then-not-meets c = keeps c.args.self.now _ (skip-loops _ _ (c.meets.ensures.1 (not-true c.meets.result (ap not c.if-not-meets.true))) _)

pub ask-requires : goal.ask-requires
ask-requires c =
    let s = c.args in
    let p = c.requires in sane-of (c.with_link.ensures ∙ ap (λ (y : Query). linked y s.s 0 0) c.with_seeds-q.ensures) (fit-loop s.s s.a p)

pub returns : goal.returns
returns c =
    let s = c.args in
    let p = c.requires in
    loop-said _ _ _ _ _ _ p _ (c.with_link.ensures ∙ ap (λ (y : Query). linked y s.s 0 0) c.with_seeds-q.ensures) c.ask.ensures
