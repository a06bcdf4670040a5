-- `ask_half_loops` meets its contract: what the query asks for is what is to be avoided.
-- Assumes nothing.
use Rattle.aims.proofs.ChainLaws.{keeps}
use Rattle.aims.proofs.SkipLaws.{skip-half-loops}
use Rattle.queries.proofs.FitLaws.{fit-half-loop, sane-of}
use Rattle.queries.proofs.PartLaws.{half-loop-said}
use Rattle.queries.specs.Forms.{barred, linked}
use Rattle.worlds.specs.declared.Query.{Query}
use borrow.Author.Tests.{not-true}
use mathlib.Core.Bool.{not}
use mathlib.Core.Path.{◌∙◌, ap}
use Rattle.aims.proofs.search.Search.ask_half_loops.Goals as goal

pub returns-then-not-meets : goal.returns-then-not-meets
returns-then-not-meets c = keeps c.args.self.now _ (skip-half-loops _ _ (c.meets.ensures.1 (not-true c.meets.result (ap not c.if-not-meets.true))) _ _)

pub ask-requires : goal.ask-requires
ask-requires c =
    let s = c.args in
    let p = c.requires in sane-of (c.with_bar.ensures ∙ ap (λ (y : Query). barred y s.u 0 0) c.with_link.ensures ∙ ap (λ (y : Query). barred (linked y s.s 0 0) s.u 0 0) c.with_seeds-q.ensures) (fit-half-loop s.s s.u s.a p.0 p.1)

pub returns : goal.returns
returns c =
    let s = c.args in
    let p = c.requires in
    half-loop-said _ _ _ _ _ _ _ p.0 p.1 _ (c.with_bar.ensures ∙ ap (λ (y : Query). barred y s.u 0 0) c.with_link.ensures ∙ ap (λ (y : Query). barred (linked y s.s 0 0) s.u 0 0) c.with_seeds-q.ensures) c.ask.ensures
