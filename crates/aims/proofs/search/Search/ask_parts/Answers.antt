-- `ask_parts` meets its contract: what the query asks for is what is to be avoided.
-- Assumes nothing.
use Rattle.aims.proofs.ChainLaws.{keeps}
use Rattle.aims.proofs.SkipLaws.{skip-parts, skip-parts-of, skip-parts-too}
use Rattle.queries.proofs.FitLaws.{fit-part, sane-of}
use Rattle.queries.proofs.PartLaws.{part-said}
use Rattle.queries.specs.Forms.{linked}
use Rattle.worlds.specs.declared.Query.{Query}
use borrow.Author.Tests.{not-true}
use mathlib.Core.Bool.{not}
use mathlib.Core.Path.{◌∙◌, ap}
use Rattle.aims.proofs.search.Search.ask_parts.Goals as goal

pub returns-then-not-meets : goal.returns-then-not-meets
returns-then-not-meets c = keeps c.args.self.now _ (skip-parts _ _ (c.meets.ensures.1 (not-true c.meets.result (ap not c.if-not-meets.true))) _ _ _ _)

pub returns-then-not-meets-2 : goal.returns-then-not-meets-2
returns-then-not-meets-2 c = keeps c.args.self.now _ (skip-parts-of _ _ (c.meets-2.ensures.1 (not-true c.meets-2.result (ap not c.if-not-meets-2.true))) _ _ _ _)

pub returns-then-not-meets-3 : goal.returns-then-not-meets-3
returns-then-not-meets-3 c = keeps c.args.self.now _ (skip-parts-too _ _ (c.meets-3.ensures.1 (not-true c.meets-3.result (ap not c.if-not-meets-3.true))) _ _ _ _)

pub ask-requires : goal.ask-requires
ask-requires c =
    let s = c.args in
    let p = c.requires in sane-of (c.with_link-2.ensures ∙ ap (λ (y : Query). linked y s.u 2 0) c.with_link.ensures ∙ ap (λ (y : Query). linked (linked y s.s 1 0) s.u 2 0) c.with_seeds-q.ensures) (fit-part s.s s.u s.a s.b s.c p.0 p.1)

pub returns : goal.returns
returns c =
    let s = c.args in
    let p = c.requires in
    part-said _ _ _ _ _ _ _ p.0 p.1 _ _ _ (c.with_link-2.ensures ∙ ap (λ (y : Query). linked y s.u 2 0) c.with_link.ensures ∙ ap (λ (y : Query). linked (linked y s.s 1 0) s.u 2 0) c.with_seeds-q.ensures) c.ask.ensures
