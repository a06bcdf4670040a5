-- `ask_links` meets its contract: what the query asks for is what is to be avoided.
-- Assumes nothing.
use Rattle.aims.proofs.ChainLaws.{keeps}
use Rattle.aims.proofs.SkipLaws.{skip-links, skip-links-to}
use Rattle.queries.proofs.AvoidedLaws.{link-said}
use Rattle.queries.proofs.FitLaws.{fit-link, sane-of}
use Rattle.queries.specs.Forms.{linked}
use Rattle.worlds.specs.declared.Query.{Query}
use borrow.Author.Tests.{not-true}
use mathlib.Core.Bool.{not}
use mathlib.Core.Path.{◌∙◌, ap}
use Rattle.aims.proofs.search.Search.ask_links.Goals as goal

pub returns-then-not-meets : goal.returns-then-not-meets
returns-then-not-meets c = keeps c.args.self.now _ (skip-links _ _ (c.meets.ensures.1 (not-true c.meets.result (ap not c.if-not-meets.true))) _ _)

pub returns-then-not-meets-2 : goal.returns-then-not-meets-2
returns-then-not-meets-2 c = keeps c.args.self.now _ (skip-links-to _ _ (c.meets-2.ensures.1 (not-true c.meets-2.result (ap not c.if-not-meets-2.true))) _ _)

pub ask-requires : goal.ask-requires
ask-requires c =
    let s = c.args in
    let p = c.requires in sane-of (c.with_link.ensures ∙ ap (λ (y : Query). linked y s.s 0 1) c.with_seeds-q.ensures) (fit-link s.s s.a s.b p)

pub returns : goal.returns
returns c =
    let s = c.args in
    let p = c.requires in
    link-said _ _ _ _ _ _ p _ _ (c.with_link.ensures ∙ ap (λ (y : Query). linked y s.s 0 1) c.with_seeds-q.ensures) c.ask.ensures
