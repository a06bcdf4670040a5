-- `ask_own_parts` meets its contract: what the query asks for is what is to be avoided.
-- Assumes nothing.
use Rattle.aims.proofs.ChainLaws.{keeps}
use Rattle.aims.proofs.SkipLaws.{skip-own-parts, skip-own-parts-of}
use Rattle.queries.proofs.FitLaws.{fit-own-part, sane-of}
use Rattle.queries.proofs.PartLaws.{own-part-said}
use Rattle.queries.specs.Forms.{linked}
use Rattle.worlds.specs.declared.Query.{Query}
use borrow.Author.Tests.{not-true}
use mathlib.Core.Bool.{not}
use mathlib.Core.Path.{◌∙◌, ap}
use Rattle.aims.proofs.search.Search.ask_own_parts.Goals as goal

pub returns-then-not-meets : goal.returns-then-not-meets
returns-then-not-meets c = keeps c.args.self.now _ (skip-own-parts _ _ (c.meets.ensures.1 (not-true c.meets.result (ap not c.if-not-meets.true))) _ _ _)

pub returns-then-not-meets-2 : goal.returns-then-not-meets-2
returns-then-not-meets-2 c = keeps c.args.self.now _ (skip-own-parts-of _ _ (c.meets-2.ensures.1 (not-true c.meets-2.result (ap not c.if-not-meets-2.true))) _ _ _)

pub ask-requires : goal.ask-requires
ask-requires c =
    let s = c.args in
    let p = c.requires in sane-of (c.with_link-2.ensures ∙ ap (λ (y : Query). linked y s.u 1 0) c.with_link.ensures ∙ ap (λ (y : Query). linked (linked y s.s 0 0) s.u 1 0) c.with_seeds-q.ensures) (fit-own-part s.s s.u s.a s.b p.0 p.1)

pub returns : goal.returns
returns c =
    let s = c.args in
    let p = c.requires in
    own-part-said _ _ _ _ _ _ _ p.0 p.1 _ _ (c.with_link-2.ensures ∙ ap (λ (y : Query). linked y s.u 1 0) c.with_link.ensures ∙ ap (λ (y : Query). linked (linked y s.s 0 0) s.u 1 0) c.with_seeds-q.ensures) c.ask.ensures
