-- `ask_absent` meets its contract: what the query asks for is what is to be avoided.
-- Assumes nothing.
use Rattle.queries.proofs.AskedLaws.{fit-avoiding, fit-seeded}
use Rattle.queries.proofs.AvoidedLaws.{absent-said}
use Rattle.queries.proofs.FitLaws.{sane-of}
use Rattle.queries.specs.Forms.{avoiding, seeded}
use Rattle.worlds.specs.declared.Query.{Query}
use mathlib.Core.Path.{◌∙◌, ap}
use native.Mathlib.Omega.{arith}
use Rattle.aims.proofs.search.Search.ask_absent.Goals as goal

pub ask-requires : goal.ask-requires
ask-requires c =
    let s = c.args in
    sane-of (c.with_never.ensures ∙ ap (λ (y : Query). avoiding y s.a) c.with_seeds.ensures) (fit-avoiding 0 (seeded 0 0 0 0) s.a (fit-seeded 0 0 0 0 (omega arith)))

pub returns : goal.returns
returns c =
    let s = c.args in
    absent-said _ _ _ _ _ _ (c.with_never.ensures ∙ ap (λ (y : Query). avoiding y s.a) c.with_seeds.ensures) c.ask.ensures
