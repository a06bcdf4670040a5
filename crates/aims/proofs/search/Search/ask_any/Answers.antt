-- `ask_any` meets its contract: what the query asks for is what is to be avoided.
-- Assumes nothing.
use Rattle.queries.proofs.AskedLaws.{fit-seeded}
use Rattle.queries.proofs.AvoidedLaws.{any-said}
use Rattle.queries.proofs.FitLaws.{sane-of}
use native.Mathlib.Omega.{arith}
use Rattle.aims.proofs.search.Search.ask_any.Goals as goal

pub ask-requires : goal.ask-requires
ask-requires c =
    let s = c.args in
    sane-of c.with_seeds.ensures (fit-seeded 0 0 0 0 (omega arith))

pub returns : goal.returns
returns c = any-said _ _ _ _ _ c.with_seeds.ensures c.ask.ensures
