-- `ask_pairs` meets its contract: what the query asks for is what is to be avoided.
-- Assumes nothing.
use Rattle.aims.proofs.ChainLaws.{keeps}
use Rattle.aims.proofs.SkipLaws.{skip-pairs}
use Rattle.queries.proofs.AskedLaws.{fit-seeded}
use Rattle.queries.proofs.AvoidedLaws.{pair-said}
use Rattle.queries.proofs.FitLaws.{sane-of}
use borrow.Author.Tests.{not-true}
use mathlib.Core.Bool.{not}
use mathlib.Core.Path.{ap}
use native.Mathlib.Omega.{arith}
use Rattle.aims.proofs.search.Search.ask_pairs.Goals as goal

pub returns-then-not-meets : goal.returns-then-not-meets
returns-then-not-meets c = keeps c.args.self.now _ (skip-pairs _ _ (c.meets.ensures.1 (not-true c.meets.result (ap not c.if-not-meets.true))))

pub ask-requires : goal.ask-requires
ask-requires c =
    let s = c.args in
    sane-of c.with_seeds.ensures (fit-seeded 2 s.a s.a 0 (omega arith))

pub returns : goal.returns
returns c = pair-said _ _ _ _ _ _ c.with_seeds.ensures c.ask.ensures
