use mathlib.Core.Path.{refl}
use borrow.Author.Rules.{rules}
use borrow.Author.Tests.{tests}
use Rattle.laws.proofs.RangeLaws.{any-range}
use Rattle.clashes.specs.Refuted.{must_whole_by}
use Rattle.clashes.proofs.wholes.is_whole.Goals as goal

pub returns : goal.returns
returns c =
    let a = c.args in
    any-range (must_whole_by a.tables.now.lines a.must.now a.types.now.at a.p a.o) 16 c.any.ensures.ran refl (λ x b q k. search (rules, tests))
