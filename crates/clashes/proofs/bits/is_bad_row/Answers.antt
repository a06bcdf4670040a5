use mathlib.Core.Path.{refl}
use borrow.Author.Rules.{rules}
use borrow.Author.Tests.{tests}
use Rattle.laws.proofs.RangeLaws.{any-range}
use Rattle.clashes.specs.Refuted.{bad_bit}
use Rattle.clashes.proofs.bits.is_bad_row.Goals as goal

pub returns : goal.returns
returns c =
    let a = c.args in
    any-range (bad_bit a.must a.shut a.mask a.types.now.at) a.seeds c.any.ensures.ran refl (λ x b q k. search (rules, tests))
