use mathlib.Core.Path.{◌≡◌, refl}
use borrow.Author.Rules.{rules}
use borrow.Author.Tests.{tests}
use Rattle.laws.proofs.RangeLaws.{fold-range}
use Rattle.weights.specs.Numbers.{whole_low}
use Rattle.weights.proofs.NumberLaws.{whole-begin, whole-next}
use Rattle.weights.proofs.whole_low.Goals as goal

pub returns : goal.returns
returns c =
    let a = c.args in
    let t = a.tables.now in
    fold-range (λ i r. r ≡ whole_low t.targets t.lows t.lines.wholes a.slot a.limit a.t i) 16 (λ i n r q l p k. search (rules, tests, whole-next)) c.fold.ensures.ran refl (whole-begin t.targets t.lows t.lines.wholes a.slot a.limit a.t)
