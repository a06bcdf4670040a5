use borrow.Author.Rules.{rules}
use borrow.Author.Tests.{tests}
use mathlib.Core.Path.{refl}
use Rattle.laws.proofs.RangeLaws.{all-range}
use Rattle.type_values.specs.Numbers.{slot_kept_in}
use Rattle.type_values.proofs.Translation.keeps_slots.Goals as goal

pub returns : goal.returns
returns c =
    let y = c.args.self.now in
    all-range (slot_kept_in y.old_dues.now y.new_dues.now y.slots y.types y.firsts c.args.t c.args.u y.n) _ c.all.ensures.ran refl (λ x b q k. search (rules, tests))
