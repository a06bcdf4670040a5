use borrow.Author.Rules.{rules}
use borrow.Author.Tests.{tests}
use mathlib.Core.Path.{refl}
use Rattle.laws.proofs.RangeLaws.{all-range}
use Rattle.object_rules.specs.TypesIn.{concrete_at}
use Rattle.object_rules.proofs.types.Objects.are_concrete.Goals as goal

pub returns : goal.returns
returns c =
    let v = c.args.self.now in
    all-range (concrete_at v.types.now.kinds v.types.now.count v.memory.now.types) _ c.all.ensures.ran refl (λ x b q k. search (rules, tests))
