use Prim.Native.Nat.{◌*◌, ◌+◌}
use borrow.Author.Rules.{rules}
use borrow.Author.Tests.{tests}
use mathlib.Core.Path.{refl}
use Rattle.files.specs.Name.{same_name}
use Rattle.fields.specs.Slot.{slot_name}
use Rattle.laws.proofs.RangeLaws.{any-range}
use Rattle.type_values.specs.Numbers.{constant_in}
use Rattle.type_values.proofs.has_constant.Goals as goal

pub returns : goal.returns
unfolding constant_in
returns c =
    let a = c.args in
    any-range (λ i. same_name (slot_name a.constants.now (a.v * 8 + i)) a.w.now) _ c.any.ensures.ran refl (λ x b q k. search (rules, tests))
