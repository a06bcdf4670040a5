use borrow.Author.Rules.{rules}
use borrow.Author.Tests.{tests}
use mathlib.Core.Path.{refl}
use Rattle.laws.proofs.RangeLaws.{any-range}
use Rattle.files.specs.Name.{same_name}
use Rattle.fields.specs.Slot.{is_among, slot_name}
use Rattle.fields.proofs.is_among.Goals as goal

pub returns : goal.returns
unfolding is_among
returns c = any-range (λ i. same_name (slot_name c.args.names.now i) c.args.w.now) c.args.n c.any.ensures.ran refl (λ x b q k. search (rules, tests))
