use mathlib.Core.Path.{◌∙◌, refl}
use borrow.Author.Rules.{rules}
use borrow.Author.Tests.{tests}
use Rattle.laws.proofs.RangeLaws.{all-range}
use Rattle.converting.proofs.HeldLaws.{narrow-diagram, narrow_at}
use Rattle.converting.proofs.is_narrow.Goals as goal

pub returns : goal.returns
returns c =
    all-range (narrow_at c.args.d.now.stored.associations) _ c.all.ensures.ran refl (λ x b q k. search (rules, tests)) ∙ narrow-diagram c.args.d.now.stored
