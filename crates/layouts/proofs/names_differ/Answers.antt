use borrow.Author.Rules.{rules}
use borrow.Author.Tests.{tests}
use mathlib.Core.Bool.{not}
use mathlib.Core.Path.{refl, sym, ◌∙◌}
use Rattle.laws.proofs.RangeLaws.{all-range}
use Rattle.layouts.proofs.NamesLaws.{again, differ-names}
use Rattle.layouts.proofs.names_differ.Goals as goal

pub returns : goal.returns
returns c =
    all-range (λ i. not (again c.args.c.now i)) c.args.n c.all.ensures.ran refl (λ x b q k. search (rules, tests)) ∙ sym (differ-names c.args.c.now c.args.n)
