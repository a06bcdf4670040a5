use Rattle.known_records.proofs.KnownLaws.{values-stored}
use Rattle.records.specs.Written.{value_in}
use Rattle.records.specs.WithinTest.{value_known}
use Rattle.diagrams.specs.View.{diagram_of}
use Rattle.laws.proofs.RangeLaws.{all-range}
use borrow.Author.Rules.{rules}
use borrow.Author.Tests.{tests}
use mathlib.Core.Path.{refl, ◌∙◌}
use Rattle.known_records.proofs.Indexed.values_known.Goals as goal

pub returns : goal.returns
returns c =
    let d = c.args.self.now.diagram.now.stored in
    let m = c.args.self.now.memory.now in
    all-range (λ i. value_known (diagram_of d) (value_in m c.args.o i)) _ c.all.ensures.ran refl (λ x b q k. search (rules, tests))
    ∙ values-stored d m c.args.o
