use Rattle.known_records.proofs.KnownLaws.{object-stored}
use Rattle.laws.specs.Connective.{both}
use borrow.Author.Rules.{rules}
use borrow.Author.Tests.{tests}
use Rattle.known_records.proofs.Indexed.object_known.Goals.{then-from-self, else-from-self}
use Rattle.known_records.proofs.Indexed.object_known.Goals as goal

pub returns-then-values_known : goal.returns-then-values_known
unfolding both
returns-then-values_known c =
    let v = c.args.self.now in
    let o = object-stored v.diagram.now.stored v.memory.now c.args.o in
    elim c.if-from-self.branch [
      | then-from-self w ↦ search (rules, tests, o)
      | else-from-self w ↦ search (rules, tests, o)
    ]

pub returns-else-values_known : goal.returns-else-values_known
unfolding both
returns-else-values_known c =
    let v = c.args.self.now in
    let o = object-stored v.diagram.now.stored v.memory.now c.args.o in
    elim c.if-from-self.branch [
      | then-from-self w ↦ search (rules, tests, o)
      | else-from-self w ↦ search (rules, tests, o)
    ]
