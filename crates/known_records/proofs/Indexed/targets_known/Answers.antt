use Rattle.known_records.proofs.KnownLaws.{targets-stored}
use Rattle.records.specs.WithinTest.{row_known}
use Rattle.laws.proofs.RangeLaws.{all-range}
use Prim.Native.Nat.{◌*◌, ◌+◌}
use lib.ListN.{get_or}
use borrow.Author.Rules.{rules}
use borrow.Author.Tests.{tests}
use mathlib.Core.Path.{refl, ◌∙◌}
use Rattle.known_records.proofs.Indexed.targets_known.Goals as goal

pub returns : goal.returns
returns c =
    let d = c.args.self.now.diagram.now.stored in
    let m = c.args.self.now.memory.now in
    all-range (λ i. row_known m.count (get_or m.links (c.args.o * 32 + i) 0)) _ c.all.ensures.ran refl (λ x b q k. search (rules, tests))
    ∙ targets-stored d m c.args.o
