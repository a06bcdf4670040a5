-- `mirrors` meets its contract: association by association.
-- Assumes nothing.
use native.Mathlib.Omega.{arith}
use borrow.Author.Rules.{rules}
use borrow.Author.Tests.{tests}
use mathlib.Core.List.{[]}
use Rattle.link_search.specs.Families.{mirror_in}
use Rattle.leaves.specs.Arrays.{MirrorAsk}
use Rattle.leaves.proofs.MadeLaws.{entry-made}
use Rattle.leaves.proofs.objects.Objects.mirrors.Goals as goal

pub returns : goal.returns
returns c =
    let a = c.args.self.now in
    entry-made (mirror_in [] 0) (λ j m. MirrorAsk a.lines.now a.types.now.at a.n j m) (λ x b q h k. search (rules, tests)) (omega arith) c.from_fn.ensures.items
