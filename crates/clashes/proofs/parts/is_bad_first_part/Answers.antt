use mathlib.Core.Path.{refl}
use borrow.Author.Rules.{rules}
use borrow.Author.Tests.{tests}
use lib.ListN.{get_or}
use Rattle.worlds.specs.Kept.{MirrorsKept, WholesKept}
use Rattle.clashes.specs.Clashes.{FirstTargets, Never}
use Rattle.clashes.proofs.AnyLaws.{any-index}
use Rattle.clashes.proofs.FirstTargetsLaws.{targets-refuted}
use Rattle.clashes.proofs.parts.is_bad_first_part.Goals as goal

pub returns-then-row-ge2 : goal.returns-then-row-ge2
returns-then-row-ge2 c =
    let a = c.args in
    let lines = a.tables.now.lines in
    let first = c.of-first.result in
    let mask = get_or a.tables.now.targets c.row.result 0 in
    λ t lows highs seeds some. targets-refuted a.tables.now.targets lows highs a.types.now.at first a.row.slot a.row.low a.row.high c.row.result seeds
    c.requires c.of-first.ensures.0 c.row.ensures.0 some (λ w. MirrorsKept lines w × WholesKept lines w)
    (any-index (λ _. Never (λ w. FirstTargets first a.row.slot mask a.row.low a.row.high w × (MirrorsKept lines w × WholesKept lines w))) 16 c.any.ensures.ran refl (λ x q k. search (rules, tests)) (λ x q k. search (rules, tests)) t).2
