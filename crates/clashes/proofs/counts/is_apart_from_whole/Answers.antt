use Prim.Native.Nat.{ℕ}
use mathlib.Core.Path.{◌∙◌, ap, sym}
use lib.Dec.{eqb}
use borrow.Author.Tests.{eqb-true}
use Rattle.laws.specs.Bits.{bit}
use Rattle.laws.proofs.ConnectiveLaws.{and_left, and_right}
use Rattle.worlds.specs.Lined.{whole_at}
use Rattle.clashes.proofs.ClashLaws.{never-whole}
use Rattle.clashes.proofs.counts.is_apart_from_whole.Goals as goal

pub returns-then-whole-asked : goal.returns-then-whole-asked
returns-then-whole-asked c =
    let a = c.args.asked in
    let l = a.limits in
    let o = whole_at c.args.lines.now c.args.j in
    let x = eqb o.slot l.slot in
    λ e. never-whole a.first a.here l.slot l.from l.least l.most c.args.lines.now c.args.j c.requires (eqb-true o.slot l.slot (and_left x c.has.result c.if-whole-asked.true))
    (ap (λ (z : ℕ). bit z o.to) (sym c.from.ensures) ∙ sym c.has.ensures ∙ and_right x c.has.result c.if-whole-asked.true) (c.is_apart.ensures e)
