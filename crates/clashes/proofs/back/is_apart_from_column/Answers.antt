use Prim.Native.Nat.{ℕ}
use mathlib.Core.Path.{◌∙◌, ap, sym}
use Rattle.laws.specs.Bits.{bit}
use lib.Dec.{eqb}
use borrow.Author.Tests.{eqb-true}
use Rattle.laws.proofs.ConnectiveLaws.{and_left, and_right}
use Rattle.worlds.specs.Lined.{column_at}
use Rattle.clashes.proofs.FirstTargetsLaws.{never_back}
use Rattle.clashes.proofs.back.is_apart_from_column.Goals as goal

pub returns-then-column-back : goal.returns-then-column-back
returns-then-column-back c =
    let a = c.args in
    let b = a.back in
    let x = eqb (column_at a.tables.now.lines a.j).slot b.slot in
    λ e. never_back b.first b.mask b.row.low b.row.high a.tables.now.lines a.tables.now.sources a.j b.slot b.there c.place.result c.requires b.inside
    (eqb-true (column_at a.tables.now.lines a.j).slot b.slot (and_left x c.has.result c.if-column-back.true)) (ap (λ (z : ℕ). bit z (column_at a.tables.now.lines a.j).to) (sym c.from.ensures) ∙ sym c.has.ensures ∙ and_right x c.has.result c.if-column-back.true) c.place.ensures
    (λ u. c.is_apart_back.ensures e u) b.row.slot
