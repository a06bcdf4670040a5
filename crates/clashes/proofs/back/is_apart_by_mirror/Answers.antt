use Prim.Native.Nat.{ℕ}
use mathlib.Core.Path.{◌∙◌, ap, refl, sym}
use lib.Dec.{eqb}
use borrow.Author.Tests.{eqb-true}
use Rattle.laws.specs.Bits.{bit}
use Rattle.laws.proofs.ConnectiveLaws.{and_left, and_right, true-false}
use Rattle.worlds.specs.Lined.{mirror_at}
use Rattle.clashes.proofs.FirstTargetsLaws.{never-left, never-right}
use Rattle.clashes.proofs.back.is_apart_by_mirror.Goals as goal
use Rattle.clashes.proofs.back.is_apart_by_mirror.Goals.{then-mirror-row, else-mirror-row}

pub returns-then-is_apart_from_columns : goal.returns-then-is_apart_from_columns
returns-then-is_apart_from_columns c =
    let a = c.args in
    let m = mirror_at a.tables.now.lines a.j in
    let x = eqb m.left a.row.slot in
    λ e. elim c.if-mirror-row.branch [
      | then-mirror-row w ↦ never-right a.first a.mask a.row.low a.row.high a.tables.now.lines a.tables.now.sources a.j m.right a.row.slot c.requires.1 refl
          (eqb-true m.left a.row.slot (and_left x c.has.result w.if-mirror-row.true)) (ap (λ (z : ℕ). bit z m.to) (sym c.from.ensures) ∙ sym c.has.ensures ∙ and_right x c.has.result w.if-mirror-row.true)
          (w.is_apart_from_columns.ensures (sym w.value-is ∙ e))
      | else-mirror-row w ↦ absurd (true-false e (w.value-is ∙ w.if-mirror-row.false))
    ]

pub returns-then-mirror-row-2 : goal.returns-then-mirror-row-2
returns-then-mirror-row-2 c =
    let a = c.args in
    let m = mirror_at a.tables.now.lines a.j in
    let x = eqb m.right a.row.slot in
    let y = c.has-else-is_apart_from_columns.result in
    λ e. never-left a.first a.mask a.row.low a.row.high a.tables.now.lines a.tables.now.sources a.j m.left a.row.slot c.requires.1 refl
    (eqb-true m.right a.row.slot (and_left x y c.if-mirror-row-2.true))
    (ap (λ (z : ℕ). bit z m.from) (sym c.from-else-is_apart_from_columns.ensures) ∙ sym c.has-else-is_apart_from_columns.ensures ∙ and_right x y c.if-mirror-row-2.true)
    (c.is_apart_from_columns-then-mirror-row-2.ensures e)
