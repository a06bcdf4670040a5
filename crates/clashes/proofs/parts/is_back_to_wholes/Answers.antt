use mathlib.Core.Bool.{◌&&◌}
use mathlib.Core.Path.{◌∙◌, sym}
use lib.Dec.{eqb}
use borrow.Author.Tests.{eqb-true}
use Rattle.laws.proofs.ConnectiveLaws.{and_left, and_right}
use Rattle.worlds.specs.Lined.{mirror_at, whole_at}
use Rattle.clashes.proofs.TwoWholesLaws.{two-wholes}
use Rattle.clashes.proofs.parts.is_back_to_wholes.Goals as goal

pub returns : goal.returns
returns c =
    let a = c.args in
    let m = mirror_at a.lines.now a.j in
    let o = whole_at a.lines.now a.j in
    let u = eqb m.left a.row.slot in
    let v = eqb o.slot m.right in
    let x = c.has.result in
    let y = c.has-2.result in
    let z = c.is_inside.result in
    λ e. let f = and_left (u && v && x && y) z e in
    let g = and_left (u && v && x) y f in
    let h = and_left (u && v) x g in
    two-wholes a.lines.now a.t a.row.slot a.mask a.j c.requires.2 (eqb-true m.left a.row.slot (and_left u v h)) (eqb-true o.slot m.right (and_right u v h)) (sym c.has.ensures ∙ and_right (u && v) x g)
    (sym c.has-2.ensures ∙ and_right (u && v && x) y f) (c.is_inside.ensures (and_right (u && v && x && y) z e)) a.row.low a.row.high c.requires.1
