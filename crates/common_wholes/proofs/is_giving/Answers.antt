-- `is_giving` meets its contract: what is tested is what a composition that gives its parts their whole has.
-- Assumes nothing.
use mathlib.Core.Bool.{◌&&◌}
use mathlib.Core.Path.{◌∙◌, refl, sym}
use native.Mathlib.Omega.{arith}
use Rattle.laws.proofs.ConnectiveLaws.{and_left, and_right, true-false}
use Rattle.common_wholes.proofs.WholeLaws.{giving}
use Rattle.common_wholes.proofs.is_giving.Goals as goal

pub returns-then-lines-j-eq0 : goal.returns-then-lines-j-eq0
returns-then-lines-j-eq0 c = λ e. absurd (true-false e refl)

pub returns-then-lines-j : goal.returns-then-lines-j
returns-then-lines-j c = λ e. absurd (true-false e refl)

pub returns : goal.returns
returns c =
    let a = c.args in
    let x = c.has.result in
    let y = c.has-2.result in
    let z = c.is_inside.result in
    λ e. giving a.lines.now a.t a.j c.requires.1 (omega (arith, c.if-lines-j-eq0.false)) c.if-lines-j.false
    (sym c.has.ensures ∙ and_left x y (and_left (x && y) z e)) (sym c.has-2.ensures ∙ and_right x y (and_left (x && y) z e))
    (c.is_inside.ensures (and_right (x && y) z e))
