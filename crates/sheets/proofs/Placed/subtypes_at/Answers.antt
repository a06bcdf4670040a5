use native.Mathlib.Omega.{arith}
use Rattle.type_tables.specs.RowsIn.{is_subtype}
use Rattle.sheets.proofs.ImageLaws.{images-by}
use Rattle.sheets.proofs.Placed.subtypes_at.Goals as goal

pub returns-then-self-x : goal.returns-then-self-x
returns-then-self-x c = λ h. absurd (omega (arith, c.if-self-x.true))

pub returns : goal.returns
returns c =
    let a = c.args in
    let u = c.subtypes_of in
    λ h. images-by a.self.now.images (is_subtype a.sets.now a.x) a.self.now.m 24 a.self.now.k u.result c.images_of.result (omega (arith, a.self.now.few)) u.ensures c.images_of.ensures
