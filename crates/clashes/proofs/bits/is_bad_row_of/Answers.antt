use mathlib.Core.Path.{◌∙◌, sym}
use Rattle.clashes.proofs.BitsLaws.{bad-row}
use Rattle.clashes.proofs.bits.is_bad_row_of.Goals as goal

pub returns-then-must-ne0 : goal.returns-then-must-ne0
returns-then-must-ne0 c =
    let a = c.args in
    λ t. bad-row a.targets.now a.q.now.must a.q.now.shut a.types.now.at a.q.now.seeds a.o a.s c.place-i.result c.row.result c.requires.0 c.requires.1 c.requires.2 c.place-i.ensures c.row.ensures.0
    (sym c.is_bad_row.ensures ∙ t)
