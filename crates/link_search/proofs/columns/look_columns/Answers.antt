-- `look_columns` meets its contract: what a target's limits rule out, no net between has.
-- Assumes nothing.
use Prim.Native.Nat.{◌<◌}
use mathlib.Core.List.{[]}
use mathlib.Core.Path.{subst}
use Rattle.std.proofs.lemmas.List.{get_or_default}
use native.Mathlib.Omega.{arith}
use Rattle.link_search.specs.Families.{ColumnFits, Columns, column_in}
use Rattle.link_search.specs.declared.asked.Column.{Column}
use Rattle.link_search.proofs.SeenLaws.{looked-err}
use Rattle.link_search.proofs.columns.look_columns.Goals as goal

pub returns-in_err-o : goal.returns-in_err-o
returns-in_err-o c =
    let a = c.args in
    looked-err (Columns a.columns.now) a.bounds.now.must a.bounds.now.may c.from_residual.result c.from_residual.ensures.0
    (λ w b ok.
    let j = c.loop-column.column-index in
    let l : j < 17 = omega (arith, c.loop-column-test.true, c.told-columns) in
    c.in_err-o.ensures w b
    (subst (λ (x : Column). ColumnFits x w c.loop-target.target) (get_or_default a.columns.now j (column_in [] 0) _ (omega arith)) (ok.at j l c.loop-target.target c.loop-target-test.true)))
