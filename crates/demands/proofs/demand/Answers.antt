-- `demand` meets its contract: what is known with no count, sharpened by one family of needs after the other.
-- Assumes nothing.
use mathlib.Core.Path.{refl}
use Rattle.worlds.specs.Kept.{sheet_of}
use Rattle.demands.proofs.StartLaws.{demanded}
use Rattle.demands.proofs.SolutionLaws.{by-singles, to-column, to-own, to-part, to-row, to-weights}
use Rattle.demands.proofs.demand.Goals as goal

pub returns-in_err-single : goal.returns-in_err-single
returns-in_err-single c =
    let a = c.args in
    let x = sheet_of a.tables.now in
    rw c.from_residual.ensures (demanded x a.q.now a.n _ a.forb refl (c.types_free-free.ensures a.types.at a.k c.types_present-here.ensures) (by-singles x a.q.now a.n _ _ _ c.in_err-single.ensures))

pub returns-in_err-row : goal.returns-in_err-row
returns-in_err-row c =
    let a = c.args in
    let x = sheet_of a.tables.now in
    rw c.from_residual-in_err-row.ensures (demanded x a.q.now a.n _ a.forb refl (c.types_free-free.ensures a.types.at a.k c.types_present-here.ensures)
    (to-row x a.q.now a.n a.tables.now.sources a.tables.now.turned _ c.in_ok-single.ensures c.in_err-row.ensures))

pub returns-in_err-column : goal.returns-in_err-column
returns-in_err-column c =
    let a = c.args in
    let x = sheet_of a.tables.now in
    rw c.from_residual-in_err-column.ensures (demanded x a.q.now a.n _ a.forb refl (c.types_free-free.ensures a.types.at a.k c.types_present-here.ensures)
    (to-column x a.q.now a.n a.tables.now.sources a.tables.now.turned _ c.in_ok-single.ensures c.in_ok-row.ensures c.in_err-column.ensures))

pub returns-in_err-part : goal.returns-in_err-part
returns-in_err-part c =
    let a = c.args in
    let x = sheet_of a.tables.now in
    rw c.from_residual-in_err-part.ensures (demanded x a.q.now a.n _ a.forb refl (c.types_free-free.ensures a.types.at a.k c.types_present-here.ensures)
    (to-part x a.q.now a.n a.tables.now.sources a.tables.now.turned _ c.in_ok-single.ensures c.in_ok-row.ensures c.in_ok-column.ensures c.in_err-part.ensures))

pub with_own-requires : goal.with_own-requires
with_own-requires c = (c.requires.0, c.requires.1)

pub returns-in_err-own : goal.returns-in_err-own
returns-in_err-own c =
    let a = c.args in
    let x = sheet_of a.tables.now in
    rw c.from_residual-in_err-own.ensures (demanded x a.q.now a.n _ a.forb refl (c.types_free-free.ensures a.types.at a.k c.types_present-here.ensures)
    (to-own x a.q.now a.n a.tables.now.sources a.tables.now.turned _ c.in_ok-single.ensures c.in_ok-row.ensures c.in_ok-column.ensures c.in_ok-part.ensures c.in_err-own.ensures))

pub with_weights-requires : goal.with_weights-requires
with_weights-requires c = (c.requires.0, c.requires.1)

pub returns : goal.returns
returns c =
    let a = c.args in
    let x = sheet_of a.tables.now in
    demanded x a.q.now a.n _ a.forb refl (c.types_free-free.ensures a.types.at a.k c.types_present-here.ensures)
    (to-weights x a.q.now a.n a.tables.now.sources a.tables.now.turned _ c.in_ok-single.ensures c.in_ok-row.ensures c.in_ok-column.ensures c.in_ok-part.ensures c.in_ok-own.ensures c.with_weights.ensures)
