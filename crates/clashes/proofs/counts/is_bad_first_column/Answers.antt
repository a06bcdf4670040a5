-- `counts::is_bad_first_column` meets its contract.
-- Assumes nothing.
use mathlib.Core.Path.{refl}
use native.Mathlib.Omega.{arith}
use lib.Bits.{bit_and}
use lib.Dec.{eqb, ltb}
use lib.ListN.{get_or}
use borrow.Author.Tests.{eqb-true, ltb-true}
use Rattle.laws.proofs.ConnectiveLaws.{and_left, and_right}
use Rattle.clashes.proofs.FirstLaws.{never-any, refuted-any, refuted-columns, refuted-mirrors, refuted-wholes}
use Rattle.clashes.proofs.counts.is_bad_first_column.Goals as goal

pub returns-then-limits-here : goal.returns-then-limits-here
returns-then-limits-here c =
    let a = c.args in
    let e = ltb 0 a.limits.least in
    let f = eqb (bit_and a.limits.from (get_or a.tables.now.sources c.row.result 0)) 0 in
    λ _ seeds some. refuted-any a.tables.now.targets a.tables.now.sources a.tables.now.lows a.tables.now.highs a.tables.now.lines a.limits.slot a.limits.from a.limits.least a.limits.most a.types.now.at (get_or a.types.now.at 0 0) c.row.result seeds c.requires refl (omega (arith, c.row.ensures.0)) some
    (never-any (get_or a.types.now.at 0 0) (get_or a.tables.now.sources c.row.result 0) a.limits.slot a.limits.from a.limits.least a.limits.most (ltb-true 0 a.limits.least (and_left e f c.if-limits-here.true))
    (eqb-true (bit_and a.limits.from (get_or a.tables.now.sources c.row.result 0)) 0 (and_right e f c.if-limits-here.true)))

pub returns-then-is_apart_from_columns : goal.returns-then-is_apart_from_columns
returns-then-is_apart_from_columns c =
    let a = c.args in
    λ _ seeds some. refuted-columns a.tables.now.targets a.tables.now.sources a.tables.now.lows a.tables.now.highs a.tables.now.lines a.limits.slot a.limits.from a.limits.least a.limits.most a.types.now.at (get_or a.types.now.at 0 0) c.row.result seeds c.requires refl (omega (arith, c.row.ensures.0)) some (c.is_apart_from_columns.ensures c.if-is_apart_from_columns.true)

pub returns-then-is_apart_from_wholes : goal.returns-then-is_apart_from_wholes
returns-then-is_apart_from_wholes c =
    let a = c.args in
    λ _ seeds some. refuted-wholes a.tables.now.targets a.tables.now.sources a.tables.now.lows a.tables.now.highs a.tables.now.lines a.limits.slot a.limits.from a.limits.least a.limits.most a.types.now.at (get_or a.types.now.at 0 0) c.row.result seeds c.requires refl (omega (arith, c.row.ensures.0)) some (c.is_apart_from_wholes.ensures c.if-is_apart_from_wholes.true)

pub returns : goal.returns
returns c =
    let a = c.args in
    λ e seeds some. refuted-mirrors a.tables.now.targets a.tables.now.sources a.tables.now.lows a.tables.now.highs a.tables.now.lines a.limits.slot a.limits.from a.limits.least a.limits.most a.types.now.at (get_or a.types.now.at 0 0) c.row.result seeds c.requires refl (omega (arith, c.row.ensures.0)) some (c.is_apart_from_mirrors.ensures e)
