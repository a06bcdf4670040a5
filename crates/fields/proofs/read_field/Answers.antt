use lib.ListN.{length-drop}
use mathlib.Core.Path.{refl}
use native.Mathlib.Omega.{arith}
use borrow.Author.Rules.{rules}
use Rattle.std.proofs.lemmas.List.{take_rest}
use Rattle.fields.proofs.HeadLaws.{rows_end, rows-short, rows-past, at-front}
use Rattle.fields.proofs.read_field.Goals as goal

pub returns-then-is_empty : goal.returns-then-is_empty
returns-then-is_empty c = rows_end _ (search rules)

pub returns-in_default : goal.returns-in_default
returns-in_default c = (rows-short _ (search rules) c.in_default.len_below, refl)

pub returns-then-behind-len : goal.returns-then-behind-len
returns-then-behind-len c =
    (rows-past c.args.s.now c.from-len.result c.in-len3-up.len_at_least (omega arith) (simp (take_rest, length-drop) at c.if-behind-len.true), refl)

pub returns : goal.returns
returns c =
    let e = take_rest c.args.s.now 3 in
    at-front c.args.s.now c.from-len.result _ c.in-len3-up.len_at_least (omega arith) (rw take_rest at c.if-behind-len.false)
    refl (rw e at c.split_at.ensures.front) (rw e at c.split_at.ensures.back)
