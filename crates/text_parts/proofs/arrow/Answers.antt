use Rattle.std.proofs.Common.{◌∙◌, ap, arith, sym}
use Rattle.texts.specs.Table.{arrow_in, declaration_in}
use Rattle.text_rows.specs.RowAt.{declaration_by}
use Rattle.text_parts.proofs.WhatLaws.{no-arrow}
use Rattle.text_parts.proofs.arrow.Goals as goal

pub returns-in-Some-eq0 : goal.returns-in-Some-eq0
unfolding declaration_by declaration_in arrow_in
returns-in-Some-eq0 c = let h = c.in-Some-eq0 in (ap arrow_in (sym h.field-0-test ∙ h.ensures.0), omega arith)

pub returns-in-Some-eq1 : goal.returns-in-Some-eq1
unfolding declaration_by declaration_in arrow_in
returns-in-Some-eq1 c = let h = c.in-Some-eq1 in (ap arrow_in (sym h.field-0-test ∙ h.ensures.0), omega arith)

pub returns-in-Some-eq2 : goal.returns-in-Some-eq2
unfolding declaration_by declaration_in arrow_in
returns-in-Some-eq2 c = let h = c.in-Some-eq2 in (ap arrow_in (sym h.field-0-test ∙ h.ensures.0), omega arith)

pub returns-in-Some-eq3 : goal.returns-in-Some-eq3
unfolding declaration_by declaration_in arrow_in
returns-in-Some-eq3 c = let h = c.in-Some-eq3 in (ap arrow_in (sym h.field-0-test ∙ h.ensures.0), omega arith)

pub returns-in_default : goal.returns-in_default
unfolding declaration_by declaration_in
returns-in_default c =
    let h = c.in_default.field-0-test in
    (no-arrow _ h.0.0.0.1 h.0.0.1 h.0.1 h.1 ∙ ap arrow_in c.in_default.ensures.0, omega arith)

pub returns-in_default-2 : goal.returns-in_default-2
unfolding declaration_by declaration_in arrow_in
returns-in_default-2 c = (ap arrow_in (rw c.in_default.is at c.class_for.ensures).0, omega arith)
