use Rattle.std.proofs.Common.{rules}
use Rattle.texts.specs.Table.{declaration_in}
use Rattle.text_rows.specs.RowAt.{declaration_by}
use Rattle.text_parts.proofs.WhatLaws.{cases, what-keyword}
use Rattle.text_parts.proofs.what.Goals as goal

pub returns-then-is_passed-2 : goal.returns-then-is_passed-2
unfolding declaration_by declaration_in
returns-then-is_passed-2 c = search cases

pub returns-then-is_passed-3 : goal.returns-then-is_passed-3
unfolding declaration_by declaration_in
returns-then-is_passed-3 c = search cases

pub returns-then-is_passed : goal.returns-then-is_passed
unfolding declaration_by declaration_in
returns-then-is_passed c = search cases

pub returns-then-is_passed-4 : goal.returns-then-is_passed-4
unfolding declaration_by declaration_in
returns-then-is_passed-4 c = search cases

pub returns-then-is_passed-5 : goal.returns-then-is_passed-5
unfolding declaration_by declaration_in
returns-then-is_passed-5 c = search cases

pub returns : goal.returns
unfolding declaration_by declaration_in
returns c =
    what-keyword _ c.is_passed.ensures c.if-is_passed.false c.is_passed-2.ensures c.if-is_passed-4.false c.is_passed-3.ensures c.if-is_passed-5.false
    _ _ c.class_for.ensures.0 c.class_for.ensures.1 c.map.ensures.cases (λ k w p e. search rules) (λ k w p e. search rules)
