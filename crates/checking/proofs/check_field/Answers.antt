use mathlib.Core.Path.{sym, ◌∙◌}
use Rattle.laws.specs.Connective.{refuse}
use Rattle.laws.proofs.SearchLaws.{choice}
use Rattle.checking.specs.Progress.{field_no}
use Rattle.checking.proofs.check_field.Goals as goal

pub returns-then-is_misplaced : goal.returns-then-is_misplaced
unfolding field_no
returns-then-is_misplaced c = search choice depth 8 fits 20000

pub returns-in-96 : goal.returns-in-96
unfolding field_no
returns-in-96 c = search choice depth 8 fits 20000

pub returns-in-97 : goal.returns-in-97
unfolding field_no refuse
returns-in-97 c = rw (sym c.is_misplaced.ensures ∙ c.if-is_misplaced.false, c.in-97.is) c.check_object.ensures

pub returns-in-98 : goal.returns-in-98
unfolding field_no refuse
returns-in-98 c = rw (sym c.is_misplaced.ensures ∙ c.if-is_misplaced.false, c.in-98.is) c.check_value.ensures

pub returns-in_default : goal.returns-in_default
unfolding field_no
returns-in_default c = search choice depth 8 fits 20000
