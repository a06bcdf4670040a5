use Rattle.refusing.proofs.FieldLaws.{field-misplaced, field-edition, field-value-type, field-type, field-attribute, field-association}
use Rattle.refusing.proofs.check_field.Goals as goal

pub returns-then-is_misplaced : goal.returns-then-is_misplaced
returns-then-is_misplaced c = search field-misplaced

pub returns-in-16 : goal.returns-in-16
returns-in-16 c = search field-edition

pub returns-in-32 : goal.returns-in-32
returns-in-32 c = search field-value-type

pub returns-in-48 : goal.returns-in-48
returns-in-48 c = search field-type

pub returns-in-64 : goal.returns-in-64
returns-in-64 c = search field-attribute

pub returns-in_default : goal.returns-in_default
returns-in_default c = search field-association
