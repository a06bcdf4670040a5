use Rattle.text_parts.proofs.KindLaws.{association-off, association-on, classes-off, classes-on, enumeration-off, interface-off}
use Rattle.text_parts.proofs.Sort.is.Goals as goal

pub returns-in-Classes : goal.returns-in-Classes
returns-in-Classes c = classes-on _ _ c.in-Class.is c.in-Classes.is

pub returns-in_default : goal.returns-in_default
returns-in_default c = classes-off _ _ c.in-Class.is c.in_default.not-Classes c.in_default.not-Types

pub returns-in_default-matches : goal.returns-in_default-matches
returns-in_default-matches c = rw c.in-Interface.is (interface-off _ c.in_default-matches.not-Interfaces c.in_default-matches.not-Types)

pub returns-in_default-matches-2 : goal.returns-in_default-matches-2
returns-in_default-matches-2 c = rw c.in-Enumeration.is (enumeration-off _ c.in_default-matches-2.not-Enumerations)

pub returns-in-Associations : goal.returns-in-Associations
returns-in-Associations c = association-on _ _ c.in-Association.is c.in-Associations.is

pub returns-in_default-matches-3 : goal.returns-in_default-matches-3
returns-in_default-matches-3 c = association-off _ _ c.in-Association.is c.in_default-matches-3.not-Associations
