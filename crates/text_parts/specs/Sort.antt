-- What a declaration is, by number, and the kinds of declarations that are looked for or counted.
-- Assumes nothing.
use Rattle.std.specs.Prelude.{ℕ, Bool, eqb, leb, Option, None, Some}
use Rattle.laws.specs.Connective.{either}
use Rattle.texts.specs.Declaration.{Declaration, is_association, is_class, is_enumeration, is_interface_type, is_type}
use Rattle.text_parts.specs.declared.Kind.{Kind}
use Rattle.text_parts.specs.declared.Kind.TheVariants.{Associations, Classes, Enumerations, Interfaces, Types}
use Rattle.text_parts.specs.declared.Sort.{Sort}
use Rattle.text_parts.specs.declared.Sort.TheVariants.{AbstractClass, Association, Class, Composition, Enumeration, Interface, SingletonClass}

-- the number of Declaration.antt
abbrev pub sort_number : Sort → ℕ
sort_number Class = 0
sort_number AbstractClass = 1
sort_number Interface = 2
sort_number SingletonClass = 3
sort_number Enumeration = 4
sort_number Association = 5
sort_number Composition = 6

abbrev pub number_of : Option Sort → ℕ
number_of None = 7
number_of (Some w) = sort_number w

-- the number is that of a declaration of the kind
abbrev pub kind_test : Kind → ℕ → Bool
kind_test Classes n = either (leb n 1) (eqb n 3)
kind_test Interfaces n = eqb n 2
kind_test Types n = leb n 3
kind_test Enumerations n = eqb n 4
kind_test Associations n = either (eqb n 5) (eqb n 6)

-- only an association has no name
abbrev pub of_kind : Kind → Declaration → Bool
of_kind Classes d = is_class d
of_kind Interfaces d = is_interface_type d
of_kind Types d = is_type d
of_kind Enumerations d = is_enumeration d
of_kind Associations d = is_association d
