-- Refusals by the parts that they rest on: the value types alone, the types alone, and counts alone. In a diagram with these parts they are
-- 01's refusals (proofs/NumberLaws).
-- Assumes nothing.
use Rattle.std.specs.Prelude.{ℕ, Bool, not, ◌&&◌, List, [], eqb, ltb, get_or, length}
use Rattle.laws.specs.Bounded.{all}
use Rattle.laws.specs.Connective.{both, refuse}
use Rattle.files.specs.Diagram.{Diagram, is_composition, is_interface, type_at}
use Rattle.files.specs.DiagramLayout.{association_laid, association_of, attribute_laid, attribute_of, type_of}
use Rattle.files.specs.Refusal.{full}
use Rattle.diagrams.specs.declared.ValueTypes.{ValueTypes}
use Rattle.diagrams.specs.declared.Types.{Types}
use Rattle.diagrams.specs.Held.{only_types}
use Rattle.diagrams.specs.View.{value_types_of}

-- a diagram of value types alone
abbrev pub only_value_types : ValueTypes → Diagram
only_value_types v = record { value_types = value_types_of v; types = []; attributes = []; associations = [] }

-- each number is below n
unfoldable pub below : ℕ → List ℕ → Bool
below n ns = all (λ s. ltb (get_or ns s 0) n) (length ns)

-- each number is below n and that of an interface, among n types of these kinds
unfoldable pub interfaces : List ℕ → ℕ → List ℕ → Bool
interfaces kinds n ns = all (λ s. ltb (get_or ns s 0) n && eqb (get_or kinds (get_or ns s 0) 0) 2) (length ns)

-- "an interface with a parent that isn't one", behind these types
unfoldable pub kind_breaks : Types → List ℕ → Bool
kind_breaks t c =
    let x = type_of c in
    both (is_interface x) (not (all (λ s. is_interface (type_at (only_types t) (get_or x.parents s 0))) (length x.parents)))

-- the owner and the value type are below the counts
unfoldable pub attribute_known : ℕ → ℕ → List ℕ → Bool
attribute_known values types c = both (ltb (attribute_of c).owner types) (ltb (attribute_of c).value_type values)

-- behind n attributes, in a diagram with so many value types and types
unfoldable pub attribute_no : ℕ → ℕ → ℕ → List ℕ → ℕ
attribute_no values types n c = refuse (full 32 n) 4 (refuse (not (attribute_laid c)) 3 (refuse (not (attribute_known values types c)) 6 0))

-- the types of both ends are below the count
unfoldable pub ends_known : ℕ → ℕ → List ℕ → Bool
ends_known e types c = both (ltb (association_of e c).left.type types) (ltb (association_of e c).right.type types)

-- 8: "a composition with arrow 2"
unfoldable pub whole_right : ℕ → List ℕ → Bool
whole_right e c = both (is_composition (association_of e c)) (eqb (association_of e c).arrow 2)

-- behind n associations, in a file of edition e and a diagram with so many types
unfoldable pub association_no : ℕ → ℕ → ℕ → List ℕ → ℕ
association_no e types n c = refuse (full 16 n) 4 (refuse (not (association_laid e c)) 3 (refuse (not (ends_known e types c)) 6 (refuse (whole_right e c) 8 0)))
