-- `Within` as a test: whether a record in memory has an index for everything, so that it can be written.
-- Assumes nothing.
use Rattle.std.specs.Prelude.{◌*◌, ◌+◌, ◌-◌, ◌/◌, ℕ, Bool, eqb, leb, ltb, get_or, length}
use Rattle.laws.specs.Bits.{bit}
use Rattle.laws.specs.Bounded.{all}
use Rattle.laws.specs.Connective.{both, either, imp}
use Rattle.records.specs.declared.MemoryRecord.{MemoryRecord}
use Rattle.files.specs.Diagram.{Diagram}
use Rattle.records.specs.Slots.{role_count}
use Rattle.records.specs.Written.{constant_known, value_in}

-- no value, or one more than the code of a value of the diagram
unfoldable pub value_known : Diagram → ℕ → Bool
value_known d v = either (eqb v 0) (both (ltb ((v - 1) / 8) (length d.value_types)) (constant_known d (v - 1)))

-- each value of object o
unfoldable pub values_known : Diagram → MemoryRecord → ℕ → Bool
values_known d m o = all (λ s. value_known d (value_in m o s)) (length d.attributes)

-- each target in a mask is one of n objects
unfoldable pub row_known : ℕ → ℕ → Bool
row_known n mask = all (λ p. imp (bit p mask) (ltb p n)) 8

-- each link of object o has an object as its target
unfoldable pub targets_known : Diagram → MemoryRecord → ℕ → Bool
targets_known d m o = all (λ s. row_known m.count (get_or m.links (o * 32 + s) 0)) (role_count d)

-- the type of object o, its values and its targets
unfoldable pub object_known : Diagram → MemoryRecord → ℕ → Bool
object_known d m o = both (ltb (get_or m.types o 0) (length d.types)) (both (values_known d m o) (targets_known d m o))

-- at most 8 objects, and each of them known: exactly `Within`, by `within-iff`
unfoldable pub within : Diagram → MemoryRecord → Bool
within d m = both (leb m.count 8) (all (object_known d m) m.count)
