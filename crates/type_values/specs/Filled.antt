-- A record in memory made of types and links: each object gets the values that old asks of its type, and where old allows a value
-- that new does not have, such a one.
-- Assumes nothing.
use Rattle.std.specs.Prelude.{◌*◌, ◌+◌, ◌-◌, ◌<◌, ℕ, cond, false, true, List, ◌≡◌, ltb, get_or, length}
use Rattle.laws.specs.Connective.{both}
use Rattle.files.specs.Diagram.{Diagram, is_concrete, type_at}
use Rattle.records.specs.Written.{value_in}
use Rattle.records.specs.declared.MemoryRecord.{MemoryRecord}
use Rattle.type_tables.specs.Due.{due}
use Rattle.worlds.specs.Tables.{possible}
use Rattle.type_values.specs.Lacking.{first_lacking}

module _ (old new : Diagram) where
  -- a value of value type v, by its code: the first that new lacks, or the first
  unfoldable pub chosen_code : ℕ → ℕ
  chosen_code v = v * 8 + cond (ltb (first_lacking old new v) 8) (first_lacking old new v) 0

  -- where e is asked for: one more than a code, or 0 where it is not 1 + v for one of 12 value types
  unfoldable pub chosen : ℕ → ℕ
  chosen e = cond (both (ltb 0 e) (ltb e 13)) (1 + chosen_code (e - 1)) 0

-- the record of n objects
pub record Filled (old new : Diagram) (types links : List ℕ) (n : ℕ) (m : MemoryRecord) : Type 0 where
  pub count-is : m.count ≡ n
  pub types_are : m.types ≡ types
  pub values-are : (o s : ℕ) → o < 8 → s < 32 → value_in m o s ≡ cond (ltb o n) (chosen old new (due old (get_or types o 0) s)) 0
  pub links-are : m.links ≡ links
  pub stray-values : m.strays.values ≡ false
  pub stray-links : m.strays.links ≡ false

-- each object's type is a class or singleton class whose declarations do not disagree
pub record UsableObjects (d : Diagram) (types : List ℕ) (n : ℕ) : Type 0 where
  pub type-known : (o : ℕ) → o < n → get_or types o 0 < length d.types
  pub concrete : (o : ℕ) → o < n → is_concrete (type_at d (get_or types o 0)) ≡ true
  pub may : (o : ℕ) → o < n → possible d (get_or types o 0) ≡ true
