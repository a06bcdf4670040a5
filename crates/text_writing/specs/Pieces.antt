-- The fields that each declaration of a text adds to the edition 2 file of the diagram, by tag: nothing where it is of another kind.
-- Assumes nothing.
use Rattle.std.specs.Prelude.{◌+◌, ◌-◌, ◌<◌, ◌≤◌, ℕ, cond, false, List, [], ◌++◌, ◌≡◌, get_or, length}
use Rattle.laws.specs.Bounded.{tally}
use Rattle.laws.specs.Lists.{joined}
use Rattle.files.specs.DiagramBytes.{association_bytes, attribute_bytes, type_bytes, value_type_bytes}
use Rattle.files.specs.Field.{field}
use Rattle.files.specs.Name.{Name}
use Rattle.texts.specs.Declaration.{Declaration, declaration_at, is_association, is_enumeration, is_type}
use Rattle.texts.specs.Declared.{association_of, attribute_of, type_def_of}
use Rattle.texts.specs.WellFormedDeclaration.{ShortNames, WfDeclarations}
use Rattle.texts.specs.TextChecks.{is_overfull}
use Rattle.text_rows.specs.RowAt.{declarations_by}
use Rattle.text_checks.specs.ValueNames.{value_names}
use Rattle.text_fields.specs.Fields.{Roomy, enumeration_of, plain_of}

-- 0x20
unfoldable pub enumeration_piece : List Declaration → ℕ → List ℕ
enumeration_piece ds k = cond (is_enumeration (declaration_at ds k)) (field 0x20 (value_type_bytes (enumeration_of (declaration_at ds k)))) []

-- the plain type with the name of number e + i
unfoldable pub plain_piece : List Name → ℕ → ℕ → List ℕ
plain_piece names e i = field 0x20 (value_type_bytes (plain_of (get_or names (e + i) [])))

-- 0x30
unfoldable pub type_piece : List Declaration → ℕ → List ℕ
type_piece ds k = cond (is_type (declaration_at ds k)) (field 0x30 (type_bytes (type_def_of ds k))) []

-- 0x40
unfoldable pub attributes_piece : List Declaration → ℕ → List ℕ
attributes_piece ds k = joined (λ i. field 0x40 (attribute_bytes (attribute_of ds k i))) (length (declaration_at ds k).attribute_types)

-- 0x50
unfoldable pub association_piece : List Declaration → ℕ → List ℕ
association_piece ds k = cond (is_association (declaration_at ds k)) (field 0x50 (association_bytes 2 (association_of ds k))) []

-- ---- all of them

unfoldable pub enumeration_count : List Declaration → ℕ
enumeration_count ds = tally (λ k. is_enumeration (declaration_at ds k)) (length ds)

-- 0x20: "enumerations first, then plain types by first use"
unfoldable pub value_types_part : List Declaration → List ℕ
value_types_part ds =
    joined (enumeration_piece ds) (length ds)
    ++ joined (plain_piece (value_names ds) (enumeration_count ds)) (length (value_names ds) - enumeration_count ds)

-- 0x40 and 0x50
unfoldable pub attributes_and_associations_part : List Declaration → List ℕ
attributes_and_associations_part ds = joined (attributes_piece ds) (length ds) ++ joined (association_piece ds) (length ds)

-- 0x30 to 0x50
unfoldable pub types_to_associations_part : List Declaration → List ℕ
types_to_associations_part ds = joined (type_piece ds) (length ds) ++ attributes_and_associations_part ds

-- 0x20 to 0x50
unfoldable pub declared_part : List Declaration → List ℕ
declared_part ds = value_types_part ds ++ types_to_associations_part ds

-- Declarations whose diagram has a file: they pass the checks 23 and 4.
pub record Writable (ds : List Declaration) : Type 0 where
  pub fits : WfDeclarations ds
  pub few : is_overfull ds ≡ false
  pub short : ShortNames ds
  pub roomy : (k : ℕ) → k < length ds → Roomy (declaration_at ds k)

-- A body with such declarations, n of them: its outline tells of all.
pub record WritableBody (s : List ℕ) (n : ℕ) : Type 0 where
  pub writable : Writable (declarations_by s)
  pub count-is : n ≡ length (declarations_by s)
  pub few : n ≤ 52
