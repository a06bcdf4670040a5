-- What the writers of declaration k are asked for: it is within the limits.
-- Assumes nothing.
use Prim.Native.Nat.{ℕ, ◌+◌, ◌<◌, ◌≤◌}
use native.Mathlib.Omega.{arith}
use mathlib.Core.List.{List}
use mathlib.Core.Path.{◌≡◌, ap, subst, sym}
use lib.ListN.{length}
use Rattle.laws.specs.Lists.{joined}
use Rattle.files.specs.Name.{Name}
use Rattle.texts.specs.Declaration.{Declaration, declaration_at, is_type}
use Rattle.texts.specs.Declared.{types_before}
use Rattle.texts.specs.TextChecks.{names_of_kind}
use Rattle.text_rows.specs.RowAt.{declarations_by}
use Rattle.text_checks.specs.ValueNames.{value_names}
use Rattle.text_fields.specs.Fields.{Roomy, attribute_field, parents_by}
use Rattle.text_writing.specs.Pieces.{WritableBody, attributes_piece}
use Rattle.text_writing.proofs.ByNamesLaws.{attribute-fields, parents-most}

module _ {s : List ℕ} {n k : ℕ} (w : WritableBody s n) (h : k < n) {d : Declaration} (i : d ≡ declaration_at (declarations_by s) k) where
  there : Roomy (declaration_at (declarations_by s) k)
  there = w.writable.roomy k (omega (arith, w.count-is))

  pub roomy-at : Roomy d
  roomy-at = subst Roomy (sym i) there

  pub parents-at : (types : List Name) {own : ℕ} → types ≡ names_of_kind is_type (declarations_by s) → own ≡ types_before (declarations_by s) k
      → length (parents_by types own d) ≤ 4
  parents-at types e q = omega (arith, parents-most (declarations_by s) k i types e q, there.few-parents)

-- room for the piece is room for the fields of all attributes
pub attributes-at : (ds : List Declaration) (k : ℕ) {d : Declaration} (values : List Name) {own room : ℕ} → d ≡ declaration_at ds k → values ≡ value_names ds
    → own ≡ types_before ds k → length (attributes_piece ds k) + 160 ≤ room
    → length (joined (attribute_field values own d) (length d.attribute_types)) + 160 ≤ room
attributes-at ds k values i e q r = omega (arith, ap length (attribute-fields ds k i values e q))
