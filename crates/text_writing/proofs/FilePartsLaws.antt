-- The parts of the file as the code puts them, two at a time, and their room.
-- Assumes nothing.
use Prim.Native.Nat.{◌+◌, ◌-◌, ◌≤◌, ℕ}
use native.Mathlib.Omega.{arith}
use mathlib.Core.List.{List, ◌++◌}
use mathlib.Core.Path.{◌∙◌, ◌≡◌, ap, ap₂, refl, sym}
use lib.ListN.{length}
use Rattle.laws.specs.Lists.{joined}
use Rattle.files.specs.DiagramBytes.{write_diagram}
use Rattle.files.specs.Field.{field}
use Rattle.files.specs.Name.{Name}
use Rattle.field_writers.specs.Put.{Put, head}
use Rattle.texts.specs.Declaration.{Declaration}
use Rattle.texts.specs.Declared.{declared}
use Rattle.texts.proofs.TextSizeLaws.{text-size}
use Rattle.name_lists.specs.declared.list.Names.{Names}
use Rattle.name_lists.specs.Names.{names_in}
use Rattle.name_lists.proofs.NamesLaws.{names-length}
use Rattle.text_checks.specs.ValueNames.{value_names}
use Rattle.text_writing.specs.Pieces.{Writable, association_piece, attributes_and_associations_part, attributes_piece, declared_part, enumeration_count, enumeration_piece, plain_piece, type_piece, types_to_associations_part, value_types_part}
use Rattle.text_writing.proofs.FileLaws.{enumerations-below, file-pieces}
use Rattle.text_writing.proofs.TwoWritersLaws.{Parts}

-- ---- value types, by the names in memory and the number of enumerations that was counted

module _ (ds : List Declaration) (values : Names) {count : ℕ} (e : names_in values ≡ value_names ds) (q : count ≡ enumeration_count ds) where
  counted : values.count ≡ length (value_names ds)
  counted = sym (names-length values) ∙ ap length e

  pub count-below : count ≤ values.count
  count-below = omega (arith, enumerations-below ds, counted)

  pub value-parts : Parts (joined (enumeration_piece ds) (length ds)) (joined (plain_piece (names_in values) count) (values.count - count)) (value_types_part ds)
  unfolding value_types_part
  value-parts =
      let es = joined (enumeration_piece ds) (length ds) in
      record {
        whole =
            ap (λ (k : ℕ). es ++ joined (plain_piece (names_in values) count) (k - count)) counted
            ∙ ap₂ (λ (ns : List Name) (k : ℕ). es ++ joined (plain_piece ns k) (length (value_names ds) - k)) e q;
      }

module _ (ds : List Declaration) where
  -- ---- the others

  pub attribute-parts : Parts (joined (attributes_piece ds) (length ds)) (joined (association_piece ds) (length ds)) (attributes_and_associations_part ds)
  unfolding attributes_and_associations_part
  attribute-parts = record { whole = refl }

  pub type-parts : Parts (joined (type_piece ds) (length ds)) (attributes_and_associations_part ds) (types_to_associations_part ds)
  unfolding types_to_associations_part
  type-parts = record { whole = refl }

  pub declared-parts : Parts (value_types_part ds) (types_to_associations_part ds) (declared_part ds)
  unfolding declared_part
  declared-parts = record { whole = refl }

  -- ---- the file

  pub file-parts : Parts (head 0x10 1 2) (declared_part ds) (write_diagram 2 (declared ds))
  unfolding field
  file-parts = record { whole = sym (file-pieces ds) }

  pub file-room : {room : ℕ} → Writable ds → 4160 ≤ room → length (write_diagram 2 (declared ds)) + 160 ≤ room
  file-room w h = omega (arith, text-size ds w.fits w.few)

  pub file-size : {r : ℕ} {d d' : List ℕ} → Writable ds → Put (write_diagram 2 (declared ds)) d r d' → r ≤ 4000
  file-size w p = omega (arith, text-size ds w.fits w.few, p.length-is)
