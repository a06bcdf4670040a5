-- The plain value types by the slots of their names.
-- Assumes nothing.
use Prim.Native.Nat.{ℕ, min, ◌*◌, ◌+◌, ◌<◌, ◌≤◌}
use native.Mathlib.Omega.{arith}
use mathlib.Core.List.{List, []}
use mathlib.Core.Path.{◌≡◌, ap, sym, ◌∙◌}
use lib.ListN.{drop, get_or, length, length-take}
use Rattle.files.specs.DiagramBytes.{value_type_bytes}
use Rattle.files.specs.Field.{field}
use Rattle.files.specs.Name.{Name}
use Rattle.fields.specs.Slot.{slot_name}
use Rattle.name_lists.specs.declared.list.Names.{Names}
use Rattle.name_lists.specs.Names.{names_in}
use Rattle.name_lists.proofs.NamesLaws.{names_at}
use Rattle.text_fields.specs.Fields.{plain_of}

pub slot-short : (names : List ℕ) (i : ℕ) {w : Name} → w ≡ slot_name names i → length w ≤ 16
unfolding slot_name
slot-short names i e = omega (arith, ap length e, length-take (min 16 (get_or names (i * 17) 0)) (drop (i * 17 + 1) names))

pub slot-field : (values : Names) (i : ℕ) {j : ℕ} {w : Name} → i < values.count → j ≡ i → w ≡ slot_name values.names j
    → field 0x20 (value_type_bytes (plain_of w)) ≡ field 0x20 (value_type_bytes (plain_of (get_or (names_in values) i [])))
slot-field values i h e q =
    ap (λ (v : Name). field 0x20 (value_type_bytes (plain_of v))) (q ∙ ap (slot_name values.names) e ∙ sym (names_at values i h))
