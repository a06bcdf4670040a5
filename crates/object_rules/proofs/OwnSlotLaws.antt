-- A slot is its name's own by the table of slots exactly when it is by the diagram.
-- Assumes nothing.
use Prim.Native.Nat.{◌*◌, ℕ}
use mathlib.Core.List.{List}
use mathlib.Core.Path.{◌∙◌, ◌≡◌, ap, sym}
use lib.Dec.{eqb, ltb}
use lib.ListN.{get_or, length}
use borrow.Author.Tests.{ltb-true}
use Rattle.laws.specs.Connective.{both}
use Rattle.laws.proofs.ConnectiveLaws.{both_under}
use Rattle.diagrams.specs.declared.StoredDiagram.{StoredDiagram}
use Rattle.diagrams.specs.View.{diagram_of}
use Rattle.diagrams.proofs.ViewLaws.{association-count, attribute-count}
use Rattle.records.specs.Slots.{own_attribute, own_role, role_count}
use Rattle.tables.specs.Tables.{AttributeSlots, RoleSlots}
use Rattle.object_rules.specs.ValuesIn.{own_slot}

module _ (d : StoredDiagram) (slots : List ℕ) where
  pub own-attribute : AttributeSlots (diagram_of d) slots → (s : ℕ) → own_attribute (diagram_of d) s ≡ own_slot slots d.attributes.count s
  unfolding own_attribute own_slot
  own-attribute at s =
      both_under (ltb s (length (diagram_of d).attributes)) _ _ (λ e. ap (λ (k : ℕ). eqb k s) (sym (at.exact s (ltb-true _ _ e))))
      ∙ ap (λ (n : ℕ). both (ltb s n) (eqb (get_or slots s 0) s)) (attribute-count d)

  pub own-role : RoleSlots (diagram_of d) slots → (s : ℕ) → own_role (diagram_of d) s ≡ own_slot slots (d.associations.count * 2) s
  unfolding own_role own_slot
  own-role at s =
      both_under (ltb s (role_count (diagram_of d))) _ _ (λ e. ap (λ (k : ℕ). eqb k s) (sym (at.exact s (ltb-true _ _ e))))
      ∙ ap (λ (n : ℕ). both (ltb s (n * 2)) (eqb (get_or slots s 0) s)) (association-count d)
