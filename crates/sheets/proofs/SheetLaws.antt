-- A diagram's own tables all together: the slots of its associations are role slots, and its tables make a sheet.
-- Assumes nothing.
use Prim.Native.Nat.{◌*◌, ◌+◌, ◌<◌, ◌≤◌, ℕ}
use native.Mathlib.Omega.{arith}
use mathlib.Core.Bool.{Bool, cond, false, true}
use mathlib.Core.List.{List}
use mathlib.Core.Path.{◌≡◌, refl, subst, sym}
use lib.Dec.{ltb}
use lib.ListN.{length}
use borrow.Author.Tests.{ltb-true}
use Rattle.laws.specs.Connective.{both}
use Rattle.laws.proofs.ConnectiveLaws.{both_left}
use Rattle.files.specs.Diagram.{Diagram, association_at}
use Rattle.files.proofs.NameLaws.{same_self}
use Rattle.diagrams.specs.declared.StoredDiagram.{StoredDiagram}
use Rattle.diagrams.specs.View.{diagram_of}
use Rattle.diagrams.specs.Held.{Held}
use Rattle.diagrams.proofs.ViewLaws.{type-count}
use Rattle.diagrams.proofs.NamedLaws.{role-count}
use Rattle.records.specs.Slots.{role_count, role_name}
use Rattle.records.proofs.SlotLaws.{role-known}
use Rattle.rules.specs.Arrow.{counted_right}
use Rattle.views.specs.Views.{column_slot, counted_end, is_composed, is_counted, is_mirror, mirror_left, mirror_right, slot_by, whole_slot}
use Rattle.worlds.specs.declared.Lines.{Lines}
use Rattle.worlds.specs.Coherent.{Slotted}
use Rattle.worlds.specs.Kept.{sheet}
use Rattle.worlds.specs.Tables.{LinesOf, RowTables, SheetOf, SingleTypes, UsableTypes}

module _ (d : Diagram) (few : role_count d ≤ 32) where
  -- a role of the diagram has a slot
  own-slot : (e : ℕ) → e < role_count d → slot_by d d e < 32
  unfolding slot_by
  own-slot e l = let h = role-known d (role_name d e) e l (same_self (role_name d e)) in omega arith

  -- the slot of an association that asks, 0 of one that does not
  asked-slot : (on : Bool) (j e : ℕ) → (j < length d.associations → e < role_count d) → cond (both (ltb j (length d.associations)) on) (slot_by d d e) 0 < 32
  asked-slot on j e f = go (both (ltb j (length d.associations)) on) refl
    where
      go : (b : Bool) → both (ltb j (length d.associations)) on ≡ b → cond b (slot_by d d e) 0 < 32
      go true q = own-slot e (f (ltb-true _ _ (both_left (ltb j (length d.associations)) on q)))
      go false q = omega arith

  counted-below : (j : ℕ) → j < length d.associations → counted_end d d j < role_count d
  unfolding counted_end
  counted-below j l = go (counted_right (association_at d j).arrow)
    where
      go : (b : Bool) → cond b (j * 2 + 1) (j * 2) < length d.associations * 2
      go true = omega arith
      go false = omega arith

  pub lines-slotted : (x : Lines) → LinesOf d d x → Slotted x
  unfolding column_slot is_counted mirror_right mirror_left is_mirror whole_slot is_composed
  lines-slotted x is = record {
    column = λ j l. subst (λ (s : ℕ). s < 32) (sym (is.column-slot j l)) (asked-slot _ j (counted_end d d j) (counted-below j));
    right = λ j l. subst (λ (s : ℕ). s < 32) (sym (is.mirror-right j l)) (asked-slot _ j (j * 2 + 1) (λ h. omega arith));
    left = λ j l. subst (λ (s : ℕ). s < 32) (sym (is.mirror-left j l)) (asked-slot _ j (j * 2) (λ h. omega arith));
    whole = λ j l. subst (λ (s : ℕ). s < 32) (sym (is.whole-slot j l)) (asked-slot _ j (j * 2 + 1) (λ h. omega arith));
  }

module _ (old : StoredDiagram) (held : Held old) where
  pub own-slotted : (x : Lines) → LinesOf (diagram_of old) (diagram_of old) x → Slotted x
  own-slotted x is = lines-slotted (diagram_of old) (omega (arith, role-count old, held.counts.associations)) x is

  pub sheet-of : (usable singles : ℕ) (targets lows highs : List ℕ) (lines : Lines) → UsableTypes (diagram_of old) usable → SingleTypes (diagram_of old) (diagram_of old) singles
      → RowTables (diagram_of old) (diagram_of old) targets lows highs → LinesOf (diagram_of old) (diagram_of old) lines → SheetOf (diagram_of old) (sheet usable singles targets lows highs lines)
  sheet-of usable singles targets lows highs lines a b c d = record {
    few = omega (arith, type-count old, held.counts.types);
    usable = a;
    singles = b;
    rows = c;
    lines = d;
    slotted = own-slotted lines d;
  }
