-- What is found by names in the arrays of two diagrams in memory is what is found by names in the diagrams.
-- Assumes nothing.
use Prim.Native.Nat.{◌*◌, ◌<◌, ◌≤◌, ℕ}
use native.Mathlib.Omega.{arith}
use mathlib.Core.Bool.{Bool, ◌&&◌}
use mathlib.Core.List.{List}
use mathlib.Core.Path.{◌∙◌, ◌≡◌, ap, ap₂, sym}
use lib.Dec.{eqb}
use lib.ListN.{get_or}
use borrow.Author.Tests.{le-ltb, lt-ltb}
use Rattle.laws.specs.Bits.{Marks, bit}
use Rattle.laws.specs.Bounded.{any}
use Rattle.laws.specs.Connective.{both}
use Rattle.laws.proofs.BoundedLaws.{any-ext}
use Rattle.files.specs.Ancestor.{reaches}
use Rattle.files.specs.Diagram.{type_at}
use Rattle.fields.specs.Slot.{slot_name, slot_of}
use Rattle.diagrams.specs.declared.StoredDiagram.{StoredDiagram}
use Rattle.diagrams.specs.View.{diagram_of}
use Rattle.diagrams.specs.Held.{Held}
use Rattle.diagrams.proofs.ViewLaws.{type-count}
use Rattle.diagrams.proofs.NamedLaws.{role-count, role-named}
use Rattle.records.specs.Slots.{role_name, type_index}
use Rattle.resolving.proofs.LookupLaws.{role-slot}
use Rattle.diagrams.proofs.FirstSetLaws.{set-reaches}
use Rattle.type_tables.specs.RowsIn.{is_subtype}
use Rattle.type_tables.specs.TypeTables.{TypePlaces}
use Rattle.views.specs.Views.{counts_as, slot_by}
use Rattle.sheets.specs.Named.{SlotsBy, SubtypesBy}
use Rattle.sheets.specs.NamedIn.{is_image}

module _ (old d : StoredDiagram) where
  pub slots-are : (r : List ℕ) → Held old
      → ((e : ℕ) → e < d.associations.count * 2 → get_or r e 0 ≡ slot_of old.associations.roles (old.associations.count * 2) (slot_name d.associations.roles e))
      → ((e : ℕ) → get_or r e 0 ≤ old.associations.count * 2) → SlotsBy (diagram_of old) (diagram_of d) r
  unfolding slot_by role_name
  slots-are r held f g = record {
    exact = λ e l.
        let h : e < d.associations.count * 2 = omega (arith, role-count d) in
        f e h ∙ ap (slot_of old.associations.roles (old.associations.count * 2)) (sym (role-named d e h)) ∙ sym (role-slot old (role_name (diagram_of d) e));
    few = λ e. omega (arith, g e, held.counts.associations);
  }

  module _ (held : Held d) (images : List ℕ) (found : TypePlaces (diagram_of d) (diagram_of old) images) where
    image-counts : (x t : ℕ) → is_image images (is_subtype d.types.sets x) d.types.count t ≡ counts_as (diagram_of old) (diagram_of d) x t
    unfolding is_image is_subtype counts_as
    image-counts x t =
        any-ext (λ i. both (eqb (get_or images i 0) t) (bit x (get_or d.types.sets i 0))) (λ i. both (eqb (type_index (diagram_of old) (type_at (diagram_of d) i).name) t) (reaches (diagram_of d) i x))
        d.types.count (λ i l.
        ap₂ both (ap (λ (k : ℕ). eqb k t) (found.exact i (omega (arith, type-count d)))) (set-reaches d held i x l))
        ∙ ap (any (λ i. both (eqb (type_index (diagram_of old) (type_at (diagram_of d) i).name) t) (reaches (diagram_of d) i x))) (sym (type-count d))

    pub subtypes-are : (r : List ℕ)
        → ((x : ℕ) → x < d.types.count → Marks (is_image images (is_subtype d.types.sets x) d.types.count) old.types.count (get_or r x 0))
        → SubtypesBy (diagram_of old) (diagram_of d) r
    subtypes-are r f = record {
      exact = λ x t lx lt.
          let h : x < d.types.count = omega (arith, type-count d) in
          let k : t < old.types.count = omega (arith, type-count old) in
          f x h t ∙ ap (λ (b : Bool). b && is_image images (is_subtype d.types.sets x) d.types.count t) (lt-ltb t old.types.count k) ∙ image-counts x t;
      none = λ x t lx lt.
          let h : x < d.types.count = omega (arith, type-count d) in
          let k : old.types.count ≤ t = omega (arith, type-count old) in
          f x h t ∙ ap (λ (b : Bool). b && is_image images (is_subtype d.types.sets x) d.types.count t) (le-ltb t old.types.count k);
    }
