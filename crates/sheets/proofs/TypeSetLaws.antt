-- The sets of types in memory are those of the diagrams.
-- Assumes nothing.
use Prim.Native.Nat.{◌*◌, ◌+◌, ◌<◌, ℕ}
use native.Mathlib.Nat.{le_refl}
use native.Mathlib.Omega.{arith}
use mathlib.Core.Bool.{Bool, ◌&&◌, ◌||◌, cond, false, not, true}
use mathlib.Core.List.{List}
use mathlib.Core.Path.{◌∙◌, ◌≡◌, ap, ap₂, refl, subst, sym}
use lib.Bits.{bit_or}
use lib.Dec.{eqb, leb, ltb}
use lib.ListN.{get_or, length}
use borrow.Author.Tests.{le-ltb, lt-ltb, ltb-true}
use Rattle.laws.specs.Bits.{Marks, bit}
use Rattle.laws.specs.Bounded.{any}
use Rattle.laws.specs.Connective.{both, either}
use Rattle.laws.proofs.BitLaws.{bit-or, bit-zero}
use Rattle.laws.proofs.BoundedLaws.{all-ext, any-ext, any-more}
use Rattle.laws.proofs.ConnectiveLaws.{both-turned}
use Rattle.files.specs.Diagram.{End, is_concrete, is_singleton, type_at}
use Rattle.diagrams.specs.declared.StoredDiagram.{StoredDiagram}
use Rattle.diagrams.specs.View.{diagram_of, end_in}
use Rattle.diagrams.specs.Held.{Held}
use Rattle.diagrams.proofs.ViewLaws.{type-count}
use Rattle.diagrams.proofs.NamedLaws.{role-count}
use Rattle.records.specs.Slots.{type_index}
use Rattle.type_tables.specs.Due.{due}
use Rattle.type_tables.specs.Rows.{carried_to, end_at, opposite}
use Rattle.type_tables.specs.TypeTables.{Dues, TypePlaces}
use Rattle.type_tables.proofs.EndAtLaws.{end-at}
use Rattle.type_tables.proofs.StoredLaws.{stored-kinds}
use Rattle.views.specs.Views.{counts_as, slot_by}
use Rattle.worlds.specs.Tables.{MissingLinks, SingleTypes, UsableTypes, links_missing, possible, single_by, single_missing}
use Rattle.sheets.specs.Named.{EndsBy, SlotsBy}
use Rattle.sheets.specs.NamedIn.{is_image}
use Rattle.sheets.specs.MasksBy.{fine_in, missing_in, single_in, usable_in}
use Rattle.sheets.specs.RowsBy.{source_in}
use Rattle.sheets.proofs.EndLaws.{source_is}
use Rattle.sheets.proofs.ImageLaws.{images-by}

-- ---- in general

bit-if : (t : ℕ) (b : Bool) (m : ℕ) → bit t (cond b m 0) ≡ both b (bit t m)
unfolding both
bit-if t true m = refl
bit-if t false m = bit-zero t

sorted : (a b c n : Bool) → both (both a b) (both c n) ≡ both c (both a (both n b))
unfolding both
sorted true true true n = both_true n
  where
    both_true : (n : Bool) → n ≡ both n true
    both_true true = refl
    both_true false = refl
sorted true true false n = refl
sorted true false true true = refl
sorted true false true false = refl
sorted true false false n = refl
sorted false b true n = refl
sorted false b false n = refl

-- ---- one end that is asked for and has no slot

module _ (sets arrows slots lows : List ℕ) where
  pub missing-yes : (e : ℕ) {w v : ℕ} → w ≡ e → leb 32 (get_or slots w 0) && ltb 0 (get_or lows w 0) ≡ true → v ≡ source_in sets arrows e → v ≡ missing_in sets arrows slots lows e
  unfolding missing_in both
  missing-yes e {w} {v} f q r =
      let t : both (leb 32 (get_or slots e 0)) (ltb 0 (get_or lows e 0)) ≡ true = subst (λ (i : ℕ). both (leb 32 (get_or slots i 0)) (ltb 0 (get_or lows i 0)) ≡ true) f q in
      r ∙ sym (ap (λ (b : Bool). cond b (source_in sets arrows e) 0) t)

  pub missing-no : (e : ℕ) {w : ℕ} → w ≡ e → leb 32 (get_or slots w 0) && ltb 0 (get_or lows w 0) ≡ false → 0 ≡ missing_in sets arrows slots lows e
  unfolding missing_in both
  missing-no e {w} f q =
      let t : both (leb 32 (get_or slots e 0)) (ltb 0 (get_or lows e 0)) ≡ false = subst (λ (i : ℕ). both (leb 32 (get_or slots i 0)) (ltb 0 (get_or lows i 0)) ≡ false) f q in
      sym (ap (λ (b : Bool). cond b (source_in sets arrows e) 0) t)

-- ---- a fold that joins masks

module _ (f : ℕ → ℕ) where
  pub joined-begin : (t : ℕ) → bit t 0 ≡ any (λ e. bit t (f e)) 0
  unfolding any
  joined-begin t = bit-zero t

  pub joined-next : (e mask r : ℕ) → r ≡ bit_or mask (f e) → ((t : ℕ) → bit t mask ≡ any (λ e. bit t (f e)) e) → (t : ℕ) → bit t r ≡ any (λ e. bit t (f e)) (e + 1)
  joined-next e mask r q so t = ap (bit t) q ∙ bit-or t mask (f e) ∙ ap (λ (a : Bool). a || bit t (f e)) (so t) ∙ sym (any-more (λ e. bit t (f e)) e)

-- ---- the diagrams

module _ (old : StoredDiagram) where
  usable_at : (dues : List ℕ) → Dues (diagram_of old) dues → (t : ℕ) → t < length (diagram_of old).types
      → usable_in old.types.kinds dues t ≡ both (is_concrete (type_at (diagram_of old) t)) (possible (diagram_of old) t)
  unfolding usable_in fine_in is_concrete possible
  usable_at dues is t l =
      ap₂ both (ap (λ (k : ℕ). either (eqb k 0) (eqb k 3)) ((stored-kinds old).exact t l))
      (all-ext (λ s. not (eqb (get_or dues (t * 32 + s) 0) 255)) (λ s. not (eqb (due (diagram_of old) t s) 255)) 32
      (λ s ls. ap (λ (v : ℕ). not (eqb v 255)) (is.exact t s l ls)))

  pub usable-are : (dues : List ℕ) (mask : ℕ) → Dues (diagram_of old) dues → Marks (usable_in old.types.kinds dues) old.types.count mask → UsableTypes (diagram_of old) mask
  unfolding both
  usable-are dues mask is so = record { at = λ t. so t ∙ ap (λ (n : ℕ). ltb t n && usable_in old.types.kinds dues t) (sym (type-count old)) ∙ go t (ltb t (length (diagram_of old).types)) refl }
    where
      go : (t : ℕ) (b : Bool) → ltb t (length (diagram_of old).types) ≡ b → b && usable_in old.types.kinds dues t ≡ both b (both (is_concrete (type_at (diagram_of old) t)) (possible (diagram_of old) t))
      go t true e = usable_at dues is t (ltb-true _ _ e)
      go t false e = refl

module _ (old d : StoredDiagram) (images : List ℕ) (found : TypePlaces (diagram_of d) (diagram_of old) images) where
  single-image : (t : ℕ) → is_image images (single_in d.types.kinds) d.types.count t ≡ single_by (diagram_of old) (diagram_of d) t
  unfolding is_image single_in single_by is_singleton
  single-image t =
      any-ext (λ i. both (eqb (get_or images i 0) t) (eqb (get_or d.types.kinds i 0) 3)) (λ i. both (eqb (type_at (diagram_of d) i).kind 3) (eqb (type_index (diagram_of old) (type_at (diagram_of d) i).name) t)) d.types.count
      (λ i l.
      let h : i < length (diagram_of d).types = omega (arith, type-count d) in
      ap₂ both (ap (λ (k : ℕ). eqb k t) (found.exact i h)) (ap (λ (k : ℕ). eqb k 3) ((stored-kinds d).exact i h))
      ∙ both-turned (eqb (type_index (diagram_of old) (type_at (diagram_of d) i).name) t) (eqb (type_at (diagram_of d) i).kind 3))
      ∙ ap (any (λ i. both (eqb (type_at (diagram_of d) i).kind 3) (eqb (type_index (diagram_of old) (type_at (diagram_of d) i).name) t))) (sym (type-count d))

  -- of k types
  pub single-bit : (chosen k mask : ℕ) → Marks (single_in d.types.kinds) d.types.count chosen → Marks (is_image images (λ i. bit i chosen) d.types.count) k mask
      → (t : ℕ) → bit t mask ≡ ltb t k && single_by (diagram_of old) (diagram_of d) t
  single-bit chosen k mask f g t =
      images-by images (single_in d.types.kinds) d.types.count d.types.count k chosen mask (le_refl d.types.count) f g t
      ∙ ap (λ (b : Bool). ltb t k && b) (single-image t)

module _ (old d : StoredDiagram) where
  pub singles-are : (mask : ℕ) → ((t : ℕ) → bit t mask ≡ ltb t old.types.count && single_by (diagram_of old) (diagram_of d) t)
      → SingleTypes (diagram_of old) (diagram_of d) mask
  singles-are mask f = record {
    at = λ t l. f t ∙ ap (λ (b : Bool). b && single_by (diagram_of old) (diagram_of d) t) (lt-ltb t old.types.count (omega (arith, type-count old)));
    none = λ t l. f t ∙ ap (λ (b : Bool). b && single_by (diagram_of old) (diagram_of d) t) (le-ltb t old.types.count (omega (arith, type-count old)));
  }

  -- the name that no type has is past the last of them
  pub missing-is : (mask : ℕ) → ((t : ℕ) → bit t mask ≡ ltb t (old.types.count + 1) && single_by (diagram_of old) (diagram_of d) t)
      → bit old.types.count mask ≡ single_missing (diagram_of old) (diagram_of d)
  unfolding single_missing
  missing-is mask f =
      f old.types.count
      ∙ ap (λ (b : Bool). b && single_by (diagram_of old) (diagram_of d) old.types.count) (lt-ltb old.types.count (old.types.count + 1) (omega arith))
      ∙ ap (single_by (diagram_of old) (diagram_of d)) (sym (type-count old))

module _ (old d : StoredDiagram) (held : Held d) (sets slots : List ℕ) (ends : EndsBy (diagram_of old) (diagram_of d) sets) (found : SlotsBy (diagram_of old) (diagram_of d) slots) where
  end-limit : (e : ℕ) → e < d.associations.count * 2 → (end_at (diagram_of d) e).limits.low ≡ get_or d.associations.lows e 0
  unfolding end_in
  end-limit e l = ap (λ (x : End). x.limits.low) (end-at d e l)

  missing_at : (e t : ℕ) → e < d.associations.count * 2 → t < length (diagram_of old).types
      → bit t (missing_in sets d.associations.arrows slots d.associations.lows e)
      ≡ both (carried_to (diagram_of d) e) (both (leb 32 (slot_by (diagram_of old) (diagram_of d) e)) (both (counts_as (diagram_of old) (diagram_of d) (end_at (diagram_of d) (opposite (diagram_of d) e)).type t) (ltb 0 (end_at (diagram_of d) e).limits.low)))
  unfolding missing_in
  missing_at e t le lt =
      bit-if t (both (leb 32 (get_or slots e 0)) (ltb 0 (get_or d.associations.lows e 0))) (source_in sets d.associations.arrows e)
      ∙ ap₂ both (ap₂ both (ap (leb 32) (found.exact e (omega (arith, role-count d)))) (ap (ltb 0) (sym (end-limit e le)))) (source_is old d held sets slots ends found e t le lt)
      ∙ sorted (leb 32 (slot_by (diagram_of old) (diagram_of d) e)) (ltb 0 (end_at (diagram_of d) e).limits.low) (carried_to (diagram_of d) e)
      (counts_as (diagram_of old) (diagram_of d) (end_at (diagram_of d) (opposite (diagram_of d) e)).type t)

  pub missing-are : (mask : ℕ) → ((t : ℕ) → bit t mask ≡ any (λ e. bit t (missing_in sets d.associations.arrows slots d.associations.lows e)) (d.associations.count * 2))
      → MissingLinks (diagram_of old) (diagram_of d) mask
  unfolding links_missing
  missing-are mask f = record {
    at = λ t lt.
        f t ∙ any-ext _ (missing t) (d.associations.count * 2) (λ e le. missing_at e t le lt) ∙ ap (any (missing t)) (sym (role-count d));
  }
    where
      missing : ℕ → ℕ → Bool
      missing t e = both (carried_to (diagram_of d) e) (both (leb 32 (slot_by (diagram_of old) (diagram_of d) e)) (both (counts_as (diagram_of old) (diagram_of d) (end_at (diagram_of d) (opposite (diagram_of d) e)).type t) (ltb 0 (end_at (diagram_of d) e).limits.low)))
