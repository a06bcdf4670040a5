-- The table of numbers is the one of the diagram: a kept set has what is reached, and a slot is its name's. And the ways out of
-- the functions that make it, one law for each.
-- Assumes nothing.
use Prim.Native.Nat.{◌%◌, ◌*◌, ◌+◌, ◌/◌, ◌<◌, ◌≤◌, suc, zero, ℕ}
use native.Mathlib.Nat.{le_of_suc-le, le_refl}
use native.Mathlib.Numerals.{add-one}
use native.Mathlib.Omega.{arith}
use mathlib.Core.Bool.{Bool, cond, false, true}
use mathlib.Core.List.{List}
use mathlib.Core.Logic.{◌≢◌}
use mathlib.Core.Path.{◌∙◌, ◌≡◌, ap, ap₂, refl, subst, sym}
use lib.Dec.{eqb}
use lib.ListN.{get_or}
use borrow.Author.Tests.{eq-eqb, ne_eqb}
use Rattle.laws.specs.Bits.{bit}
use Rattle.laws.specs.Connective.{both}
use Rattle.files.specs.Diagram.{attribute_at}
use Rattle.diagrams.specs.declared.StoredDiagram.{StoredDiagram}
use Rattle.diagrams.specs.View.{diagram_of}
use Rattle.diagrams.specs.Held.{Held}
use Rattle.diagrams.proofs.ViewLaws.{attribute-count, type-count}
use Rattle.tables.specs.Tables.{AttributeSlots}
use Rattle.diagrams.proofs.FirstSetLaws.{set-reaches}
use Rattle.tables.proofs.TableLaws.{attribute-owner, attribute-type}
use Rattle.type_tables.specs.Due.{declares_for, due, due_among, joined}
use Rattle.type_tables.specs.TypeTables.{Dues}
use Rattle.type_tables.specs.ValuesIn.{declares_in, due_at, due_in, due_more}

-- ---- the ways out

pub joined-first : {e : ℕ} (v : ℕ) → e ≡ 0 → 1 + v ≡ joined e v
unfolding joined
joined-first {e} v z = rw z refl

pub joined-again : {e : ℕ} (v : ℕ) → e ≢ 0 → e ≡ 1 + v → e ≡ joined e v
unfolding joined
joined-again {e} v n q = sym (ap₂ (λ (a b : Bool). cond a (1 + v) (cond b e 255)) (ne_eqb e 0 n) (eq-eqb e (1 + v) q))

pub joined-apart : {e : ℕ} (v : ℕ) → e ≢ 0 → e ≢ 1 + v → 255 ≡ joined e v
unfolding joined
joined-apart {e} v n q = sym (ap₂ (λ (a b : Bool). cond a (1 + v) (cond b e 255)) (ne_eqb e 0 n) (ne_eqb e (1 + v) q))

module _ (set : ℕ) (owners types slots : List ℕ) (s : ℕ) where
  pub more-declared : (a e : ℕ) {b : Bool} {w v x : ℕ} → b ≡ declares_in set owners slots s a → b ≡ true → w ≡ a → v ≡ get_or types w 0 → x ≡ joined e v
      → x ≡ due_more set owners types slots s a e
  unfolding due_more
  more-declared a e q t w v x =
      x ∙ ap (joined e) (v ∙ ap (λ (k : ℕ). get_or types k 0) w) ∙ sym (ap (λ (b : Bool). cond b (joined e (get_or types a 0)) e) (sym q ∙ t))

  pub more-other : (a e : ℕ) {b : Bool} → b ≡ declares_in set owners slots s a → b ≡ false → e ≡ due_more set owners types slots s a e
  unfolding due_more
  more-other a e q t = sym (ap (λ (b : Bool). cond b (joined e (get_or types a 0)) e) (sym q ∙ t))

  pub due-begin : 0 ≡ due_in set owners types slots s 0
  unfolding due_in
  due-begin = refl

  pub due-next : (a : ℕ) {e x : ℕ} → e ≡ due_in set owners types slots s a → x ≡ due_more set owners types slots s a e → x ≡ due_in set owners types slots s (a + 1)
  unfolding due_in
  due-next a q x = x ∙ ap (due_more set owners types slots s a) q ∙ ap (due_in set owners types slots s) (sym (add-one a))

-- ---- the diagram's

module _ (d : StoredDiagram) (held : Held d) where
  -- value types are few
  pub types-small : (a : ℕ) → a < d.attributes.count → get_or d.attributes.types a 0 < 255
  types-small a l =
      let few = held.wf.few-value-types in
      let known = (held.wf.attribute a (subst (λ (n : ℕ). a < n) (sym (attribute-count d)) l)).value-type-known in
      let e = attribute-type d a l in
      omega arith

  module _ (slots : List ℕ) (at : AttributeSlots (diagram_of d) slots) (t s : ℕ) (known : t < d.types.count) where
    declares-is : (a : ℕ) → a < d.attributes.count → declares_in (get_or d.types.sets t 0) d.attributes.owners slots s a ≡ declares_for (diagram_of d) t s a
    unfolding declares_in declares_for
    declares-is a l =
        ap₂ both
        (ap (λ (k : ℕ). bit k (get_or d.types.sets t 0)) (sym (attribute-owner d a l)) ∙ set-reaches d held t (attribute_at (diagram_of d) a).owner known)
        (ap (λ (k : ℕ). eqb k s) (at.exact a (subst (λ (n : ℕ). a < n) (sym (attribute-count d)) l)))

    among-is : (n : ℕ) → n ≤ d.attributes.count → due_in (get_or d.types.sets t 0) d.attributes.owners d.attributes.types slots s n ≡ due_among (diagram_of d) t s n
    unfolding due_in due_more due_among
    among-is zero l = refl
    among-is (suc n) l =
        let below : n < d.attributes.count = l in
        let b = declares-is n below in
        let e = among-is n (le_of_suc-le l) in
        let v = attribute-type d n below in
        cc

  pub dues-are : (slots dues : List ℕ) (n end : ℕ) → AttributeSlots (diagram_of d) slots → n ≡ d.attributes.count → end ≡ d.types.count * 32
      → ((x : ℕ) → x < end → get_or dues x 0 ≡ due_at d.types.sets d.attributes.owners d.attributes.types slots n x)
      → Dues (diagram_of d) dues
  unfolding due
  dues-are slots dues n end at count most f = record {
    exact = λ t s l small.
        let known : t < d.types.count = subst (λ (k : ℕ). t < k) (type-count d) l in
        let below : t * 32 + s < end = omega arith in
        let a : (t * 32 + s) / 32 ≡ t = omega arith in
        let b : (t * 32 + s) % 32 ≡ s = omega arith in
        f (t * 32 + s) below
        ∙ ap₂ (λ (i k : ℕ). due_in (get_or d.types.sets i 0) d.attributes.owners d.attributes.types slots k n) a b
        ∙ ap (due_in (get_or d.types.sets t 0) d.attributes.owners d.attributes.types slots s) count
        ∙ among-is slots at t s known d.attributes.count (le_refl d.attributes.count) ∙ ap (due_among (diagram_of d) t s) (sym (attribute-count d));
  }
