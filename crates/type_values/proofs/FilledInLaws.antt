-- The values by numbers are those of a filled record.
-- Assumes nothing.
use Prim.Native.Nat.{◌%◌, ◌*◌, ◌+◌, ◌-◌, ◌/◌, ◌<◌, ℕ}
use native.Mathlib.Omega.{arith}
use mathlib.Core.Bool.{cond, false, true}
use mathlib.Core.List.{List}
use mathlib.Core.Logic.{◌≢◌, ⊎_elim}
use mathlib.Core.Path.{◌∙◌, ◌≡◌, ap, ap₂, refl, subst, sym}
use lib.Dec.{ltb}
use lib.ListN.{get_or, length}
use borrow.Author.Tests.{ltb-true}
use Rattle.laws.specs.Connective.{both}
use Rattle.laws.proofs.ConnectiveLaws.{both_left, both_right, known}
use Rattle.files.specs.Diagram.{Diagram}
use Rattle.files.specs.WellFormedDiagram.{WfDiagram}
use Rattle.diagrams.specs.declared.StoredDiagram.{StoredDiagram}
use Rattle.diagrams.specs.Held.{Held}
use Rattle.diagrams.specs.View.{diagram_of}
use Rattle.diagrams.proofs.ViewLaws.{type-count}
use Rattle.type_tables.specs.Due.{due}
use Rattle.type_tables.specs.TypeTables.{Dues}
use Rattle.type_values.specs.Filled.{Filled, chosen, chosen_code}
use Rattle.type_values.specs.Lacking.{first_lacking}
use Rattle.type_values.specs.Numbers.{chosen_in, value_at_in}
use Rattle.type_values.specs.Tables.{Lackings}
use Rattle.type_values.proofs.JoinedLaws.{due-known}

module _ (old new : Diagram) (wold : WfDiagram old) (dues firsts : List ℕ) (is : Dues old dues) (lacks : Lackings old new firsts) where
  chosen-in : (e : ℕ) → (e ≢ 0 → e ≢ 255 → e - 1 < length old.value_types) → chosen_in firsts e ≡ chosen old new e
  unfolding chosen_in chosen chosen_code
  chosen-in e within = ⊎_elim (λ b. ap (λ (f : ℕ). cond (both (ltb 0 e) (ltb e 13)) (1 + ((e - 1) * 8 + cond (ltb f 8) f 0)) 0) (first-is b)) (λ b. rw b refl) (known (both (ltb 0 e) (ltb e 13)))
    where
      first-is : both (ltb 0 e) (ltb e 13) ≡ true → get_or firsts (e - 1) 0 ≡ first_lacking old new (e - 1)
      first-is b =
          let low : 0 < e = ltb-true _ _ (both_left _ _ b) in
          let high : e < 13 = ltb-true _ _ (both_right _ _ b) in
          lacks.exact (e - 1) (within (λ z. omega arith) (λ z. omega arith))

  value_in : (types : List ℕ) (n o s : ℕ) → s < 32 → (o < n → get_or types o 0 < length old.types)
      → value_at_in dues firsts types n (o * 32 + s) ≡ cond (ltb o n) (chosen old new (due old (get_or types o 0) s)) 0
  unfolding value_at_in
  value_in types n o s small known-type =
      let a : (o * 32 + s) / 32 ≡ o = omega arith in
      let b : (o * 32 + s) % 32 ≡ s = omega arith in
      ap₂ (λ (i j : ℕ). cond (ltb i n) (chosen_in firsts (get_or dues (get_or types i 0 * 32 + j) 0)) 0) a b
      ∙ ⊎_elim
      (λ l.
      let t : ℕ = get_or types o 0 in
      ap (λ (v : ℕ). cond (ltb o n) v 0) (ap (chosen_in firsts) (is.exact t s (known-type (ltb-true _ _ l)) small) ∙ chosen-in (due old t s) (due-known old wold t s).type-known))
      (λ l. rw l refl) (known (ltb o n))

pub filled-made : (old new : StoredDiagram) (dues firsts types links values : List ℕ) (n w : ℕ) → Held old → Dues (diagram_of old) dues
    → Lackings (diagram_of old) (diagram_of new) firsts → ((o : ℕ) → o < n → get_or types o 0 < old.types.count)
    → ((x : ℕ) → x < 256 → get_or values x 0 ≡ value_at_in dues firsts types n x) → w ≡ n
    → Filled (diagram_of old) (diagram_of new) types links n
    (record { count = w; types = types; values = values; links = links; strays = record { values = false; links = false } })
filled-made old new dues firsts types links values n w held is lacks known-type f e = record {
  count-is = e;
  types_are = refl;
  values-are = λ o s l small.
      let below : o * 32 + s < 256 = omega arith in
      f (o * 32 + s) below
      ∙ value_in (diagram_of old) (diagram_of new) held.wf dues firsts is lacks types n o s small (λ k. subst (λ (i : ℕ). get_or types o 0 < i) (sym (type-count old)) (known-type o k));
  links-are = refl;
  stray-values = refl;
  stray-links = refl;
}
