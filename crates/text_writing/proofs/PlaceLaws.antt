-- The place of a name in a list of names is the index that the diagram has for it, among the types and among the value types.
-- Assumes nothing.
use Prim.Native.Nat.{◌<◌, ℕ}
use native.Mathlib.Omega.{arith}
use mathlib.Core.Bool.{Bool, false, true}
use mathlib.Core.List.{List, [], map}
use mathlib.Core.Logic.{⊎_elim}
use mathlib.Core.Path.{◌∙◌, ◌≡◌, ap, subst, sym}
use lib.ListN.{get_or-map, get_or, length, length-map}
use Rattle.laws.specs.Bounded.{any, first, tally}
use Rattle.laws.specs.Connective.{both}
use Rattle.laws.specs.Lists.{picked}
use Rattle.laws.proofs.BoundedLaws.{any_at, any-ext, any_none}
use Rattle.laws.proofs.ConnectiveLaws.{and-is-both, both_left, both-no-right, both_right, known}
use Rattle.laws.proofs.FirstLaws.{first_below, first-ext, first-hit, first_holds, first-least, first-none}
use Rattle.laws.proofs.CountLaws.{counted, tally-below}
use Rattle.laws.proofs.PickedLaws.{any-picked, length-picked, picked-at}
use Rattle.files.specs.Diagram.{ValueType}
use Rattle.files.specs.Name.{Name, same_name}
use Rattle.texts.specs.Declaration.{Declaration, declaration_at, is_type}
use Rattle.texts.specs.Declared.{type_first, type_index, types_before, value_type_index, value_types_of}
use Rattle.texts.specs.TextChecks.{names_of_kind}
use Rattle.text_checks.specs.ValueNames.{value_names}
use Rattle.text_checks.proofs.ValueNamesLaws.{value-names}
use Rattle.text_fields.specs.Fields.{place_in}

-- ---- the first element of a picked list that passes a test: as many stand before it as are picked before its index

module _ {A : Type 0} (t : A → Bool) (on : ℕ → Bool) (f : ℕ → A) (d : A) (n : ℕ) where
  abbrev listed-test : ℕ → Bool
  listed-test i = t (get_or (picked on f n) i d)

  abbrev index-test : ℕ → Bool
  index-test j = both (on j) (t (f j))

  -- none of those picked before the first passes
  none_before : first index-test n < n → any listed-test (tally on (first index-test n)) ≡ false
  none_before l =
      any_none listed-test (tally on (first index-test n)) (λ i h.
      let c = counted on (first index-test n) i h in
      let below : c.place < n = omega (arith, c.below) in
      ap (λ (k : ℕ). listed-test k) (sym c.count) ∙ ap t (picked-at on f d n c.place below c.holds)
      ∙ both-no-right (on c.place) (t (f c.place)) (first-least index-test n c.place c.below) c.holds)

  pub first-picked : first listed-test (length (picked on f n)) ≡ tally on (first index-test n)
  first-picked = ⊎_elim found none (known (any index-test n))
    where
      found : any index-test n ≡ true → first listed-test (length (picked on f n)) ≡ tally on (first index-test n)
      found e =
          let a = any_at index-test n e in
          let l : first index-test n < n = first_below index-test n a.0 a.1 a.2 in
          let h : index-test (first index-test n) ≡ true = first_holds index-test n l in
          let o : on (first index-test n) ≡ true = both_left (on (first index-test n)) (t (f (first index-test n))) h in
          let b : tally on (first index-test n) < tally on n = tally-below on (first index-test n) n l o in
          first-hit listed-test (length (picked on f n)) (tally on (first index-test n))
          (subst (λ (m : ℕ). tally on (first index-test n) < m) (sym (length-picked on f n)) b) (none_before l)
          (ap t (picked-at on f d n (first index-test n) l o) ∙ both_right (on (first index-test n)) (t (f (first index-test n))) h)

      none : any index-test n ≡ false → first listed-test (length (picked on f n)) ≡ tally on (first index-test n)
      none e =
          first-none listed-test (length (picked on f n))
          (any-picked t on f d n ∙ any-ext _ index-test n (λ i l. and-is-both (on i) (t (f i))) ∙ e)
          ∙ length-picked on f n ∙ ap (tally on) (sym (first-none index-test n e))

-- ---- names

pub place-type : (ds : List Declaration) (w : Name) → place_in (names_of_kind is_type ds) w ≡ type_index ds w
unfolding place_in type_index types_before type_first
place-type ds w =
    first-picked (λ v. same_name v w) (λ k. is_type (declaration_at ds k)) (λ k. (declaration_at ds k).name) [] (length ds)

pub place-value : (ds : List Declaration) (w : Name) → place_in (value_names ds) w ≡ value_type_index ds w
unfolding place_in value_type_index
place-value ds w =
    let vs = value_types_of ds in
    let name : ValueType → Name = λ v. v.name in
    ap (λ (ns : List Name). first (λ i. same_name (get_or ns i []) w) (length ns)) (value-names ds)
    ∙ ap (first (λ i. same_name (get_or (map name vs) i []) w)) (length-map vs name)
    ∙ first-ext _ _ (length vs) (λ i l. ap (λ (v : Name). same_name v w) (get_or-map name vs i (record { name = []; constants = [] })))
