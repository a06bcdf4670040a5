-- The names of the value types, collected: the attribute types of one declaration, and the loop over all.
-- Assumes nothing.
use mathlib.Core.Path.{◌≡◌, ap, ap₂, refl, subst, sym, ◌∙◌}
use mathlib.Core.Bool.{Bool, false, not, true}
use mathlib.Core.List.{List, [], ◌∷◌, ◌++◌, append-nil}
use Prim.Native.Nat.{ℕ, ◌+◌, ◌<◌, ◌≤◌}
use native.Mathlib.Numerals.{add-one}
use native.Mathlib.Omega.{arith}
use lib.ListN.{drop, drop_of_length-le, get_or, length, take}
use lib.Seq.{drop-cons, take_all}
use Rattle.laws.specs.Bounded.{any}
use Rattle.laws.specs.Lists.{joined, only}
use Rattle.laws.proofs.JoinedLaws.{joined-more}
use Rattle.laws.proofs.PickedLaws.{member-any}
use Rattle.files.specs.Name.{Name, same_name}
use Rattle.texts.specs.Declaration.{Declaration, declaration_at, is_enumeration}
use Rattle.texts.specs.Declared.{used_types}
use Rattle.texts.specs.WellFormedDeclaration.{ShortNames}
use Rattle.texts.specs.TextChecks.{names_of_kind}
use Rattle.text_rows.specs.RowAt.{declarations_by}
use Rattle.text_outlines.specs.declared.Outlined.{Outlined}
use Rattle.text_outlines.specs.Outline.{Outlines}
use Rattle.name_lists.specs.declared.list.Names.{Names}
use Rattle.name_lists.specs.Names.{names_in}
use Rattle.name_lists.proofs.NamesLaws.{names-length}
use Rattle.text_parts.specs.declared.Kind.TheVariants.{Enumerations}
use Rattle.text_parts.specs.Sort.{of_kind}
use Rattle.text_checks.specs.ValueNames.{value_names, with_name, with_names}
use Rattle.text_checks.proofs.CountedLaws.{types_at}
use Rattle.text_checks.proofs.OutlineLaws.{outline-end}
use Rattle.text_checks.proofs.WithNamesLaws.{front_kept, front-with, has, with_append, with-name-is}

-- ---- the attribute types of one declaration

found_is : (r : Names) (w : Name) → any (λ j. same_name (get_or (names_in r) j []) w) r.count ≡ has (names_in r) w
found_is r w = ap (any (λ j. same_name (get_or (names_in r) j []) w)) (sym (names-length r)) ∙ member-any (λ v. same_name v w) [] (names_in r)

pub type-short : (ws : List Name) (i : ℕ) {w : Name} → ((k : ℕ) → length (get_or ws k []) ≤ 16) → w ≡ get_or ws i [] → length w ≤ 16
type-short ws i f e = subst (λ (x : Name). length x ≤ 16) (sym e) (f i)

-- i of the names ws are added to those of r₀, which gives those of r
pub record Taken (ws : List Name) (n : ℕ) (r₀ : Names) (i : ℕ) (r : Names) : Type 0 where
  pub up_to : i ≤ n
  pub few : r.count ≤ 13
  pub same : with_names (names_in r₀) ws ≡ with_names (names_in r) (drop i ws)

pub taken-begin : (ws : List Name) (n : ℕ) (r₀ : Names) → r₀.count ≤ 13 → Taken ws n r₀ 0 r₀
taken-begin ws n r₀ h = record { up_to = omega arith; few = h; same = refl }

module _ {ws : List Name} {n : ℕ} {r₀ : Names} {i : ℕ} {r : Names} (t : Taken ws n r₀ i r) where
  taken_next : {w : Name} {b : Bool} {r' : Names} → n ≡ length ws → i < n → (r.count ≡ 13 → ⊥) → w ≡ get_or ws i []
      → b ≡ any (λ j. same_name (get_or (names_in r) j []) w) r.count → names_in r' ≡ names_in r ++ only (not b) w → r'.count ≤ r.count + 1
      → Taken ws n r₀ (i + 1) r'
  unfolding with_names
  taken_next {w} {b} {r'} m h u e q a c =
      let l : i < length ws = omega arith in
      let next : drop i ws ≡ w ∷ drop (i + 1) ws = drop-cons ws i [] l ∙ ap₂ (λ (x : Name) (k : ℕ). x ∷ drop k ws) (sym e) (sym (add-one i)) in
      let on : not b ≡ not (has (names_in r) w) = ap not (q ∙ found_is r w) in
      let is : with_name (names_in r) w ≡ names_in r' = with-name-is (names_in r) w ∙ ap (λ (b : Bool). names_in r ++ only b w) (sym on) ∙ sym a in
      record {
        up_to = omega arith;
        few = omega (arith, t.few);
        same = t.same ∙ ap (with_names (names_in r)) next ∙ ap (λ (xs : List Name). with_names xs (drop (i + 1) ws)) is;
      }

  -- as the code adds the name, or passes it
  module _ {w : Name} {b : Bool} (m : n ≡ length ws) (h : i < n) (u : r.count ≡ 13 → ⊥) (e : w ≡ get_or ws i [])
      (q : b ≡ any (λ j. same_name (get_or (names_in r) j []) w) r.count) where
    pub taken-push : {r' : Names} → b ≡ false → names_in r' ≡ names_in r ++ (w ∷ []) → r'.count ≡ r.count + 1 → Taken ws n r₀ (i + 1) r'
    taken-push {r'} g a c = taken_next m h u e q (a ∙ ap (λ (b : Bool). names_in r ++ only b w) (sym (ap not g))) (omega arith)

    pub taken-pass : b ≡ true → Taken ws n r₀ (i + 1) r
    taken-pass g = taken_next m h u e q (sym (append-nil (names_in r)) ∙ ap (λ (b : Bool). names_in r ++ only b w) (sym (ap not g))) (omega arith)

  pub taken-full : r.count ≡ 13 → names_in r ≡ take 13 (with_names (names_in r₀) ws)
  taken-full e =
      let a : length (names_in r) ≤ 13 = omega (arith, names-length r) in
      let b : 13 ≤ length (names_in r) = omega (arith, names-length r) in
      sym (take_all 13 (names_in r) a) ∙ sym (front_kept 13 (names_in r) (drop i ws) b) ∙ ap (take 13) (sym t.same)

  pub taken-done : n ≡ length ws → n ≤ i → names_in r ≡ take 13 (with_names (names_in r₀) ws)
  unfolding with_names
  taken-done m h =
      let a : length (names_in r) ≤ 13 = omega (arith, names-length r, t.few) in
      let past : length ws ≤ i = omega arith in
      sym (take_all 13 (names_in r) a) ∙ ap (take 13) (sym (t.same ∙ ap (with_names (names_in r)) (drop_of_length-le ws past)))

-- ---- all declarations

-- what stands where the outline leads to has as many attributes as the outline tells, and short types
pub types-counted : (body : List ℕ) (k : ℕ) (d : Declaration) {a : ℕ} → d ≡ declaration_at (declarations_by body) k
    → a ≡ length (declaration_at (declarations_by body) k).attribute_types → a ≡ length d.attribute_types
types-counted body k d e f = f ∙ ap (λ (x : Declaration). length x.attribute_types) (sym e)

pub types-short : (body : List ℕ) (k : ℕ) (d : Declaration) → ShortNames (declarations_by body) → d ≡ declaration_at (declarations_by body) k
    → (i : ℕ) → length (get_or d.attribute_types i []) ≤ 16
types-short body k d f e i = subst (λ (x : Declaration). length (get_or x.attribute_types i []) ≤ 16) (sym e) ((f.each k).attribute_types i)

-- the names with the attribute types of the first k declarations
abbrev pub values_to : List ℕ → ℕ → List Name
values_to body k = with_names (names_of_kind is_enumeration (declarations_by body)) (joined (types_at body) k)

module _ (body : List ℕ) where
  pub valued-begin : {ns : List Name} → ns ≡ take 13 (names_of_kind (of_kind Enumerations) (declarations_by body)) → ns ≡ take 13 (values_to body 0)
  unfolding with_names joined
  valued-begin q = q

  module _ (k : ℕ) {ns : List Name} (e : ns ≡ take 13 (values_to body k)) where
    pub valued-next : (d : Declaration) {ms : List Name} → d ≡ declaration_at (declarations_by body) k → ms ≡ take 13 (with_names ns d.attribute_types)
        → ms ≡ take 13 (values_to body (k + 1))
    valued-next d i q =
        let types : d.attribute_types ≡ types_at body k = ap (λ (x : Declaration). x.attribute_types) i in
        let enums : List Name = names_of_kind is_enumeration (declarations_by body) in
        q ∙ ap₂ (λ (xs ws : List Name). take 13 (with_names xs ws)) e types ∙ front-with 13 (values_to body k) (types_at body k)
        ∙ ap (take 13) (sym (with_append enums (joined (types_at body) k) (types_at body k)) ∙ ap (with_names enums) (sym (joined-more (types_at body) k)))

    pub valued-done : {o : List Outlined} {n : ℕ} → Outlines body o n → k ≤ n → n ≤ k → ns ≡ take 13 (value_names (declarations_by body))
    unfolding value_names used_types
    valued-done t h l = e ∙ ap (λ (i : ℕ). take 13 (values_to body i)) (outline-end t h l)
