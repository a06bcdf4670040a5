-- The names collected are those of the value types that a text declares: the enumerations, then each attribute type at its first use.
-- Assumes nothing.
use mathlib.Core.Path.{◌≡◌, ap, ap₂, refl, sym, ◌∙◌}
use mathlib.Core.Bool.{Bool, false, not, true, ◌||◌}
use mathlib.Core.List.{List, [], ◌∷◌, ◌++◌, append_assoc, append-nil, map}
use Prim.Native.Nat.{ℕ, suc, zero, ◌<◌, ◌≤◌}
use native.Mathlib.Nat.{le_refl}
use native.Mathlib.Omega.{arith}
use lib.ListN.{get_or, length, take}
use lib.Seq.{get_or-take, length-take-le, take_all}
use Rattle.laws.specs.Bounded.{any}
use Rattle.laws.specs.Connective.{both}
use Rattle.laws.specs.Lists.{only, picked}
use Rattle.laws.proofs.BoundedLaws.{any-ext}
use Rattle.laws.proofs.ConnectiveLaws.{and-is-both}
use Rattle.laws.proofs.PickedLaws.{member-any, member-picked}
use Rattle.files.specs.Diagram.{ValueType}
use Rattle.files.specs.Name.{Name, same_name}
use Rattle.texts.specs.Declaration.{Declaration, declaration_at, is_enumeration}
use Rattle.texts.specs.Declared.{enumerations, is_enumeration_name, is_plain_use, plain_types, used_types, value_types_of}
use Rattle.texts.specs.TextChecks.{names_of_kind}
use Rattle.text_checks.specs.ValueNames.{value_names, with_names}
use Rattle.text_checks.proofs.WithNamesLaws.{has, has_all, with_append, with-name-is}

-- ---- lists

map-append {ℓ ℓ'} : {A : Type ℓ} {B : Type ℓ'} (g : A → B) (xs ys : List A) → map g (xs ++ ys) ≡ map g xs ++ map g ys
map-append g [] ys = refl
map-append {B = B} g (x ∷ xs) ys = ap (λ (r : List B). g x ∷ r) (map-append g xs ys)

map-only {ℓ ℓ'} : {A : Type ℓ} {B : Type ℓ'} (g : A → B) (b : Bool) (x : A) → map g (only b x) ≡ only b (g x)
map-only g true x = refl
map-only g false x = refl

map-picked {ℓ ℓ'} : {A : Type ℓ} {B : Type ℓ'} (g : A → B) (on : ℕ → Bool) (f : ℕ → A) (n : ℕ) → map g (picked on f n) ≡ picked on (λ i. g (f i)) n
unfolding picked
map-picked g on f zero = refl
map-picked {B = B} g on f (suc n) =
    map-append g (picked on f n) (only (on n) (f n)) ∙ ap₂ (λ (x y : List B). x ++ y) (map-picked g on f n) (map-only g (on n) (f n))

length-map {ℓ ℓ'} : {A : Type ℓ} {B : Type ℓ'} (g : A → B) (xs : List A) → length (map g xs) ≡ length xs
length-map g [] = refl
length-map g (x ∷ xs) = ap suc (length-map g xs)

-- one element more in front
take-suc : (xs : List Name) (i : ℕ) → i < length xs → take (suc i) xs ≡ take i xs ++ (get_or xs i [] ∷ [])
take-suc [] i h = absurd (omega arith)
take-suc (x ∷ xs) zero h = refl
take-suc (x ∷ xs) (suc i) h = let l : i < length xs = omega arith in ap (λ (r : List Name). x ∷ r) (take-suc xs i l)

not-or : (a b : Bool) → not (a || b) ≡ both (not a) (not b)
unfolding both
not-or true b = refl
not-or false b = refl

-- ---- the value types

module _ (ds : List Declaration) where
  has-enum : (w : Name) → has (names_of_kind is_enumeration ds) w ≡ is_enumeration_name ds w
  unfolding is_enumeration_name
  has-enum w =
      member-picked (λ v. same_name v w) (λ k. is_enumeration (declaration_at ds k)) (λ k. (declaration_at ds k).name) (length ds)
      ∙ any-ext _ _ (length ds) (λ k l. and-is-both (is_enumeration (declaration_at ds k)) (same_name (declaration_at ds k).name w))

  -- the first i uses have w
  has-used : (i : ℕ) (w : Name) → i ≤ length (used_types ds) → has (take i (used_types ds)) w ≡ any (λ j. same_name (get_or (used_types ds) j []) w) i
  has-used i w h =
      let us : List Name = used_types ds in
      sym (member-any (λ v. same_name v w) [] (take i us))
      ∙ ap (any (λ j. same_name (get_or (take i us) j []) w)) (length-take-le i us h)
      ∙ any-ext (λ j. same_name (get_or (take i us) j []) w) (λ j. same_name (get_or us j []) w) i
      (λ j l. ap (λ (v : Name). same_name v w) (get_or-take i us j [] l))

  -- with the first i uses
  used-to : (i : ℕ) → i ≤ length (used_types ds)
      → with_names (names_of_kind is_enumeration ds) (take i (used_types ds)) ≡ names_of_kind is_enumeration ds ++ picked (is_plain_use ds) (λ j. get_or (used_types ds) j []) i
  unfolding with_names picked is_plain_use
  used-to zero h = sym (append-nil (names_of_kind is_enumeration ds))
  used-to (suc i) h =
      let us : List Name = used_types ds in
      let es : List Name = names_of_kind is_enumeration ds in
      let w : Name = get_or us i [] in
      let l : i < length us = omega arith in
      let m : i ≤ length us = omega arith in
      let here : List Name = with_names es (take i us) in
      let plain : not (has here w) ≡ is_plain_use ds i =
      ap not (has_all es (take i us) w ∙ ap₂ (λ (a b : Bool). a || b) (has-enum w) (has-used i w m))
      ∙ not-or (is_enumeration_name ds w) (any (λ j. same_name (get_or us j []) w) i) in
      ap (with_names es) (take-suc us i l) ∙ with_append es (take i us) (w ∷ []) ∙ with-name-is here w
      ∙ ap₂ (λ (xs : List Name) (b : Bool). xs ++ only b w) (used-to i m) plain
      ∙ append_assoc es (picked (is_plain_use ds) (λ j. get_or us j []) i) (only (is_plain_use ds i) w)

pub value-names : (ds : List Declaration) → value_names ds ≡ map (λ (v : ValueType). v.name) (value_types_of ds)
unfolding value_names value_types_of enumerations plain_types
value-names ds =
    let us : List Name = used_types ds in
    let name : ValueType → Name = λ v. v.name in
    let all : take (length us) us ≡ us = take_all (length us) us (le_refl (length us)) in
    ap (with_names (names_of_kind is_enumeration ds)) (sym all) ∙ used-to ds (length us) (le_refl (length us))
    ∙ sym
    (map-append name (enumerations ds) (plain_types ds)
    ∙ ap₂ (λ (x y : List Name). x ++ y)
    (map-picked name (λ k. is_enumeration (declaration_at ds k)) (λ k. record { name = (declaration_at ds k).name; constants = (declaration_at ds k).constants }) (length ds))
    (map-picked name (is_plain_use ds) (λ i. record { name = get_or us i []; constants = [] }) (length us)))

pub value-names-length : (ds : List Declaration) → length (value_names ds) ≡ length (value_types_of ds)
value-names-length ds = ap length (value-names ds) ∙ length-map (λ (v : ValueType). v.name) (value_types_of ds)
