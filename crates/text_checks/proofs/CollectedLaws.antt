-- Names collected in a list: the loop over an outline that collects the names of a kind.
-- Assumes nothing.
use mathlib.Core.Path.{◌≡◌, ap, ap₂, refl, subst, sym, ◌∙◌}
use mathlib.Core.Bool.{Bool, false, true}
use mathlib.Core.List.{List, [], ◌∷◌, ◌++◌, append-nil}
use Prim.Native.Nat.{ℕ, suc, zero, ◌+◌, ◌-◌, ◌≤◌}
use native.Mathlib.Omega.{arith}
use lib.ListN.{length, take}
use lib.Seq.{take_all, take-append_seam}
use Rattle.laws.specs.Lists.{joined, only, picked}
use Rattle.laws.proofs.JoinedLaws.{joined-front, joined-more}
use Rattle.laws.proofs.PickedLaws.{length-picked}
use Rattle.files.specs.Name.{Name}
use Rattle.texts.specs.Declaration.{Declaration, declaration_at, is_type}
use Rattle.texts.specs.Declared.{types_before}
use Rattle.texts.specs.WellFormedDeclaration.{ShortNames}
use Rattle.texts.specs.TextChecks.{names_of_kind}
use Rattle.text_rows.specs.RowAt.{declarations_by}
use Rattle.text_outlines.specs.declared.Outlined.{Outlined}
use Rattle.text_outlines.specs.Outline.{Outlines}
use Rattle.name_lists.specs.declared.list.Names.{Names}
use Rattle.name_lists.specs.Names.{names_in}
use Rattle.name_lists.proofs.NamesLaws.{names-length}
use Rattle.text_parts.specs.declared.Kind.TheVariants.{Types}
use Rattle.text_parts.specs.declared.Kind.{Kind}
use Rattle.text_parts.specs.Sort.{of_kind}
use Rattle.text_checks.specs.Kinds.{name_as}
use Rattle.text_checks.proofs.OutlineLaws.{outline-end, outline-upto, test_at}

-- ---- picked lists: what is picked of the first k stands at the front

picked-joined {ℓ} : {A : Type ℓ} (on : ℕ → Bool) (f : ℕ → A) (n : ℕ) → picked on f n ≡ joined (λ i. only (on i) (f i)) n
unfolding picked joined
picked-joined on f zero = refl
picked-joined {A = A} on f (suc n) = ap (λ (xs : List A). xs ++ only (on n) (f n)) (picked-joined on f n)

picked_more {ℓ} : {A : Type ℓ} (on : ℕ → Bool) (f : ℕ → A) (n : ℕ) → picked on f (n + 1) ≡ picked on f n ++ only (on n) (f n)
picked_more {A = A} on f n =
    picked-joined on f (n + 1) ∙ joined-more (λ i. only (on i) (f i)) n
    ∙ ap (λ (xs : List A). xs ++ only (on n) (f n)) (sym (picked-joined on f n))

picked-front {ℓ} : {A : Type ℓ} (on : ℕ → Bool) (f : ℕ → A) (k n : ℕ) → k ≤ n → take (length (picked on f k)) (picked on f n) ≡ picked on f k
picked-front {A = A} on f k n h =
    let rows : ℕ → List A = λ i. only (on i) (f i) in
    ap (take (length (picked on f k))) (picked-joined on f n ∙ joined-front rows k n h ∙ ap (λ (xs : List A). xs ++ joined (λ i. rows (k + i)) (n - k)) (sym (picked-joined on f k)))
    ∙ take-append_seam (picked on f k) (joined (λ i. rows (k + i)) (n - k))

-- ---- the names of the declarations of a kind

abbrev pub name_at : List ℕ → ℕ → Name
name_at body k = (declaration_at (declarations_by body) k).name

-- those of the first k declarations
abbrev pub names_to : Kind → List ℕ → ℕ → List Name
names_to kind body k = picked (test_at (of_kind kind) body) (name_at body) k

module _ (kind : Kind) (body : List ℕ) where
  pub collected-begin : {ns : List Name} → ns ≡ [] → ns ≡ names_to kind body 0
  unfolding picked
  collected-begin q = q

  module _ (k : ℕ) (r : Names) (e : names_in r ≡ names_to kind body k) where
    collected-next : {b : Bool} {w : Name} {ms : List Name} → b ≡ of_kind kind (declaration_at (declarations_by body) k) → w ≡ name_at body k
        → ms ≡ names_in r ++ only b w → ms ≡ names_to kind body (k + 1)
    collected-next p n q =
        q ∙ ap₂ (λ (x : Bool) (y : Name). names_in r ++ only x y) p n
        ∙ ap (λ (xs : List Name). xs ++ name_as kind (declaration_at (declarations_by body) k)) e
        ∙ sym (picked_more (test_at (of_kind kind) body) (name_at body) k)

    -- as the code adds it, or passes it
    module _ {b : Bool} (p : b ≡ of_kind kind (declaration_at (declarations_by body) k)) where
      pub collected-push : {w : Name} {ms : List Name} → b ≡ true → w ≡ name_at body k → ms ≡ names_in r ++ (w ∷ []) → ms ≡ names_to kind body (k + 1)
      collected-push {w} t n q = collected-next p n (q ∙ ap (λ (x : Bool). names_in r ++ only x w) (sym t))

      pub collected-pass : b ≡ false → names_in r ≡ names_to kind body (k + 1)
      collected-pass t = collected-next p refl (sym (append-nil (names_in r)) ∙ ap (λ (x : Bool). names_in r ++ only x (name_at body k)) (sym t))

    module _ {o : List Outlined} {n most : ℕ} (t : Outlines body o n) (h : k ≤ n) where
      -- it stops where there are enough
      pub collected-full : r.count ≡ most → names_in r ≡ take most (names_of_kind (of_kind kind) (declarations_by body))
      collected-full f =
          let all : ℕ = length (declarations_by body) in
          let size : length (names_to kind body k) ≡ most = sym (ap length e) ∙ names-length r ∙ f in
          e ∙ sym (picked-front (test_at (of_kind kind) body) (name_at body) k all (outline-upto t h)) ∙ ap (λ (x : ℕ). take x (names_to kind body all)) size

      pub collected-done : n ≤ k → r.count ≤ most → names_in r ≡ take most (names_of_kind (of_kind kind) (declarations_by body))
      collected-done l f =
          let size : length (names_in r) ≤ most = omega (arith, names-length r) in
          sym (take_all most (names_in r) size) ∙ ap (take most) (e ∙ ap (names_to kind body) (outline-end t h l))

pub name-short : (body : List ℕ) (k : ℕ) {w : Name} → ShortNames (declarations_by body) → w ≡ name_at body k → length w ≤ 16
name-short body k f e = subst (λ (x : Name). length x ≤ 16) (sym e) (f.each k).name

-- all names of types, where there are not too many
pub types-collected : (ds : List Declaration) {ns : List Name} → types_before ds (length ds) ≤ 24 → ns ≡ take 24 (names_of_kind (of_kind Types) ds) → ns ≡ names_of_kind is_type ds
unfolding types_before
types-collected ds h e =
    let size = length-picked (λ k. is_type (declaration_at ds k)) (λ k. (declaration_at ds k).name) (length ds) in
    let few : length (names_of_kind is_type ds) ≤ 24 = omega arith in
    e ∙ take_all 24 (names_of_kind is_type ds) few
