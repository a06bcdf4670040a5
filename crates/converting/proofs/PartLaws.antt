-- The parts of an association, written in another edition.
-- Assumes nothing.
use Prim.Native.Nat.{◌+◌, ◌≤◌, ℕ}
use native.Mathlib.Omega.{arith}
use mathlib.Core.Bool.{Bool, cond, false, true}
use mathlib.Core.List.{List, [], ◌++◌, ◌∷◌, append_assoc}
use mathlib.Core.Path.{◌∙◌, ◌≡◌, ap, ap₂, refl, subst, sym}
use lib.ListN.{drop, get_or, length}
use borrow.Author.Tests.{ne_eqb}
use Rattle.files.specs.Content.{name_bytes, name_in}
use Rattle.files.specs.Diagram.{End}
use Rattle.files.specs.DiagramBytes.{association_bytes, end_bytes}
use Rattle.files.specs.DiagramLayout.{association_laid, association_of, end_laid, end_of, past_end}
use Rattle.files.specs.EditionFields.{in_edition}
use Rattle.files.specs.Field.{field}
use Rattle.files.specs.Limit.{is_wide, limit_at, limit_bytes, limits_end, most_of, none_of, up_start, upper_number, upper_of}
use Rattle.files.specs.WellFormedDiagram.{FitsLimits}
use Rattle.files.proofs.DiagramSize.{upper-below}
use Rattle.files.proofs.EndLaws.{most-below}
use Rattle.field_writers.specs.Put.{head}
use Rattle.field_writers.proofs.PutLaws.{field-from}
use Rattle.laws.proofs.ConnectiveLaws.{both_left, both_right}

-- ---- an end

pub limits-most : (e : ℕ) → limits_end e ≤ 5
limits-most e = go (is_wide e)
  where
    go : (b : Bool) → cond b 5 3 ≤ 5
    go true = omega arith
    go false = omega arith

module _ (e e' : ℕ) (c : List ℕ) where
  pub low-below : {low : ℕ} → FitsLimits e' (end_of e c).limits → low ≡ limit_at e c 1 → low ≤ none_of e'
  unfolding end_of
  low-below f q = let p : limit_at e c 1 ≤ most_of e' = f.low-fits in omega (arith, q, most-below e')

  pub up-below : {up n : ℕ} → FitsLimits e' (end_of e c).limits → up ≡ limit_at e c (up_start e) → n ≡ upper_number e' (upper_of e up) → n ≤ none_of e'
  unfolding end_of
  up-below f p q =
      subst (λ (x : ℕ). x ≤ none_of e') (sym (q ∙ ap (λ (u : ℕ). upper_number e' (upper_of e u)) p)) (upper-below e' (limit_at e c 1) (upper_of e (limit_at e c (up_start e))) f.up-fits)

  pub end-parts : {type low up n : ℕ} {s w : List ℕ} → type ≡ get_or c 0 0 → low ≡ limit_at e c 1 → up ≡ limit_at e c (up_start e) → n ≡ upper_number e' (upper_of e up)
      → s ≡ drop (limits_end e) c → w ≡ name_in s → (type ∷ (limit_bytes e' low ++ limit_bytes e' n)) ++ name_bytes w ≡ end_bytes e' (end_of e c)
  unfolding end_bytes end_of
  end-parts {type} {low} {up} {n} {s} {w} p q u v k l =
      ap (λ (x : List ℕ). type ∷ x) (append_assoc (limit_bytes e' low) (limit_bytes e' n) (name_bytes w)) ∙ cc

  -- ---- an association

  pub left_laid : {l : List ℕ} → association_laid e c ≡ true → l ≡ drop 2 c → end_laid e l ≡ true
  unfolding association_laid
  left_laid h p = ap (end_laid e) p ∙ both_left _ _ (both_right _ _ (both_right _ _ h))

  pub right-laid : {l r : List ℕ} → association_laid e c ≡ true → l ≡ drop 2 c → r ≡ past_end e l → end_laid e r ≡ true
  unfolding association_laid
  right-laid h p q = ap (end_laid e) (q ∙ ap (past_end e) p) ∙ both_left _ _ (both_right _ _ (both_right _ _ (both_right _ _ h)))

  pub left-is : {l : List ℕ} → l ≡ drop 2 c → end_of e l ≡ (association_of e c).left
  unfolding association_of
  left-is p = ap (end_of e) p

  pub right-is : {l r : List ℕ} → l ≡ drop 2 c → r ≡ past_end e l → end_of e r ≡ (association_of e c).right
  unfolding association_of
  right-is p q = ap (end_of e) (q ∙ ap (past_end e) p)

  pub end-fits : {x y : End} → x ≡ y → FitsLimits e' y.limits → FitsLimits e' x.limits
  end-fits p f = subst (λ (z : End). FitsLimits e' z.limits) (sym p) f

  pub association-parts : (form arrow n : ℕ) → form ≡ get_or c 0 0 → arrow ≡ get_or c 1 0
      → n ≡ 2 + length (end_bytes e' (association_of e c).left ++ end_bytes e' (association_of e c).right)
      → (head 0x50 n form ++ (arrow ∷ [])) ++ (end_bytes e' (association_of e c).left ++ end_bytes e' (association_of e c).right)
      ≡ field 0x50 (association_bytes e' (association_of e c))
  unfolding association_bytes association_of
  association-parts form arrow n p q l =
      let xs : List ℕ = end_bytes e' (association_of e c).left ++ end_bytes e' (association_of e c).right in
      append_assoc (head 0x50 n form) (arrow ∷ []) xs ∙ field-from 0x50 n form (arrow ∷ xs) (omega (arith, l)) ∙ ap₂ (λ (f a : ℕ). field 0x50 (f ∷ a ∷ xs)) p q

  -- ---- a field of tag t

  pub edition-field : (t : ℕ) → t ≡ 0x10 → head 0x10 1 e' ≡ field t (in_edition e e' t c)
  unfolding in_edition field
  edition-field t q = subst (λ (t : ℕ). head 0x10 1 e' ≡ field t (in_edition e e' t c)) (sym q) refl

  pub association-field : (t : ℕ) → t ≡ 0x50 → field 0x50 (association_bytes e' (association_of e c)) ≡ field t (in_edition e e' t c)
  unfolding in_edition
  association-field t q = subst (λ (t : ℕ). field 0x50 (association_bytes e' (association_of e c)) ≡ field t (in_edition e e' t c)) (sym q) refl

  pub other-content : (t : ℕ) → (t ≡ 0x10 → ⊥) → (t ≡ 0x50 → ⊥) → c ≡ in_edition e e' t c
  unfolding in_edition
  other-content t p q = rw (ne_eqb t 0x10 p, ne_eqb t 0x50 q) refl
