-- A walk over the declarations of a body: what is left of it are the declarations from number k on.
-- Assumes nothing.
use mathlib.Core.Path.{◌≡◌, refl, sym, ap, ◌∙◌}
use mathlib.Core.List.{List, [], ◌∷◌, map}
use Prim.Native.Nat.{ℕ, ◌+◌, ◌-◌, ◌<◌, ◌≤◌}
use native.Mathlib.Decide.{dec_lt}
use native.Mathlib.Numerals.{add-one}
use native.Mathlib.Omega.{arith}
use lib.ListN.{drop, get_or, length, length-drop}
use lib.Seq.{drop-cons}
use Rattle.texts.specs.Declaration.{declaration_at, nothing}
use Rattle.texts.specs.Table.{declaration_in, rows_from}
use Rattle.texts.specs.Token.{tokens}
use Rattle.text_rows.specs.RowAt.{RowEnd, declaration_by, declarations_by, row_at}

-- ---- lists

-- an element with what is behind it is that of its index
pub drop-first : {A : Type 0} (xs : List A) (k : ℕ) (d x : A) (more : List A) → drop k xs ≡ x ∷ more
    → (k < length xs) × (get_or xs k d ≡ x) × (drop (k + 1) xs ≡ more)
drop-first {A} xs k d x more e = go (dec_lt k (length xs))
  where
    go : Dec (k < length xs) → (k < length xs) × (get_or xs k d ≡ x) × (drop (k + 1) xs ≡ more)
    go (yes h) =
        let f : get_or xs k d ∷ drop (k + 1) xs ≡ x ∷ more = sym (drop-cons xs k d h ∙ ap (λ (i : ℕ). get_or xs k d ∷ drop i xs) (sym (add-one k))) ∙ e in
        (h, ap (λ (ys : List A). get_or ys 0 d) f, ap (λ (ys : List A). drop 1 ys) f)
    go (no h) =
        let a : length (drop k xs) ≡ length xs - k = length-drop k xs in
        let b : length (drop k xs) ≡ length (x ∷ more) = ap length e in absurd (omega arith)

-- ---- one row

rows_none : (rest : List ℕ) → rows_from 3 (tokens rest) ≡ [] → declarations_by rest ≡ []
unfolding declarations_by
rows_none rest e = ap (map declaration_in) e

rows_more : {rest next : List ℕ} → RowEnd 3 rest next → declarations_by rest ≡ declaration_by rest ∷ declarations_by next
unfolding declarations_by declaration_by row_at
rows_more e = ap (map declaration_in) e.one_more

-- ---- the walk

-- k declarations are behind
pub record Walk (body rest : List ℕ) (k : ℕ) : Type 0 where
  pub left : drop k (declarations_by body) ≡ declarations_by rest
  pub below : k ≤ length (declarations_by body)
  pub room : k + length rest ≤ length body

pub walk-begin : (body : List ℕ) → Walk body body 0
walk-begin body = record { left = refl; below = omega arith; room = omega arith }

module _ {body rest : List ℕ} {k : ℕ} (w : Walk body rest k) where
  module _ {next : List ℕ} (e : RowEnd 3 rest next) where
    walk_first : (k < length (declarations_by body)) × (get_or (declarations_by body) k nothing ≡ declaration_by rest) × (drop (k + 1) (declarations_by body) ≡ declarations_by next)
    walk_first = drop-first (declarations_by body) k nothing (declaration_by rest) (declarations_by next) (w.left ∙ rows_more e)

    pub walk_is : (k < length (declarations_by body)) × (declaration_by rest ≡ declaration_at (declarations_by body) k)
    walk_is = (walk_first.0, sym walk_first.1)

    pub walk-next : Walk body next (k + 1)
    walk-next =
        let s = walk_first.0 in
        record {
          left = walk_first.2;
          below = omega arith;
          room = omega (arith, w.room, e.shorter);
        }

  pub walk-done : rows_from 3 (tokens rest) ≡ [] → k ≡ length (declarations_by body)
  walk-done h =
      let a : length (drop k (declarations_by body)) ≡ 0 = ap length (w.left ∙ rows_none rest h) in
      let b : length (drop k (declarations_by body)) ≡ length (declarations_by body) - k = length-drop k (declarations_by body) in
      omega (arith, w.below)

  -- a declaration is left, so a row ends
  pub walk-left : k < length (declarations_by body) → rows_from 3 (tokens rest) ≡ [] → ⊥
  walk-left h e = let d = walk-done e in omega arith
