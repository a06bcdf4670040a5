-- A walk over the declarations of a body, row by row, as the code goes from one to the next: before the last a row ends.
-- Assumes nothing.
use Rattle.std.proofs.Common.{◌≡◌, ◌∙◌, ℕ, ◌+◌, ◌<◌, List, length, ap, refl, subst, sym}
use Rattle.std.specs.Borrow.{Bor}
use Rattle.std.specs.Option.{IsSome}
use Rattle.std.specs.Prelude.{Option, None, Some}
use Rattle.texts.specs.Declaration.{declaration_at}
use Rattle.texts.specs.Table.{rows_from}
use Rattle.texts.specs.Token.{tokens}
use Rattle.text_rows.specs.RowAt.{RowEnd, RowEnds, declaration_by, declarations_by}
use Rattle.text_outlines.proofs.WalkLaws.{Walk, walk_is, walk-left, walk-next}

module _ {body rest row : List ℕ} {k : ℕ} (w : Walk body rest k) (l : k < length (declarations_by body)) (q : row ≡ rest) where
  pub row-ends : (o : Option (Bor (List ℕ))) → RowEnds 3 row o → IsSome o
  row-ends None e = absurd (walk-left w l (ap (λ (s : List ℕ). rows_from 3 (tokens s)) (sym q) ∙ e.none_left refl))
  row-ends (Some t) e = search

  module _ {o : Option (Bor (List ℕ))} (e : RowEnds 3 row o) where
    pub row-is : declaration_by row ≡ declaration_at (declarations_by body) k
    row-is = go o e
      where
        go : (o : Option (Bor (List ℕ))) → RowEnds 3 row o → declaration_by row ≡ declaration_at (declarations_by body) k
        go None e = absurd (walk-left w l (ap (λ (s : List ℕ). rows_from 3 (tokens s)) (sym q) ∙ e.none_left refl))
        go (Some t) e = ap declaration_by q ∙ (walk_is w (subst (λ (s : List ℕ). RowEnd 3 s t.now) q (e.ends t refl))).1

    pub row-next : (t : Bor (List ℕ)) → o ≡ Some t → Walk body t.now (k + 1)
    row-next t s = walk-next w (subst (λ (r : List ℕ). RowEnd 3 r t.now) q (e.ends t s))
