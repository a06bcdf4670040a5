-- The walk that makes an outline: at number k the declarations before it are known.
-- Assumes nothing.
use Rattle.std.proofs.Common.{◌≡◌, ◌∙◌, ℕ, ◌+◌, ◌<◌, ◌≤◌, Bool, false, ◌||◌, List, [], ap, ap₂, arith, get_or, length, length-set, set, subst, sym}
use lib.Seq.{get_or-set_other, get_or-set_same}
use borrow.Author.Count.{below_more}
use Rattle.laws.specs.Bounded.{any}
use Rattle.laws.proofs.BoundedLaws.{any-more}
use Rattle.laws.proofs.LoopLaws.{any-begin}
use Rattle.texts.specs.Declaration.{declaration_at}
use Rattle.texts.specs.Table.{rows_from}
use Rattle.texts.specs.TextChecks.{ends_forbidden, has_forbidden}
use Rattle.texts.specs.Token.{tokens}
use Rattle.text_rows.specs.RowAt.{RowEnd, declaration_by, declarations_by}
use Rattle.text_outlines.specs.declared.Outlined.{Outlined}
use Rattle.text_outlines.specs.Outline.{Outlines, Suffix, Tells, unoutlined}
use Rattle.text_outlines.proofs.SuffixLaws.{suffix-past, suffix-self}
use Rattle.text_outlines.proofs.WalkLaws.{Walk, walk-begin, walk-done, walk_is, walk-next}

abbrev forbidden_at : List ℕ → ℕ → Bool
forbidden_at body j = ends_forbidden (declaration_at (declarations_by body) j)

-- what is known of declaration j, if it has room
abbrev TellsAt : List ℕ → List Outlined → ℕ → Type 0
TellsAt body os j = j < 52 → Tells body (get_or os j unoutlined) (declaration_at (declarations_by body) j)

pub record OutlinedTo (body rest : List ℕ) (os : List Outlined) (k : ℕ) (forbidden : Bool) : Type 0 where
  pub walk : Walk body rest k
  pub suffix : Suffix body rest
  pub size : length os ≡ 52
  pub told : (j : ℕ) → j < k → TellsAt body os j
  pub found : forbidden ≡ any (forbidden_at body) k

pub outlined-begin : (body : List ℕ) {rest : List ℕ} {os : List Outlined} → rest ≡ body → length os ≡ 52 → OutlinedTo body rest os 0 false
outlined-begin body {rest} {os} e l =
    subst (λ (r : List ℕ). OutlinedTo body r os 0 false) (sym e)
    (record {
      walk = walk-begin body;
      suffix = suffix-self body;
      size = l;
      told = λ j h. absurd (omega arith);
      found = sym (any-begin (forbidden_at body));
    })

module _ {body rest : List ℕ} {os : List Outlined} {k : ℕ} {forbidden : Bool} (t : OutlinedTo body rest os k forbidden) where
  module _ {next : List ℕ} (e : RowEnd 3 rest next) {b : Bool} (q : b ≡ ends_forbidden (declaration_by rest)) where
    -- the walk goes on, whatever comes into the outline
    on : {os' : List Outlined} → length os' ≡ 52 → ((j : ℕ) → j < k → TellsAt body os' j) → TellsAt body os' k → OutlinedTo body next os' (k + 1) (forbidden || b)
    on {os'} l f g =
        let is = (walk_is t.walk e).1 in
        record {
          walk = walk-next t.walk e;
          suffix = suffix-past body rest _ t.suffix e.is_end;
          size = l;
          told = below_more (TellsAt body os') k f g;
          found = ap₂ (λ (x y : Bool). x || y) t.found (q ∙ ap ends_forbidden is) ∙ sym (any-more (forbidden_at body) k);
        }

    -- there is room
    pub outlined-next : k < 52 → {o : Outlined} → Tells body o (declaration_by rest) → OutlinedTo body next (set os k o) (k + 1) (forbidden || b)
    outlined-next h {o} u =
        let is = (walk_is t.walk e).1 in
        let size = t.size in
        on (length-set os k o ∙ size)
        (λ j l r. rw (get_or-set_other os k j o unoutlined (λ (i : j ≡ k). omega arith)) (t.told j l r))
        (λ r. rw (get_or-set_same os k o unoutlined (omega arith)) (subst (Tells body o) is u))

    -- there is none
    pub outlined-on : 52 ≤ k → OutlinedTo body next os (k + 1) (forbidden || b)
    outlined-on h = on t.size t.told (λ r. absurd (omega arith))

  module _ (h : rows_from 3 (tokens rest) ≡ []) where
    pub outlined-done : Outlines body os k
    outlined-done = record { size_is = t.size; count-is = walk-done t.walk h; each = t.told }

    pub forbidden-done : forbidden ≡ has_forbidden (declarations_by body)
    unfolding has_forbidden
    forbidden-done = t.found ∙ ap (any (forbidden_at body)) (walk-done t.walk h)
