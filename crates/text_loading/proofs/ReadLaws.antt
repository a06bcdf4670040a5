-- Why the checks in the reader's order, and then reading the file of the diagram, give what reading the text gives.
-- Assumes nothing.
use Prim.Native.Nat.{◌<◌, ℕ}
use mathlib.Core.Bool.{Bool, false, not, true}
use mathlib.Core.List.{List, map}
use mathlib.Core.Path.{◌∙◌, ◌≡◌, ap, refl, subst, sym}
use lib.ListN.{drop, length}
use Rattle.std.specs.Borrow.{Bor}
use Rattle.std.specs.Option.{IsSome}
use Rattle.std.specs.Prelude.{Option, None, Some}
use Rattle.laws.specs.Connective.{both, either, refuse}
use Rattle.laws.proofs.BoundedLaws.{any-no}
use Rattle.laws.proofs.ConnectiveLaws.{both_left, both_right, either-neither, true-false}
use Rattle.files.specs.DiagramBytes.{write_diagram}
use Rattle.files.specs.DiagramFile.{read_diagram}
use Rattle.files.specs.Refusal.{accepted, or_refused, refused}
use Rattle.texts.specs.Declaration.{declaration_at, declarations}
use Rattle.texts.specs.Declared.{declared}
use Rattle.texts.specs.WellFormedDeclaration.{ShortNames, WfDeclarations}
use Rattle.texts.specs.Grammar.{Belongs, Tree}
use Rattle.texts.specs.ReadText.{declarations_in, read_text, tokens_refusal}
use Rattle.texts.specs.Table.{Symbol, accepts, declaration_in, has_long_from, rows_from}
use Rattle.texts.specs.TextChecks.{declared_refusal, ends_forbidden, has_forbidden, has_long_name, has_twice, has_unknown, has_whole_right, is_overfull, limits_forbidden, text_refusal}
use Rattle.texts.specs.Token.{tokens}
use Rattle.texts.proofs.ConverseLaws.{accepts-tree}
use Rattle.texts.proofs.DeclaredCountLaws.{few}
use Rattle.texts.proofs.DeclarationWellFormed.{belongs-wf}
use Rattle.texts.proofs.GrammarLaws.{tree-declares, tree-headed, tree-long}
use Rattle.texts.proofs.MarkLaws.{tokens-below}
use Rattle.texts.proofs.ReadTextLaws.{read-tree}
use Rattle.texts.proofs.ShortNameLaws.{short-names}
use Rattle.texts.proofs.TextFileLaws.{text-file}
use Rattle.text_loading.specs.Read.{Read}
use Rattle.text_rows.specs.RowAt.{RowEnd, RowEnds, declarations_by}
use Rattle.text_writing.specs.Pieces.{Writable}

-- the table accepts the text, and no name is too long
abbrev pub Taken : List ℕ → Bool → Type 0
Taken s b = both (accepts 0 (tokens s)) (not (has_long_from 0 (tokens s))) ≡ b

pub not-true : (b : Bool) → not b ≡ true → b ≡ false
not-true true e = sym e
not-true false e = refl

pub untaken : (s : List ℕ) → Taken s false → read_text s ≡ refused 23
unfolding read_text tokens_refusal both either refuse or_refused
untaken s e = go (accepts 0 (tokens s)) (has_long_from 0 (tokens s)) refl refl e
  where
    go : (a b : Bool) → accepts 0 (tokens s) ≡ a → has_long_from 0 (tokens s) ≡ b → both a (not b) ≡ false → read_text s ≡ refused 23
    go false b p q f = rw p
    go true true p q f = rw (p, q)
    go true false p q f = absurd (true-false refl f)

-- ---- the body declares what the tree does

-- the tree of a text that is taken
tree-of : {s : List ℕ} → Taken s true → (t : Tree) × (Belongs s t × (has_long_name t ≡ false))
tree-of {s} e =
    let w = accepts-tree (tokens s) (tokens-below s) (both_left _ _ e) in
    let b : Belongs s w.0 = record { written = sym w.1; is-named = w.2 } in
    (w.0, (b, sym (tree-long w.0 w.2) ∙ ap (has_long_from 0) w.1 ∙ not-true _ (both_right (accepts 0 (tokens s)) (not (has_long_from 0 (tokens s))) e)))

body-declares : {s body : List ℕ} → RowEnd 0 s body → (t : Tree) → Belongs s t → declarations_by body ≡ declarations t
unfolding declarations_by declarations_in
body-declares r t b =
    ap (λ (rows : List (List Symbol)). map declaration_in (drop 1 rows)) (sym r.one_more) ∙ ap declarations_in b.written ∙ tree-declares t b.is-named

module _ {s : List ℕ} {o : Option (Bor (List ℕ))} (r : RowEnds 0 s o) (e : Taken s true) where
  -- a row ends
  pub taken-ends : IsSome o
  taken-ends = go o r
    where
      go : (o : Option (Bor (List ℕ))) → RowEnds 0 s o → IsSome o
      go None r = let t = tree-of e in absurd (tree-headed t.0 t.1.0.is-named (ap (rows_from 0) (sym t.1.0.written) ∙ r.none_left refl))
      go (Some b) r = refl

  pub taken-read : (b : Bor (List ℕ)) → o ≡ Some b → Read s b.now
  taken-read b q =
      let t = tree-of e in record { tree = t.0; belongs = t.1.0; short = t.1.1; declares = body-declares (r.ends b q) t.0 t.1.0 }

-- ---- the answer, check by check

module _ {s body : List ℕ} (r : Read s body) where
  by-checks : read_text s ≡ or_refused (refuse (has_forbidden (declarations_by body)) 23 (declared_refusal (declarations_by body))) (accepted (declared (declarations_by body)))
  unfolding text_refusal either
  by-checks = read-tree s r.tree r.belongs ∙ rw (r.short, r.declares)

  pub read-forbidden : has_forbidden (declarations_by body) ≡ true → read_text s ≡ refused 23
  unfolding refuse or_refused
  read-forbidden e = by-checks ∙ rw e

  pub read-unknown : has_forbidden (declarations_by body) ≡ false → has_unknown (declarations_by body) ≡ true → read_text s ≡ refused 24
  unfolding declared_refusal refuse or_refused
  read-unknown e f = by-checks ∙ rw (e, f)

  pub read-overfull : has_forbidden (declarations_by body) ≡ false → has_unknown (declarations_by body) ≡ false → is_overfull (declarations_by body) ≡ true → read_text s ≡ refused 4
  unfolding declared_refusal refuse or_refused
  read-overfull e f g = by-checks ∙ rw (e, f, g)

  fits : has_forbidden (declarations_by body) ≡ false → WfDeclarations (declarations_by body)
  fits e = subst WfDeclarations (sym r.declares) (belongs-wf s r.tree r.belongs r.short (sym (ap has_forbidden r.declares) ∙ e))

  pub short : ShortNames (declarations_by body)
  short = subst ShortNames (sym r.declares) (short-names r.tree r.short)

  allowed : has_forbidden (declarations_by body) ≡ false → (k : ℕ) → k < length (declarations_by body)
      → either (limits_forbidden (declaration_at (declarations_by body) k).left_end.limits) (limits_forbidden (declaration_at (declarations_by body) k).right_end.limits) ≡ false
  unfolding has_forbidden ends_forbidden
  allowed e k l = any-no _ (length (declarations_by body)) e k l

  pub writable : has_forbidden (declarations_by body) ≡ false → is_overfull (declarations_by body) ≡ false → Writable (declarations_by body)
  writable e f =
      let m = few (declarations_by body) f in
      record {
        fits = fits e;
        few = f;
        short = short;
        roomy = λ k l.
            let a = short.each k in
            let b = either-neither _ _ (allowed e k l) in
            record {
              name = a.name;
              few-constants = m.constants k l;
              constants = a.constants;
              few-parents = m.parents k l;
              attributes = a.attribute_names;
              left-role = a.left_end.role;
              left-limits = b.0;
              right-role = a.right_end.role;
              right-limits = b.1;
            };
      }

  pub read-file : has_forbidden (declarations_by body) ≡ false → has_unknown (declarations_by body) ≡ false → is_overfull (declarations_by body) ≡ false
      → read_text s ≡ read_diagram (write_diagram 2 (declared (declarations_by body)))
  unfolding declared_refusal refuse
  read-file e f g = by-checks ∙ (let q : or_refused (refuse (has_forbidden (declarations_by body)) 23 (declared_refusal (declarations_by body))) (accepted (declared (declarations_by body))) ≡ or_refused (refuse (has_twice (declarations_by body)) 5 (refuse (has_whole_right (declarations_by body)) 8 0)) (accepted (declared (declarations_by body))) = rw (e, f, g) in q) ∙ sym (text-file (declarations_by body) (fits e) f g)
