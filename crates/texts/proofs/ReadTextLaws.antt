-- Reading a text, by the table, gives what the grammar and the checks say: a text is accepted with the diagram that its one tree
-- declares, refused with that tree's refusal, or refused with 23 where it has no tree.
-- Assumes nothing.
use Prim.Native.Nat.{◌<◌, suc, zero, ℕ}
use native.Mathlib.Omega.{arith}
use mathlib.Core.Bool.{false, true}
use mathlib.Core.List.{List}
use mathlib.Core.Logic.{◌↔◌, ◌⊎◌, inl, inr, ⊎_elim}
use mathlib.Core.Path.{◌∙◌, ◌≡◌, ap, refl, subst, sym}
use Rattle.laws.specs.Connective.{either, refuse}
use Rattle.files.specs.Diagram.{Diagram}
use Rattle.files.specs.Refusal.{Answer, accepted, or_refused, refusal_of, refused}
use Rattle.files.specs.WellFormedDiagram.{WfDiagram}
use Rattle.texts.specs.Declaration.{declarations}
use Rattle.texts.specs.Declared.{declared}
use Rattle.texts.specs.Grammar.{Belongs, Tree, named, tokens_of}
use Rattle.texts.specs.ReadText.{read_text, tokens_refusal}
use Rattle.texts.specs.Table.{accepts}
use Rattle.texts.specs.TextChecks.{declared_refusal, has_forbidden, has_long_name, has_twice, has_unknown, has_whole_right, is_overfull, text_refusal}
use Rattle.texts.specs.Token.{tokens}
use Rattle.laws.proofs.ConnectiveLaws.{either-neither, known, refuse-passed, true-false}
use Rattle.files.proofs.AnswerLaws.{accepted-is, refused-not}
use Rattle.texts.proofs.ConverseLaws.{accepts-tree}
use Rattle.texts.proofs.DeclarationWellFormed.{belongs-wf}
use Rattle.texts.proofs.GrammarLaws.{tree-accepts, tree-declares, tree-long, tree-unique}
use Rattle.texts.proofs.MarkLaws.{tokens-below}
use Rattle.texts.proofs.TextFileLaws.{declared-wf}

-- a text has one tree
pub text-unique : (s : List ℕ) (t u : Tree) → Belongs s t → Belongs s u → t ≡ u
text-unique s t u b c = tree-unique t u b.is-named c.is-named (sym b.written ∙ c.written)

-- ---- reading the tokens of a tree, and those of none

tree-refusal : (t : Tree) → named t ≡ true → tokens_refusal (tokens_of t) ≡ text_refusal t
unfolding tokens_refusal text_refusal either
tree-refusal t h = rw (tree-accepts t h, tree-long t h, tree-declares t h)

pub read-tree : (s : List ℕ) (t : Tree) → Belongs s t → read_text s ≡ or_refused (text_refusal t) (accepted (declared (declarations t)))
unfolding read_text
read-tree s t b = rw (b.written, tree-refusal t b.is-named, tree-declares t b.is-named)

read_none : (s : List ℕ) → accepts 0 (tokens s) ≡ false → read_text s ≡ refused 23
unfolding read_text tokens_refusal refuse either or_refused
read_none s e = rw e

-- a text has a tree, or it is refused with 23 and has none
decided : (s : List ℕ) → ((t : Tree) × Belongs s t) ⊎ ((read_text s ≡ refused 23) × ((t : Tree) → Belongs s t → ⊥))
decided s =
    ⊎_elim (λ e. let w = accepts-tree (tokens s) (tokens-below s) e in inl (w.0, record { written = sym w.1; is-named = w.2 }))
    (λ e. inr (read_none s e, λ t b. true-false (ap (accepts 0) b.written ∙ tree-accepts t b.is-named) e)) (known (accepts 0 (tokens s)))

-- ---- accepted

pub text-accepted : (s : List ℕ) (d : Diagram) → read_text s ≡ accepted d → (t : Tree) × Belongs s t × (text_refusal t ≡ 0) × (d ≡ declared (declarations t))
unfolding or_refused
text-accepted s d e = ⊎_elim (λ w. go w.0 w.1 (text_refusal w.0) refl) (λ w. absurd (refused-not (sym w.0 ∙ e))) (decided s)
  where
    go : (t : Tree) → Belongs s t → (n : ℕ) → text_refusal t ≡ n → (t : Tree) × Belongs s t × (text_refusal t ≡ 0) × (d ≡ declared (declarations t))
    go t b zero h = (t, b, h, sym (accepted-is (sym (read-tree s t b ∙ ap (λ (n : ℕ). or_refused n (accepted (declared (declarations t)))) h) ∙ e)))
    go t b (suc n) h = absurd (refused-not (sym (read-tree s t b ∙ ap (λ (n : ℕ). or_refused n (accepted (declared (declarations t)))) h) ∙ e))

pub accepted-text : (s : List ℕ) (t : Tree) → Belongs s t → text_refusal t ≡ 0 → read_text s ≡ accepted (declared (declarations t))
unfolding or_refused
accepted-text s t b e = read-tree s t b ∙ ap (λ (n : ℕ). or_refused n (accepted (declared (declarations t)))) e

pub text-exact : (s : List ℕ) (d : Diagram) → (read_text s ≡ accepted d) ↔ ((t : Tree) × Belongs s t × (text_refusal t ≡ 0) × (d ≡ declared (declarations t)))
text-exact s d = (text-accepted s d, λ w. accepted-text s w.0 w.1 w.2 ∙ ap {B = Answer Diagram} accepted (sym w.3))

-- ---- refused

-- outside the grammar, or refused by the checks
abbrev pub IsRefused : List ℕ → ℕ → Type 0
IsRefused s n = ((n ≡ 23) × ((t : Tree) → Belongs s t → ⊥)) ⊎ ((t : Tree) × Belongs s t × (text_refusal t ≡ n) × (0 < n))

refused-is : {n m : ℕ} → ◌≡◌ {A = Answer Diagram} (refused n) (refused m) → n ≡ m
unfolding refusal_of
refused-is e = ap refusal_of e

accepted-not : {A : Type 0} {n : ℕ} {x : A} → accepted x ≡ refused n → ⊥
accepted-not e = refused-not (sym e)

pub refused-text : (s : List ℕ) (n : ℕ) → IsRefused s n → read_text s ≡ refused n
unfolding or_refused
refused-text s n (inl w) = ⊎_elim (λ v. absurd (w.1 v.0 v.1)) (λ v. v.0 ∙ ap {B = Answer Diagram} refused (sym w.0)) (decided s)
refused-text s zero (inr w) = absurd (omega (arith, w.3))
refused-text s (suc n) (inr w) = read-tree s w.0 w.1 ∙ ap (λ (n : ℕ). or_refused n (accepted (declared (declarations w.0)))) w.2

pub text-refused : (s : List ℕ) (n : ℕ) → read_text s ≡ refused n → IsRefused s n
unfolding or_refused
text-refused s n e = ⊎_elim (λ w. go w.0 w.1 (text_refusal w.0) refl) (λ w. inl (sym (refused-is (sym w.0 ∙ e)), w.1)) (decided s)
  where
    go : (t : Tree) → Belongs s t → (m : ℕ) → text_refusal t ≡ m → IsRefused s n
    go t b zero h = absurd (accepted-not (sym (read-tree s t b ∙ ap (λ (n : ℕ). or_refused n (accepted (declared (declarations t)))) h) ∙ e))
    go t b (suc m) h =
        let q : suc m ≡ n = refused-is (sym (read-tree s t b ∙ ap (λ (n : ℕ). or_refused n (accepted (declared (declarations t)))) h) ∙ e) in
        inr (t, b, h ∙ q, omega arith)

pub refused-exact : (s : List ℕ) (n : ℕ)
    → (read_text s ≡ refused n) ↔ (((n ≡ 23) × ((t : Tree) → Belongs s t → ⊥)) ⊎ ((t : Tree) × Belongs s t × (text_refusal t ≡ n) × (0 < n)))
refused-exact s n = (text-refused s n, refused-text s n)

-- ---- what is accepted is a well-formed diagram

-- no check refuses the tree
pub record Passed (t : Tree) : Type 0 where
  pub short : has_long_name t ≡ false
  pub allowed : has_forbidden (declarations t) ≡ false
  pub known : has_unknown (declarations t) ≡ false
  pub few : is_overfull (declarations t) ≡ false
  pub once : has_twice (declarations t) ≡ false
  pub whole-left : has_whole_right (declarations t) ≡ false

pub passed : (t : Tree) → text_refusal t ≡ 0 → Passed t
unfolding text_refusal declared_refusal
passed t e =
    let a = refuse-passed (either (has_long_name t) (has_forbidden (declarations t))) 22 _ e in
    let b = refuse-passed (has_unknown (declarations t)) 23 _ a.1 in
    let c = refuse-passed (is_overfull (declarations t)) 3 _ b.1 in
    let d = refuse-passed (has_twice (declarations t)) 4 _ c.1 in
    let f = refuse-passed (has_whole_right (declarations t)) 7 _ d.1 in
    record {
      short = (either-neither (has_long_name t) (has_forbidden (declarations t)) a.0).0;
      allowed = (either-neither (has_long_name t) (has_forbidden (declarations t)) a.0).1;
      known = b.0;
      few = c.0;
      once = d.0;
      whole-left = f.0;
    }

pub text-wf : (s : List ℕ) (d : Diagram) → read_text s ≡ accepted d → WfDiagram d
text-wf s d e =
    let w = text-accepted s d e in
    let p = passed w.0 w.2 in
    subst WfDiagram (sym w.3) (declared-wf (declarations w.0) (belongs-wf s w.0 w.1 p.short p.allowed) p.known p.few p.once p.whole-left)
