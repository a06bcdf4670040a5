-- 24: parents and ends that are not declared as they have to be, as the code looks for them.
-- Assumes nothing.
use mathlib.Core.Path.{◌≡◌, ap, ap₂, sym, ◌∙◌}
use mathlib.Core.Bool.{Bool, false, not, true, ◌||◌}
use mathlib.Core.List.{List, []}
use Prim.Native.Nat.{ℕ, ◌+◌, ◌<◌, ◌≤◌}
use lib.ListN.{get_or, length}
use Rattle.laws.specs.Bounded.{any}
use Rattle.laws.specs.Connective.{both, either}
use Rattle.laws.proofs.ConnectiveLaws.{or-is-either}
use Rattle.laws.proofs.LoopLaws.{any_found, any_next}
use Rattle.files.specs.Name.{Name}
use Rattle.texts.specs.Declaration.{Declaration, declaration_at, is_type}
use Rattle.texts.specs.TextChecks.{has_unknown, has_unknown_end, has_unknown_parent, is_declared}
use Rattle.text_rows.specs.RowAt.{declarations_by}
use Rattle.text_outlines.specs.declared.Outlined.{Outlined}
use Rattle.text_outlines.specs.Outline.{Outlines}
use Rattle.text_parts.specs.declared.Kind.TheVariants.{Associations, Classes, Interfaces, Types}
use Rattle.text_parts.specs.declared.Kind.{Kind}
use Rattle.text_parts.specs.Sort.{of_kind}
use Rattle.text_checks.specs.Kinds.{unknown_in}
use Rattle.text_checks.proofs.OutlineLaws.{outline-below, outline-end}

-- ---- parents

-- name i of ws is that of none of the first k declarations that are of the kind
abbrev pub unknown_at : Kind → List Declaration → ℕ → List Name → ℕ → Bool
unknown_at kind ds k ws i = not (is_declared (of_kind kind) ds k (get_or ws i []))

pub not-declared : (kind : Kind) (ds : List Declaration) (k : ℕ) (ws : List Name) (i : ℕ) {v : Name} {b : Bool} → v ≡ get_or ws i [] → b ≡ is_declared (of_kind kind) ds k v
    → not b ≡ unknown_at kind ds k ws i
not-declared kind ds k ws i e q = ap not (q ∙ ap (is_declared (of_kind kind) ds k) e)

-- both lists of parents
pub parents-unknown : (ds : List Declaration) (k : ℕ) (d : Declaration) {p q : Bool} → d ≡ declaration_at ds k → p ≡ unknown_in Classes ds k d.superclasses
    → q ≡ unknown_in Interfaces ds k d.interfaces → (p || q) ≡ has_unknown_parent ds k
unfolding has_unknown_parent unknown_in is_declared
parents-unknown ds k d {p} {q} e f g =
    or-is-either p q
    ∙ ap₂ (λ (x y : Bool). either x y) (f ∙ ap (λ (x : Declaration). unknown_in Classes ds k x.superclasses) e)
    (g ∙ ap (λ (x : Declaration). unknown_in Interfaces ds k x.interfaces) e)

-- ---- ends

module _ (ds : List Declaration) (k : ℕ) (d : Declaration) {b : Bool} (e : d ≡ declaration_at ds k) (s : b ≡ of_kind Associations d) where
  pub no_end : b ≡ false → false ≡ has_unknown_end ds k
  unfolding has_unknown_end both
  no_end t =
      sym (ap (λ (x : Bool). both x (either (not (is_declared is_type ds (length ds) (declaration_at ds k).left_end.type)) (not (is_declared is_type ds (length ds) (declaration_at ds k).right_end.type)))) (sym (ap (of_kind Associations) e) ∙ sym s ∙ t))

  pub ends-unknown : {n : ℕ} {v w : Name} {p q : Bool} → n ≡ length ds → b ≡ true → v ≡ d.left_end.type → p ≡ is_declared (of_kind Types) ds n v
      → w ≡ d.right_end.type → q ≡ is_declared (of_kind Types) ds n w → (not p || not q) ≡ has_unknown_end ds k
  unfolding has_unknown_end both is_declared
  ends-unknown {n} {v} {w} {p} {q} m t f g h i =
      let is : of_kind Associations (declaration_at ds k) ≡ true = sym (ap (of_kind Associations) e) ∙ sym s ∙ t in
      let left : p ≡ is_declared is_type ds (length ds) (declaration_at ds k).left_end.type =
      g ∙ ap₂ (λ (x : ℕ) (y : Name). is_declared (of_kind Types) ds x y) m (f ∙ ap (λ (x : Declaration). x.left_end.type) e) in
      let right : q ≡ is_declared is_type ds (length ds) (declaration_at ds k).right_end.type =
      i ∙ ap₂ (λ (x : ℕ) (y : Name). is_declared (of_kind Types) ds x y) m (h ∙ ap (λ (x : Declaration). x.right_end.type) e) in
      or-is-either (not p) (not q) ∙ ap₂ (λ (x y : Bool). either (not x) (not y)) left right
      ∙ sym (ap (λ (x : Bool). both x (either (not (is_declared is_type ds (length ds) (declaration_at ds k).left_end.type)) (not (is_declared is_type ds (length ds) (declaration_at ds k).right_end.type)))) is)

-- ---- all declarations

abbrev pub unknown : List Declaration → ℕ → Bool
unknown ds k = either (has_unknown_parent ds k) (has_unknown_end ds k)

-- a loop over the declarations leaves at the first with one that is unknown: none before k has one
module _ (body : List ℕ) (k : ℕ) where
  module _ {p q : Bool} (f : p ≡ has_unknown_parent (declarations_by body) k) (g : q ≡ has_unknown_end (declarations_by body) k) where
    asked : (p || q) ≡ unknown (declarations_by body) k
    asked = or-is-either p q ∙ ap₂ (λ (x y : Bool). either x y) f g

    pub unknown-found : {o : List Outlined} {n : ℕ} → Outlines body o n → k < n → (p || q) ≡ true → true ≡ has_unknown (declarations_by body)
    unfolding has_unknown
    unknown-found t h u =
        any_found (unknown (declarations_by body)) (length (declarations_by body)) k (outline-below t h) asked u

    pub unknown-next : any (unknown (declarations_by body)) k ≡ false → (p || q) ≡ false → any (unknown (declarations_by body)) (k + 1) ≡ false
    unknown-next e u = any_next (unknown (declarations_by body)) k e asked u

  pub unknown-none : {o : List Outlined} {n : ℕ} → Outlines body o n → k ≤ n → n ≤ k → any (unknown (declarations_by body)) k ≡ false → false ≡ has_unknown (declarations_by body)
  unfolding has_unknown
  unknown-none t h l e = sym e ∙ ap (any (unknown (declarations_by body))) (outline-end t h l)
