-- The loops over an outline that count: the declarations of a kind, and all attributes.
-- Assumes nothing.
use mathlib.Core.Path.{◌≡◌, ap, ap₂, refl, sym, ◌∙◌}
use mathlib.Core.Bool.{Bool, false, true}
use mathlib.Core.List.{List}
use Prim.Native.Nat.{ℕ, ◌+◌, ◌-◌, ◌<◌, ◌≤◌}
use native.Mathlib.Omega.{arith}
use lib.Dec.{ltb}
use lib.ListN.{length, length-append}
use borrow.Author.Tests.{le-ltb, lt-ltb}
use Rattle.std.specs.Int.{from_bool}
use Rattle.laws.specs.Bounded.{one, tally}
use Rattle.text_rows.proofs.NotedLaws.{one-from}
use Rattle.laws.specs.Lists.{joined}
use Rattle.laws.proofs.CountLaws.{tally-more}
use Rattle.laws.proofs.JoinedLaws.{joined-front, joined-more}
use Rattle.files.specs.Name.{Name}
use Rattle.texts.specs.Declaration.{declaration_at}
use Rattle.texts.specs.Declared.{used_types}
use Rattle.text_rows.specs.RowAt.{declarations_by}
use Rattle.text_outlines.specs.declared.Outlined.{Outlined}
use Rattle.text_outlines.specs.Outline.{Outlines}
use Rattle.text_parts.specs.declared.Kind.{Kind}
use Rattle.text_parts.specs.Sort.{of_kind}
use Rattle.text_checks.specs.Kinds.{kind_count}
use Rattle.text_checks.proofs.OutlineLaws.{outline-below, outline-end, test_at}

-- ---- the declarations of a kind

module _ (kind : Kind) (body : List ℕ) (k : ℕ) {c : ℕ} (e : c ≡ tally (test_at (of_kind kind) body) k) where
  pub counted_next : {b : Bool} {r : ℕ} → b ≡ of_kind kind (declaration_at (declarations_by body) k) → r ≡ from_bool b → c + r ≡ tally (test_at (of_kind kind) body) (k + 1)
  counted_next {b} q u = ap₂ (λ (x y : ℕ). x + y) e (u ∙ one-from b ∙ ap one q) ∙ sym (tally-more (test_at (of_kind kind) body) k)

  pub counted-done : {o : List Outlined} {n : ℕ} → Outlines body o n → k ≤ n → n ≤ k → c ≡ kind_count kind (declarations_by body)
  unfolding kind_count
  counted-done t h l = e ∙ ap (tally (test_at (of_kind kind) body)) (outline-end t h l)

-- ---- all attributes

-- the attribute types of declaration k
abbrev pub types_at : List ℕ → ℕ → List Name
types_at body k = (declaration_at (declarations_by body) k).attribute_types

pub used-begin : (body : List ℕ) → 0 ≡ length (joined (types_at body) 0)
unfolding joined
used-begin body = refl

module _ (body : List ℕ) (k : ℕ) {u : ℕ} (e : u ≡ length (joined (types_at body) k)) where
  pub used-next : {a : ℕ} → a ≡ length (types_at body k) → u + a ≡ length (joined (types_at body) (k + 1))
  used-next q =
      ap₂ (λ (x y : ℕ). x + y) e q ∙ sym (ap length (joined-more (types_at body) k) ∙ length-append (joined (types_at body) k) (types_at body k))

  module _ {o : List Outlined} {n : ℕ} (t : Outlines body o n) where
    pub used_over : {a : ℕ} → k < n → a ≡ length (types_at body k) → 32 < u + a → true ≡ ltb 32 (length (used_types (declarations_by body)))
    unfolding used_types
    used_over {a} h q m =
        let all : ℕ = length (declarations_by body) in
        let l : k + 1 ≤ all = omega (arith, outline-below t h) in
        let f : u + a ≡ length (joined (types_at body) (k + 1)) = used-next q in
        let g = ap length (joined-front (types_at body) (k + 1) all l) in
        let i = length-append (joined (types_at body) (k + 1)) (joined (λ i. types_at body (k + 1 + i)) (all - (k + 1))) in
        let more : 32 < length (joined (types_at body) all) = omega arith in
        sym (lt-ltb 32 (length (joined (types_at body) all)) more)

    pub used-over-alone : {a : ℕ} → k < n → a ≡ length (types_at body k) → 32 < a → true ≡ ltb 32 (length (used_types (declarations_by body)))
    used-over-alone {a} h q m = let i : 32 < u + a = omega arith in used_over h q i

    pub used-done : k ≤ n → n ≤ k → u ≤ 32 → false ≡ ltb 32 (length (used_types (declarations_by body)))
    unfolding used_types
    used-done h l m =
        let all : ℕ = length (declarations_by body) in
        let f : u ≡ length (joined (types_at body) all) = e ∙ ap (λ (i : ℕ). length (joined (types_at body) i)) (outline-end t h l) in
        let few : length (joined (types_at body) all) ≤ 32 = omega arith in
        sym (le-ltb 32 (length (joined (types_at body) all)) few)
