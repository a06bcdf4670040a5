-- Every compiled entry names an association of its diagram; and a list of entries by index.
-- Assumes nothing.
use Prim.Native.Nat.{ℕ, zero, suc, ◌-◌, ◌<◌, ◌≤◌}
use native.Mathlib.Omega.{arith}
use mathlib.Core.Bool.{Bool, true, false, cond, not, ◌&&◌}
use mathlib.Core.List.{[], ◌∷◌}
use mathlib.Core.Path.{◌≡◌, refl, sym, ap, ◌∙◌}
use lib.Dec.{eqb}
use lib.ListN.{length, get_or}
use borrow.Author.Tests.{eq-eqb, ne_eqb}
use Rattle.laws.specs.Bounded.{any, first, first_not}
use Rattle.laws.specs.Lists.{joined}
use Rattle.laws.proofs.BoundedLaws.{any_at, first_not-ext}
use Rattle.laws.proofs.FirstLaws.{first-none, first_below}
use Rattle.laws.proofs.ListLaws.{append-each, one_each}
use Rattle.laws.proofs.JoinedLaws.{joined-each}
use Rattle.files.specs.Diagram.{Diagram, Upper, at_most, no_limit, Association, association_at, is_composition}
use Rattle.rules.specs.Arrow.{Side}
use Rattle.rules.specs.Compile.{Entry, Asked, by_rule6, by_rule7, kind5, limited, bare, entry_for, row_of, entries_of, compile, entry_at}
use Rattle.diagrams.specs.declared.StoredDiagram.{StoredDiagram}
use Rattle.diagrams.specs.View.{diagram_of}
use Rattle.diagrams.specs.Held.{Held}
use Rattle.diagrams.proofs.ViewLaws.{association-count}
use Rattle.rules.specs.Site.{Site}
use Rattle.rules.specs.Evaluate.{holds, first_failing}
use Rattle.entries.specs.declared.Entries.{Entries}
use Rattle.entries.specs.View.{entry_in, entries_in}
use Rattle.entries.proofs.AppendLaws.{entry-at, number_is}
use Rattle.compiling.specs.Compiled.{Compiles}
use Rattle.compiling.proofs.GatherLaws.{compiled-number, compiled-at}
use Rattle.evaluating.specs.Named.{Named}

-- not above the last association
abbrev Known : ℕ → Entry → Type 0
Known n e = e.association ≤ n - 1

limited-of : (kind i : ℕ) (s : Side) (low : ℕ) (up : Upper) → (limited kind i s low up).association ≡ i
unfolding limited
limited-of kind i s low (at_most up) = refl
limited-of kind i s low no_limit = refl

entry_of : (i : ℕ) (a : Association) (q : Asked) → (entry_for i a q).association ≡ i
unfolding entry_for
entry_of i a (by_rule6 s) = limited-of 1 i s _ _
entry_of i a (by_rule7 s) = limited-of 3 i s _ _
entry_of i a kind5 = refl

module _ (n i : ℕ) (l : i < n) (a : Association) where
  nothing_known : Known n (bare 0 0)
  nothing_known = omega arith

  entries-known : (k : ℕ) → Known n (get_or (entries_of i a) k (bare 0 0))
  unfolding entries_of
  entries-known k =
      append-each (Known n) (bare 0 0) (joined (λ j. entry_for i a (get_or (row_of a) j kind5) ∷ []) (length (row_of a))) (cond (is_composition a) (bare 6 i ∷ []) [])
      (joined-each (Known n) (bare 0 0) nothing_known (λ j. entry_for i a (get_or (row_of a) j kind5) ∷ []) (length (row_of a))
      (λ j h. one_each (Known n) (bare 0 0) nothing_known (entry_for i a (get_or (row_of a) j kind5)) (let e = entry_of i a (get_or (row_of a) j kind5) in omega arith)))
      (go (is_composition a)) k
    where
      go : (b : Bool) (k : ℕ) → Known n (get_or (cond b (bare 6 i ∷ []) []) k (bare 0 0))
      go true k = one_each (Known n) (bare 0 0) nothing_known (bare 6 i) (let h : i ≤ n - 1 = omega arith in h) k
      go false k = nothing_known

some-association : (d : Diagram) (k : ℕ) → k < length (compile d) → 0 < length d.associations
unfolding compile
some-association d k l = go (length d.associations) l
  where
    go : (n : ℕ) → k < length (joined (λ i. entries_of i (association_at d i)) n) → 0 < n
    go zero h = unfold joined in absurd (omega arith)
    go (suc n) h = omega arith

pub compiled-known : (d : Diagram) (k : ℕ) → k < length (compile d) → (entry_at (compile d) k).association < length d.associations
unfolding compile
compiled-known d k l =
    let n : ℕ = length d.associations in
    let some : 0 < n = some-association d k l in
    let known : (entry_at (joined (λ i. entries_of i (association_at d i)) n) k).association ≤ n - 1 =
    joined-each (Known n) (bare 0 0) (let z : 0 ≤ n - 1 = omega arith in z) (λ i. entries_of i (association_at d i)) n (λ i h. entries-known n i h (association_at d i)) k in
    omega arith

-- ---- of a list in memory

pub compiled-named : {d : StoredDiagram} {e : Entries} → Held d → Compiles d e → Named d e
compiled-named {d} {e} held c = record {
  few = c.few;
  association = λ k l.
      let number : e.number ≡ length (compile (diagram_of d)) = compiled-number d e c in
      let count : length (diagram_of d).associations ≡ d.associations.count = association-count d in
      let known : (entry_at (compile (diagram_of d)) k).association < length (diagram_of d).associations = compiled-known (diagram_of d) k (omega arith) in
      let is : (entry_in e k).association ≡ (entry_at (compile (diagram_of d)) k).association = ap (λ (x : Entry). x.association) (compiled-at d e c k) in
      omega arith;
}

-- the first that fails is the first of which the negation holds
pub first-fails : (p : ℕ → Bool) (n : ℕ) → first (λ k. not (p k)) n ≡ first_not p n
unfolding first first_not
first-fails p zero = refl
first-fails p (suc n) = go (any q n) refl ∙ ap (λ (k : ℕ). cond (eqb k n && p n) (suc n) k) (first-fails p n)
  where
    q : ℕ → Bool
    q k = not (p k)

    turned : (b : Bool) → cond (not b) n (suc n) ≡ cond b (suc n) n
    turned true = refl
    turned false = refl

    go : (b : Bool) → any q n ≡ b → cond b (first q n) (cond (not (p n)) n (suc n)) ≡ cond (eqb (first q n) n && p n) (suc n) (first q n)
    go true e =
        let w = any_at q n e in
        let l : first q n < n = first_below q n w.0 w.1 w.2 in
        rw (ne_eqb (first q n) n (λ z. let o : ⊥ = omega arith in o)) refl
    go false e = rw (first-none q n e, eq-eqb n n refl) (turned (p n))

-- the entries as the arrays have them are those of the list
pub failing-is : (d : Diagram) (x : Site) (e : Entries) {r : ℕ} → r ≡ first_not (λ k. holds d x (entry_in e k)) e.number → r ≡ first_failing d x (entries_in e)
unfolding first_failing
failing-is d x e f =
    f ∙ first_not-ext (λ k. holds d x (entry_in e k)) (λ k. holds d x (entry_at (entries_in e) k)) e.number (λ k l. ap (holds d x) (sym (entry-at e k l)))
    ∙ ap (first_not (λ k. holds d x (entry_at (entries_in e) k))) (sym (number_is e))

pub ruleset named = (compiled-named)
