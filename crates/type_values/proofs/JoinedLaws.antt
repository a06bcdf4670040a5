-- What is due by declarations, against the declarations one by one: a value is due exactly when there is a declaration, and a value
-- belongs to what is due exactly when it belongs to the value type of each. A value belongs to one value type at most, so that
-- nothing belongs to declarations that disagree.
-- Assumes nothing.
use Prim.Native.Nat.{◌+◌, ◌-◌, ◌<◌, ◌≤◌, suc, zero, ℕ}
use native.Mathlib.Nat.{le_of_suc-le, le_refl}
use native.Mathlib.Omega.{arith}
use mathlib.Core.Bool.{Bool, ◌&&◌, ◌||◌, cond, false, false≢true, not, true}
use mathlib.Core.Logic.{◌≢◌, ⊎_elim}
use mathlib.Core.Path.{◌∙◌, ◌≡◌, ap, refl, subst, sym}
use lib.Dec.{eqb}
use lib.ListN.{length}
use borrow.Author.Tests.{eqb-false, eqb-true, ne_eqb}
use Rattle.laws.specs.Bounded.{all, any}
use Rattle.laws.specs.Connective.{both, imp}
use Rattle.laws.proofs.ConnectiveLaws.{and_left, and_right, both_left, known, same_test}
use Rattle.files.specs.Diagram.{Diagram, attribute_at, value_type_at}
use Rattle.files.specs.Name.{key}
use Rattle.files.specs.Record.{Value}
use Rattle.files.specs.WellFormedDiagram.{WfDiagram}
use Rattle.files.proofs.NameLaws.{differ-once, same_key}
use Rattle.rules.specs.ValueRules.{belongs}
use Rattle.type_tables.specs.Due.{declares_for, due, due_among, joined}
use Rattle.type_tables.proofs.DueInLaws.{joined-again, joined-apart, joined-first}
use Rattle.type_values.specs.Named.{fits_due}

-- ---- a further declaration with value type v

joined-cases : (P : ℕ → Type 0) (e v : ℕ) → (e ≡ 0 → P (1 + v)) → (e ≢ 0 → e ≡ 1 + v → P e) → (e ≢ 0 → e ≢ 1 + v → P 255) → P (joined e v)
joined-cases P e v f g h =
    ⊎_elim (λ z. subst P (joined-first v (eqb-true e 0 z)) (f (eqb-true e 0 z)))
    (λ n.
    ⊎_elim (λ s. subst P (joined-again v (eqb-false e 0 n) (eqb-true e (1 + v) s)) (g (eqb-false e 0 n) (eqb-true e (1 + v) s)))
    (λ s. subst P (joined-apart v (eqb-false e 0 n) (eqb-false e (1 + v) s)) (h (eqb-false e 0 n) (eqb-false e (1 + v) s))) (known (eqb e (1 + v))))
    (known (eqb e 0))

joined-some : (e v : ℕ) → joined e v ≢ 0
joined-some e v = joined-cases (λ n. n ≢ 0) e v (λ z q. omega arith) (λ n s. n) (λ n s q. omega arith)

-- ---- value types

-- a value belongs to one value type at most
belongs-one : (d : Diagram) → WfDiagram d → (w : Value) (i j : ℕ) → i < length d.value_types → j < length d.value_types
    → belongs w (value_type_at d i) ≡ true → belongs w (value_type_at d j) ≡ true → i ≡ j
unfolding belongs
belongs-one d wf w i j l k p q =
    let a : key (value_type_at d i).name ≡ key w.value_type = same_key _ _ (both_left _ _ p) in
    let b : key (value_type_at d j).name ≡ key w.value_type = same_key _ _ (both_left _ _ q) in
    differ-once (λ n. (value_type_at d n).name) (length d.value_types) wf.value-types-differ i j l k (a ∙ sym b)

-- what can be due: nothing, a value type of the diagram, or more than one
pub record Due (d : Diagram) (e : ℕ) : Type 0 where
  pub type-known : e ≢ 0 → e ≢ 255 → e - 1 < length d.value_types

module _ (d : Diagram) (wf : WfDiagram d) where
  joined-due : (e v : ℕ) → v < length d.value_types → Due d e → Due d (joined e v)
  joined-due e v l k =
      joined-cases (Due d) e v (λ z. record { type-known = λ n m. omega arith }) (λ n s. k) (λ n s. record { type-known = λ a b. absurd (b refl) })

  -- ---- a value

  fits-first : (w : Value) (v : ℕ) → v < length d.value_types → fits_due d w (1 + v) ≡ belongs w (value_type_at d v)
  unfolding fits_due both
  fits-first w v l =
      let few = wf.few-value-types in
      let p : 1 + v - 1 ≡ v = omega arith in
      rw (ne_eqb (1 + v) 0 (λ z. omega arith), ne_eqb (1 + v) 255 (λ z. omega arith), p)

  fits-apart : (w : Value) → fits_due d w 255 ≡ false
  unfolding fits_due both
  fits-apart w = refl

  fits-none : (w : Value) → fits_due d w 0 ≡ true
  unfolding fits_due
  fits-none w = refl

  joined-fits : (w : Value) (e v : ℕ) → v < length d.value_types → Due d e → fits_due d w e && belongs w (value_type_at d v) ≡ fits_due d w (joined e v)
  joined-fits w e v l k =
      joined-cases (λ n. fits_due d w e && belongs w (value_type_at d v) ≡ fits_due d w n) e v
      (λ z. ap (λ (n : ℕ). fits_due d w n && belongs w (value_type_at d v)) z ∙ ap (λ (b : Bool). b && belongs w (value_type_at d v)) (fits-none w) ∙ sym (fits-first w v l))
      (λ n s. again _ _ (ap (fits_due d w) s ∙ fits-first w v l))
      (λ n s. same_test _ _ (λ q. absurd (apart n s (and_left _ _ q) (and_right (fits_due d w e) _ q))) (λ q. absurd (false≢true (sym (fits-apart w) ∙ q))))
    where
      again : (a b : Bool) → a ≡ b → a && b ≡ a
      again true b q = sym q
      again false b q = refl

      apart : e ≢ 0 → e ≢ 1 + v → fits_due d w e ≡ true → belongs w (value_type_at d v) ≡ true → ⊥
      apart n s p q = ⊎_elim (λ z. false≢true (sym (ap (fits_due d w) (eqb-true e 255 z) ∙ fits-apart w) ∙ p)) other (known (eqb e 255))
        where
          other : eqb e 255 ≡ false → ⊥
          other m =
              let u : ℕ = e - 1 in
              let under : u < length d.value_types = k.type-known n (eqb-false e 255 m) in
              let i : e ≡ 1 + u = omega arith in
              let b : belongs w (value_type_at d u) ≡ true = sym (ap (fits_due d w) i ∙ fits-first w u under) ∙ p in
              let j : u ≡ v = belongs-one d wf w u v under l b q in
              s (omega arith)

  -- ---- all declarations

  module _ (t s : ℕ) where
    type-of : (n : ℕ) → suc n ≤ length d.attributes → (attribute_at d n).value_type < length d.value_types
    type-of n l = (wf.attribute n l).value-type-known

    among-due : (n : ℕ) → n ≤ length d.attributes → Due d (due_among d t s n)
    unfolding due_among
    among-due zero l = record { type-known = λ a. absurd (a refl) }
    among-due (suc n) l = go (declares_for d t s n) (among-due n (le_of_suc-le l))
      where
        go : (b : Bool) → Due d (due_among d t s n) → Due d (cond b (joined (due_among d t s n) (attribute_at d n).value_type) (due_among d t s n))
        go true k = joined-due _ _ (type-of n l) k
        go false k = k

    among-some : (n : ℕ) → any (declares_for d t s) n ≡ not (eqb (due_among d t s n) 0)
    unfolding due_among any
    among-some zero = refl
    among-some (suc n) = go (declares_for d t s n) (any (declares_for d t s) n) (among-some n)
      where
        go : (b c : Bool) → c ≡ not (eqb (due_among d t s n) 0)
            → c || b ≡ not (eqb (cond b (joined (due_among d t s n) (attribute_at d n).value_type) (due_among d t s n)) 0)
        go true true k = sym (ap not (ne_eqb _ _ (joined-some (due_among d t s n) _)))
        go true false k = sym (ap not (ne_eqb _ _ (joined-some (due_among d t s n) _)))
        go false true k = k
        go false false k = k

    among-fits : (w : Value) (n : ℕ) → n ≤ length d.attributes
        → all (λ a. imp (declares_for d t s a) (belongs w (value_type_at d (attribute_at d a).value_type))) n ≡ fits_due d w (due_among d t s n)
    unfolding due_among all imp
    among-fits w zero l = sym (fits-none w)
    among-fits w (suc n) l = go (declares_for d t s n) (among-fits w n (le_of_suc-le l))
      where
        idle : (a : Bool) → a && true ≡ a
        idle true = refl
        idle false = refl

        go : (b : Bool) → all (λ a. imp (declares_for d t s a) (belongs w (value_type_at d (attribute_at d a).value_type))) n ≡ fits_due d w (due_among d t s n)
            → all (λ a. imp (declares_for d t s a) (belongs w (value_type_at d (attribute_at d a).value_type))) n && imp b (belongs w (value_type_at d (attribute_at d n).value_type))
            ≡ fits_due d w (cond b (joined (due_among d t s n) (attribute_at d n).value_type) (due_among d t s n))
        go true k = ap (λ (a : Bool). a && belongs w (value_type_at d (attribute_at d n).value_type)) k ∙ joined-fits w _ _ (type-of n l) (among-due n (le_of_suc-le l))
        go false k = idle _ ∙ k

    pub due-known : Due d (due d t s)
    unfolding due
    due-known = among-due (length d.attributes) (le_refl _)

    pub due-declared : any (declares_for d t s) (length d.attributes) ≡ not (eqb (due d t s) 0)
    unfolding due
    due-declared = among-some (length d.attributes)

    pub due-fits : (w : Value)
        → all (λ a. imp (declares_for d t s a) (belongs w (value_type_at d (attribute_at d a).value_type))) (length d.attributes) ≡ fits_due d w (due d t s)
    unfolding due
    due-fits w = among-fits w (length d.attributes) (le_refl _)
