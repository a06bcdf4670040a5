-- The code's tables of states are the document's: by class, where the document's is by state. The statements over all states and
-- classes are computed.
-- Assumes nothing.
use Prim.Native.Nat.{ℕ, suc, zero, ◌<◌, ◌≤◌}
use native.Mathlib.Omega.{arith}
use mathlib.Core.Bool.{Bool, ◌&&◌, cond, not, false, true}
use mathlib.Core.List.{List, [], ◌∷◌, ◌++◌, map}
use mathlib.Core.Logic.{◌⊎◌, ⊎_elim, inl, inr}
use mathlib.Core.Path.{◌≡◌, ◌∙◌, ap, refl, sym}
use lib.Dec.{eqb, leb, ltb}
use lib.ListN.{get_or, length}
use borrow.Author.Tests.{eqb-true, le-ltb, leb-true, ltb-true, ne_eqb, not-true}
use Rattle.laws.specs.Bounded.{all, any}
use Rattle.laws.specs.Connective.{either}
use Rattle.laws.proofs.BoundedLaws.{all-at}
use Rattle.laws.proofs.ConnectiveLaws.{and_left, and_right, true-false}
use Rattle.texts.specs.Table.{is_name_state, lookup, next}
use Rattle.text_rows.proofs.AmongLaws.{Among, Apart, alone, among, among_any, each, each_at, excluded}

-- from these states a token leads to one
pub record Step : Type 0 where
  pub states : List ℕ
  pub to : ℕ

abbrev pub step : List ℕ → ℕ → Step
step qs n = record { states = qs; to = n }

-- the steps of each class, as the code has them
abbrev pub steps : List (List Step)
steps =
    (step (31 ∷ 34 ∷ []) 35 ∷ []) ∷  -- 0: <->
    (step (31 ∷ 34 ∷ []) 35 ∷ []) ∷  -- 1: ->
    (step (31 ∷ 34 ∷ []) 35 ∷ []) ∷  -- 2: <-
    (step (31 ∷ 34 ∷ []) 35 ∷ []) ∷  -- 3: --
    (step (3 ∷ []) 4 ∷ []) ∷  -- 4: <<
    (step (5 ∷ []) 6 ∷ []) ∷  -- 5: >>
    (step (27 ∷ []) 28 ∷ step (41 ∷ []) 42 ∷ []) ∷  -- 6: ..
    (step (2 ∷ []) 3 ∷ step (8 ∷ 10 ∷ 12 ∷ []) 13 ∷ step (21 ∷ []) 22 ∷ []) ∷  -- 7: {
    (step (13 ∷ 24 ∷ []) 3 ∷ step (3 ∷ []) 45 ∷ []) ∷  -- 8: }
    (step (8 ∷ 10 ∷ 12 ∷ 17 ∷ 19 ∷ 21 ∷ 39 ∷ 44 ∷ []) 3 ∷ step (15 ∷ []) 13 ∷ step (23 ∷ []) 24 ∷ []) ∷  -- 9: ;
    (step (10 ∷ []) 9 ∷ step (12 ∷ []) 11 ∷ step (19 ∷ []) 18 ∷ step (23 ∷ []) 22 ∷ []) ∷  -- 10: ,
    (step (31 ∷ []) 32 ∷ step (35 ∷ []) 36 ∷ []) ∷  -- 11: (
    (step (33 ∷ []) 34 ∷ step (37 ∷ []) 38 ∷ []) ∷  -- 12: )
    (step (25 ∷ []) 26 ∷ step (39 ∷ []) 40 ∷ []) ∷  -- 13: [
    (step (27 ∷ 29 ∷ []) 30 ∷ step (41 ∷ 43 ∷ []) 44 ∷ []) ∷  -- 14: ]
    (step (26 ∷ 28 ∷ []) 29 ∷ step (40 ∷ 42 ∷ []) 43 ∷ []) ∷  -- 15: *
    (step (0 ∷ []) 1 ∷ []) ∷  -- 16: classdiagram
    (step (3 ∷ 6 ∷ []) 7 ∷ []) ∷  -- 17: class
    (step (8 ∷ []) 9 ∷ step (17 ∷ []) 18 ∷ []) ∷  -- 18: extends
    (step (8 ∷ 10 ∷ []) 11 ∷ []) ∷  -- 19: implements
    (step (3 ∷ []) 16 ∷ []) ∷  -- 20: interface
    (step (3 ∷ []) 20 ∷ []) ∷  -- 21: enum
    (step (3 ∷ []) 25 ∷ []) ∷  -- 22: association
    (step (3 ∷ []) 25 ∷ []) ∷  -- 23: composition
    (step (3 ∷ []) 6 ∷ []) ∷  -- 24: abstract
    (step (4 ∷ []) 5 ∷ []) ∷  -- 25: singleton
    (step (26 ∷ []) 27 ∷ step (28 ∷ []) 29 ∷ step (40 ∷ []) 41 ∷ step (42 ∷ []) 43 ∷ []) ∷  -- 26: an integer
    (step (1 ∷ []) 2 ∷ step (7 ∷ []) 8 ∷ step (9 ∷ []) 10 ∷ step (11 ∷ []) 12 ∷ step (13 ∷ []) 14 ∷ step (14 ∷ []) 15
    ∷ step (16 ∷ []) 17 ∷ step (18 ∷ []) 19 ∷ step (20 ∷ []) 21 ∷ step (22 ∷ []) 23 ∷ step (25 ∷ 30 ∷ []) 31
    ∷ step (32 ∷ []) 33 ∷ step (36 ∷ []) 37 ∷ step (35 ∷ 38 ∷ []) 39 ∷ []) ∷  -- 27: another name
    []

abbrev pub steps_of : ℕ → List Step
steps_of c = get_or steps c []

abbrev pub step_at : ℕ → ℕ → Step
step_at c i = get_or (steps_of c) i (step [] 46)

abbrev pub states_of : List Step → List (List ℕ)
states_of ss = map (λ s. s.states) ss

-- ---- all states and classes

-- each step leads where the document says
abbrev leads : ℕ → Step → Bool
leads c s = each (λ q. eqb s.to (next q c)) s.states && leb s.to 46

all-lead : all (λ c. all (λ i. leads c (step_at c i)) (length (steps_of c))) 28 ≡ true
unfolding all each next lookup
all-lead = refl

-- from any other state a token leads outside the grammar, one of class 25 or 26 where a name leads
abbrev elsewhere : ℕ → ℕ → ℕ
elsewhere c q = cond (ltb 24 c && ltb c 27) (next q 27) 46

all-elsewhere : all (λ c. all (λ q. either (among_any q (states_of (steps_of c))) (eqb (elsewhere c q) (next q c))) 47) 28 ≡ true
unfolding all among_any among either next lookup
all-elsewhere = refl

all-stray : all (λ q. eqb 46 (next q 28)) 47 ≡ true
unfolding all next lookup
all-stray = refl

-- ---- one state and class

module _ {q c : ℕ} (h : q ≤ 46) (k : ℕ) (e : c ≡ k) where
  below : q < 47
  below = omega arith

  -- an arm of an inner match
  pub arrives : (i : ℕ) → ltb k 28 && ltb i (length (steps_of k)) ≡ true → Among q (step_at k i).states
      → ((step_at k i).to ≡ next q c) × ((step_at k i).to ≤ 46)
  arrives i b m =
      let l = ltb-true k 28 (and_left (ltb k 28) (ltb i (length (steps_of k))) b) in
      let j = ltb-true i (length (steps_of k)) (and_right (ltb k 28) (ltb i (length (steps_of k))) b) in
      let s = step_at k i in
      let t : leads k s ≡ true = all-at (λ i. leads k (step_at k i)) (length (steps_of k)) (all-at (λ c. all (λ i. leads c (step_at c i)) (length (steps_of c))) 28 all-lead k l) i j in
      let p = each (λ q. eqb s.to (next q k)) s.states in (
        eqb-true s.to (next q k) (each_at (λ q. eqb s.to (next q k)) q s.states (and_left p (leb s.to 46) t) m) ∙ ap (next q) (sym e),
        leb-true s.to 46 (and_right p (leb s.to 46) t),
      )

  module _ (b : ltb k 28 ≡ true) (a : Apart Unit q (states_of (steps_of k))) where
    other : elsewhere k q ≡ next q c
    other =
        eqb-true (elsewhere k q) (next q k)
        (excluded 47 (states_of (steps_of k)) (λ q. eqb (elsewhere k q) (next q k))
        (all-at (λ c. all (λ q. either (among_any q (states_of (steps_of c))) (eqb (elsewhere c q) (next q c))) 47) 28 all-elsewhere k (ltb-true k 28 b)) q below a)
        ∙ ap (next q) (sym e)

    -- the last arm of an inner match
    pub outside : elsewhere k q ≡ 46 → (46 ≡ next q c) × (46 ≤ 46)
    outside f = (sym f ∙ other, omega arith)

    pub as-name : {r : ℕ} → elsewhere k q ≡ next q 27 → (r ≡ next q 27) × (r ≤ 46) → (r ≡ next q c) × (r ≤ 46)
    as-name f n = (n.0 ∙ sym f ∙ other, n.1)

-- the arms of one class each, as the code has them
abbrev pub singles : List (List ℕ)
singles = alone 4 18 ++ alone 24 4

-- the classes of the two arms of more than one
abbrev arms_left : ℕ → Bool
arms_left c = either (ltb c 4) (either (either (eqb c 22) (eqb c 23)) (eqb c 28))

all-classes : all (λ c. either (among_any c singles) (arms_left c)) 29 ≡ true
unfolding all among_any among either
all-classes = refl

one_of : (a b d : Bool) → d ≡ false → either (either a b) d ≡ true → (a ≡ true) ⊎ (b ≡ true)
unfolding either
one_of true b d f e = inl refl
one_of false true d f e = inr refl
one_of false false d f e = absurd (true-false e f)

the_last : (a b d : Bool) → a ≡ false → b ≡ false → either (either a b) d ≡ true → d ≡ true
unfolding either
the_last true b d f g e = absurd (true-false refl f)
the_last false true d f g e = absurd (true-false refl g)
the_last false false d f g e = e

module _ {c : ℕ} (l : c ≤ 28) (a : Apart Unit c singles) (h : 4 ≤ c) where
  left : either (either (eqb c 22) (eqb c 23)) (eqb c 28) ≡ true
  unfolding either
  left =
      let b : c < 29 = omega arith in
      ap (λ (x : Bool). either x (either (either (eqb c 22) (eqb c 23)) (eqb c 28))) (sym (le-ltb c 4 h)) ∙ excluded 29 singles arms_left all-classes c b a

  pub associations : c < 24 → Among c (22 ∷ 23 ∷ [])
  associations m =
      ⊎_elim (λ e. inl (eqb-true c 22 e)) (λ e. inr (eqb-true c 23 e))
      (one_of (eqb c 22) (eqb c 23) (eqb c 28) (ne_eqb c 28 (λ q. absurd (omega arith))) left)

  strays : 24 ≤ c → eqb c 28 ≡ true
  strays m =
      the_last (eqb c 22) (eqb c 23) (eqb c 28) (ne_eqb c 22 (λ q. absurd (omega arith))) (ne_eqb c 23 (λ q. absurd (omega arith))) left

pub arrows : (c : ℕ) → c < 4 → Among c (0 ∷ 1 ∷ 2 ∷ 3 ∷ [])
arrows zero h = inl refl
arrows (suc zero) h = inr (inl refl)
arrows (suc (suc zero)) h = inr (inr (inl refl))
arrows (suc (suc (suc zero))) h = inr (inr (inr refl))
arrows (suc (suc (suc (suc c)))) h = absurd (omega arith)

-- the last arm of the outer match
pub stray : {q c : ℕ} → q ≤ 46 → c ≤ 28 → Apart Unit c singles → 24 ≤ c → (46 ≡ next q c) × (46 ≤ 46)
stray {q} {c} h l a m =
    let d : q < 47 = omega arith in
    let n : 4 ≤ c = omega arith in
    let e = eqb-true c 28 (strays l a n m) in
    (eqb-true 46 (next q 28) (all-at (λ q. eqb 46 (next q 28)) 47 all-stray q d) ∙ ap (next q) (sym e), omega arith)

-- ---- the states that a name leads to, as the code has them

abbrev pub named : List (List ℕ)
named = (2 ∷ 8 ∷ 10 ∷ 12 ∷ 14 ∷ 17 ∷ 19 ∷ 21 ∷ 23 ∷ 31 ∷ 33 ∷ 37 ∷ 39 ∷ []) ∷ (15 ∷ []) ∷ []

all_named : all (λ i. each is_name_state (get_or named i [])) 2 ≡ true
unfolding all any each is_name_state
all_named = refl

all-unnamed : all (λ q. either (among_any q named) (not (is_name_state q))) 256 ≡ true
unfolding all any among_any among either is_name_state
all-unnamed = refl

pub name-state : (q i : ℕ) → ltb i 2 ≡ true → Among q (get_or named i []) → true ≡ is_name_state q
name-state q i b m = sym (each_at is_name_state q (get_or named i []) (all-at (λ i. each is_name_state (get_or named i [])) 2 all_named i (ltb-true i 2 b)) m)

pub no-name-state : {q : ℕ} → q < 256 → Apart Unit q named → false ≡ is_name_state q
no-name-state {q} h a = sym (not-true (is_name_state q) (excluded 256 named (λ q. not (is_name_state q)) all-unnamed q h a))
