-- Judging gives 0 or the lowest rule broken, and only one number is that.
-- Assumes nothing.
use Prim.Native.Nat.{◌+◌, ◌<◌, suc, zero, ℕ}
use native.Mathlib.Omega.{arith}
use mathlib.Core.Bool.{Bool, false, true, true≢false}
use mathlib.Core.List.{List, [], ◌∷◌}
use mathlib.Core.Logic.{⊎_elim}
use mathlib.Core.Path.{◌∙◌, ◌≡◌, refl, subst, sym}
use lib.Dec.{ltb}
use lib.ListN.{get_or}
use borrow.Author.Tests.{ltb-false, ltb-true}
use Rattle.laws.specs.Connective.{unless}
use Rattle.laws.proofs.ConnectiveLaws.{known}
use Rattle.files.specs.Diagram.{Diagram}
use Rattle.files.specs.Record.{Record}
use Rattle.rules.specs.Judge.{judge, lowest_broken}
use Rattle.steps.specs.Demands.{LowestBroken, rules}

-- the number of the first that is false, counted from n, or 0
unfoldable lowest_from : ℕ → List Bool → ℕ
lowest_from n [] = 0
lowest_from n (t ∷ ts) = unless t n (lowest_from (suc n) ts)

judge-is : (d : Diagram) (r : Record) → judge d r ≡ lowest_from 1 (rules d r)
unfolding judge lowest_broken lowest_from
judge-is d r = refl

all_hold : (n : ℕ) (ts : List Bool) → lowest_from (suc n) ts ≡ 0 → (k : ℕ) → get_or ts k true ≡ true
unfolding lowest_from unless
all_hold n [] e k = refl
all_hold n (true ∷ ts) e zero = refl
all_hold n (true ∷ ts) e (suc k) = all_hold (suc n) ts e k
all_hold n (false ∷ ts) e k = absurd (omega arith)

record First (ts : List Bool) (n m : ℕ) : Type 0 where
  at : ℕ
  is : m ≡ n + at
  broken : get_or ts at true ≡ false
  before : (j : ℕ) → j < at → get_or ts j true ≡ true

later : (n m : ℕ) (ts : List Bool) → First ts (suc n) m → First (true ∷ ts) n m
later n m ts f = record { at = suc f.at; is = omega (arith, f.is); broken = f.broken; before = before }
  where
    before : (j : ℕ) → j < suc f.at → get_or (true ∷ ts) j true ≡ true
    before zero l = refl
    before (suc j) l = f.before j (omega arith)

first : (n m : ℕ) (ts : List Bool) → lowest_from (suc n) ts ≡ suc m → First ts n m
unfolding lowest_from unless
first n m [] e = absurd (omega arith)
first n m (true ∷ ts) e = later n m ts (first (suc n) m ts e)
first n m (false ∷ ts) e = record { at = 0; is = omega arith; broken = refl; before = λ j l. absurd (omega arith) }

pub judge-lowest : (d : Diagram) (r : Record) → LowestBroken d r (judge d r)
judge-lowest d r = record {
  none = λ e. all_hold 0 (rules d r) (sym (judge-is d r) ∙ e);
  broken = λ k e. subst (λ (i : ℕ). get_or (rules d r) i true ≡ false) (here k (at k e)) (at k e).broken;
  lowest = λ j k e l. (at k e).before j (subst (λ (i : ℕ). j < i) (sym (here k (at k e))) l);
}
  where
    at : (k : ℕ) → judge d r ≡ suc k → First (rules d r) 0 k
    at k e = first 0 k (rules d r) (sym (judge-is d r) ∙ e)

    here : (k : ℕ) (f : First (rules d r) 0 k) → f.at ≡ k
    here k f = omega (arith, f.is)

pub one-lowest : (d : Diagram) (r : Record) (m n : ℕ) → LowestBroken d r m → LowestBroken d r n → m ≡ n
one-lowest d r zero zero f g = refl
one-lowest d r zero (suc k) f g = absurd (true≢false (sym (f.none refl k) ∙ g.broken k refl))
one-lowest d r (suc j) zero f g = absurd (true≢false (sym (g.none refl j) ∙ f.broken j refl))
one-lowest d r (suc j) (suc k) f g = ⊎_elim (λ l. absurd (apart j k f g (ltb-true j k l)))
    (λ l. ⊎_elim (λ i. absurd (apart k j g f (ltb-true k j i))) (λ i. omega (arith, ltb-false j k l, ltb-false k j i)) (known (ltb k j))) (known (ltb j k))
  where
    apart : (i l : ℕ) → LowestBroken d r (suc i) → LowestBroken d r (suc l) → i < l → ⊥
    apart i l p q h = true≢false (sym (q.lowest i l refl h) ∙ p.broken i refl)
