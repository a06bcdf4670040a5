-- The refusals of a field, by the tests as the code has them.
-- Assumes nothing.
use Prim.Native.Nat.{ℕ, ◌+◌, ◌<◌, ◌≤◌}
use native.Mathlib.Nat.{add-zero}
use mathlib.Core.Bool.{Bool, true, false, cond, not, ◌&&◌}
use lib.Dec.{eqb, ltb}
use native.Mathlib.Omega.{arith}
use borrow.Author.Tests.{le-ltb, lt-ltb, ne_eqb}
use mathlib.Core.List.{List}
use mathlib.Core.Path.{◌≡◌, ap, refl, sym, ◌∙◌}
use Rattle.std.specs.Borrow.{Bor}
use Rattle.laws.specs.Bounded.{one}
use Rattle.laws.specs.Connective.{imp}
use Rattle.laws.proofs.SearchLaws.{tests}
use Rattle.files.specs.Content.{byte}
use Rattle.checking.specs.Progress.{counted}
use Rattle.checking.specs.declared.Progress.{Progress}

-- ---- a test that fails where the definition has its negation

pub holds-not : {b : Bool} → b ≡ false → not b ≡ true
holds-not e = ap not e

pub fails-not : {b : Bool} → b ≡ true → not b ≡ false
fails-not e = ap not e

-- there is a last one, and r, whether it comes before, does not hold
unbroken : (a b : Bool) → a && not b ≡ not (imp a b)
unfolding imp
unbroken true b = refl
unbroken false b = refl

pub falls : (a b : Bool) {r : Bool} → r ≡ b → a && not r ≡ true → not (imp a b) ≡ true
falls a b e h = sym (ap (λ (x : Bool). a && not x) e ∙ unbroken a b) ∙ h

pub rises : (a b : Bool) {r : Bool} → r ≡ b → a && not r ≡ false → not (imp a b) ≡ false
rises a b e h = sym (ap (λ (x : Bool). a && not x) e ∙ unbroken a b) ∙ h

-- r, a number of the content, is below n or not
pub beyond : {x r : ℕ} (n : ℕ) → r ≡ x → n ≤ r → not (ltb x n) ≡ true
beyond {x} n e h = ap not (le-ltb x n (omega arith))

pub before : {x r : ℕ} (n : ℕ) → r ≡ x → r < n → not (ltb x n) ≡ false
before {x} n e h = ap not (lt-ltb x n (omega arith))

-- for `search`, with the definition of the refusal unfolded
pub ruleset checks = (tests, holds-not, fails-not, falls, rises, beyond, before)

-- ---- what is left behind a field

module _ (s : Progress) (t : ℕ) (c : Bor (List ℕ)) where
  counted-by : {n o v l : ℕ} {x y : Bor (List ℕ)} → n ≡ cond (eqb t 0x60) (byte c.now 0) s.count → o ≡ s.objects + one (eqb t 0x61)
      → v ≡ s.values + one (eqb t 0x62) → l ≡ s.links + one (eqb t 0x63) → x ≡ cond (eqb t 0x62) c s.value → y ≡ cond (eqb t 0x63) c s.link
      → record { last = t; count = n; objects = o; values = v; links = l; value = x; link = y } ≡ counted s t c
  unfolding counted
  counted-by p q r m x y = rw (p, q, r, m, x, y)

  pub count-60 : {n : ℕ} → t ≡ 0x60 → n ≡ byte c.now 0
      → record { last = t; count = n; objects = s.objects; values = s.values; links = s.links; value = s.value; link = s.link } ≡ counted s t c
  count-60 e p = counted-by (rw e p) (rw (e, add-zero)) (rw (e, add-zero)) (rw (e, add-zero)) (rw e) (rw e)

  pub count-61 : t ≡ 0x61
      → record { last = t; count = s.count; objects = s.objects + 1; values = s.values; links = s.links; value = s.value; link = s.link } ≡ counted s t c
  count-61 e = counted-by (rw e) (rw e) (rw (e, add-zero)) (rw (e, add-zero)) (rw e) (rw e)

  pub count-62 : t ≡ 0x62
      → record { last = t; count = s.count; objects = s.objects; values = s.values + 1; links = s.links; value = c; link = s.link } ≡ counted s t c
  count-62 e = counted-by (rw e) (rw (e, add-zero)) (rw e) (rw (e, add-zero)) (rw e) (rw e)

  pub count-63 : t ≡ 0x63
      → record { last = t; count = s.count; objects = s.objects; values = s.values; links = s.links + 1; value = s.value; link = c } ≡ counted s t c
  count-63 e = counted-by (rw e) (rw (e, add-zero)) (rw (e, add-zero)) (rw e) (rw e) (rw e)

  pub count-other : (t ≡ 0x60 → ⊥) → (t ≡ 0x61 → ⊥) → (t ≡ 0x62 → ⊥) → (t ≡ 0x63 → ⊥)
      → record { last = t; count = s.count; objects = s.objects; values = s.values; links = s.links; value = s.value; link = s.link } ≡ counted s t c
  count-other d e f g =
      counted-by (rw (ne_eqb t 0x60 d)) (rw (ne_eqb t 0x61 e, add-zero)) (rw (ne_eqb t 0x62 f, add-zero)) (rw (ne_eqb t 0x63 g, add-zero))
      (rw (ne_eqb t 0x62 f)) (rw (ne_eqb t 0x63 g))
