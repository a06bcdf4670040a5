-- Laws of `unblank` and `run`: the blanks at the front of a list, and the run of name bytes there.
-- Assumes nothing.
use Prim.Native.Nat.{ℕ, ◌+◌, ◌-◌, ◌<◌, ◌≤◌}
use native.Mathlib.Omega.{arith}
use mathlib.Core.Bool.{Bool, cond, false, true}
use mathlib.Core.List.{List, [], ◌∷◌}
use mathlib.Core.Path.{◌≡◌, ap, refl}
use lib.ListN.{get_or, length, take}
use Rattle.files.specs.Name.{name_byte}
use Rattle.texts.specs.Token.{is_blank, run}
use Rattle.text_rows.specs.Front.{unblank}

-- ---- blanks

unblank-twice : (s : List ℕ) → unblank (unblank s) ≡ unblank s
unfolding unblank
unblank-twice [] = refl
unblank-twice (x ∷ s) = go (unblank-twice s) (is_blank x) refl
  where
    go : unblank (unblank s) ≡ unblank s → (b : Bool) → is_blank x ≡ b → unblank (cond b (unblank s) (x ∷ s)) ≡ cond b (unblank s) (x ∷ s)
    go u true e = u
    go u false e = rw e

pub unblank-bare : (s t : List ℕ) → t ≡ unblank s → unblank t ≡ t
unblank-bare s t e = rw e (unblank-twice s)

pub unblank-most : (s : List ℕ) → length (unblank s) ≤ length s
unfolding unblank
unblank-most [] = omega arith
unblank-most (x ∷ s) = go (unblank-most s) (is_blank x)
  where
    go : length (unblank s) ≤ length s → (b : Bool) → length (cond b (unblank s) (x ∷ s)) ≤ length (x ∷ s)
    go h true = omega arith
    go h false = omega arith

-- how many they are, by the first byte
pub blanks-stop : (x : ℕ) (s : List ℕ) → is_blank x ≡ false → length (x ∷ s) - length (unblank (x ∷ s)) ≡ 0
unfolding unblank
blanks-stop x s e = rw e (omega arith)

pub blanks-more : (x : ℕ) (s : List ℕ) → is_blank x ≡ true → length (x ∷ s) - length (unblank (x ∷ s)) ≡ length s - length (unblank s) + 1
unfolding unblank
blanks-more x s e = rw e (omega (arith, unblank-most s))

-- where nothing is taken off, no blank stands at the front
pub unblank-none : (x : ℕ) (s : List ℕ) → unblank (x ∷ s) ≡ x ∷ s → is_blank x ≡ false
unfolding unblank
unblank-none x s = go (is_blank x)
  where
    go : (b : Bool) → cond b (unblank s) (x ∷ s) ≡ x ∷ s → b ≡ false
    go true e = let h = unblank-most s in let l : length (unblank s) ≡ length (x ∷ s) = ap (λ (t : List ℕ). length t) e in absurd (omega arith)
    go false e = refl

-- ---- runs

-- its length, by the first byte
pub run-stop : (x : ℕ) (s : List ℕ) → name_byte x ≡ false → length (run (x ∷ s)) ≡ 0
unfolding run
run-stop x s e = rw e

pub run-more : (x : ℕ) (s : List ℕ) → name_byte x ≡ true → length (run (x ∷ s)) ≡ length (run s) + 1
unfolding run
run-more x s e = rw e (omega arith)

-- a run is the front of the list
pub run-front : (s : List ℕ) → run s ≡ take (length (run s)) s
unfolding run
run-front [] = refl
run-front (x ∷ s) = go (run-front s) (name_byte x)
  where
    go : run s ≡ take (length (run s)) s → (b : Bool) → cond b (x ∷ run s) [] ≡ take (length (cond b (x ∷ run s) [])) (x ∷ s)
    go u true = ap (λ (t : List ℕ). x ∷ t) u
    go u false = refl

pub run-some : (s : List ℕ) → 0 < length s → name_byte (get_or s 0 0) ≡ true → 1 ≤ length (run s)
unfolding run
run-some [] h e = absurd (omega arith)
run-some (x ∷ s) h e = rw e (omega arith)

-- what its length tells of the first byte
pub run-begun : (s : List ℕ) → 0 < length (run s) → name_byte (get_or s 0 0) ≡ true
unfolding run
run-begun [] h = absurd (omega arith)
run-begun (x ∷ s) h = go (name_byte x) h
  where
    go : (b : Bool) → 0 < length (cond b (x ∷ run s) []) → b ≡ true
    go true l = refl
    go false l = absurd (omega arith)

pub run_none : (s : List ℕ) → 0 < length s → length (run s) ≤ 0 → name_byte (get_or s 0 0) ≡ false
unfolding run
run_none [] l h = absurd (omega arith)
run_none (x ∷ s) l h = go (name_byte x) h
  where
    go : (b : Bool) → length (cond b (x ∷ run s) []) ≤ 0 → b ≡ false
    go true k = absurd (omega arith)
    go false k = refl
