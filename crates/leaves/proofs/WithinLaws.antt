-- Limits of a count: equal ones, limits that are asked or not, and the limits of a row that the query makes tighter.
-- Assumes nothing.
use Prim.Native.Nat.{◌≤◌, max, min, ℕ}
use native.Mathlib.Omega.{arith}
use mathlib.Core.Bool.{Bool, cond, false, false≢true, true}
use mathlib.Core.Path.{◌≡◌, refl}
use Rattle.link_search.specs.Nets.{InLimits}

pub within_same : {l l' h h' m m' : ℕ} → l ≡ l' → h ≡ h' → m ≡ m' → InLimits l h m → InLimits l' h' m'
within_same e f g w = record { least = omega arith; most = omega arith }

-- ---- limits that are asked or not; there are at most 8 objects

pub asked_of : (b : Bool) (l h m : ℕ) → m ≤ 8 → (b ≡ true → InLimits l h m) → InLimits (cond b l 0) (cond b h 8) m
asked_of true l h m few f = f refl
asked_of false l h m few f = record { least = omega arith; most = few }

pub asked-at : (b : Bool) (l h m : ℕ) → InLimits (cond b l 0) (cond b h 8) m → b ≡ true → InLimits l h m
asked-at true l h m w e = w
asked-at false l h m w e = absurd (false≢true e)

-- ---- the limits of a row: `own` is a row of an object, `first` the row that the query asks about

abbrev pub tight_low : Bool → Bool → ℕ → ℕ → ℕ
tight_low own first l low = cond first (max (cond own l 0) low) (cond own l 0)

abbrev pub tight_high : Bool → Bool → ℕ → ℕ → ℕ
tight_high own first h high = cond first (min (cond own h 8) high) (cond own h 8)

pub tight-of : (own first : Bool) (l h low high m : ℕ) → m ≤ 8 → (own ≡ true → InLimits l h m) → (own ≡ false → m ≡ 0) → (first ≡ true → InLimits low high m)
    → InLimits (tight_low own first l low) (tight_high own first h high) m
tight-of true true l h low high m few a b c = let x = a refl in let y = c refl in record { least = omega arith; most = omega arith }
tight-of true false l h low high m few a b c = a refl
tight-of false true l h low high m few a b c = let x = b refl in let y = c refl in record { least = omega arith; most = omega arith }
tight-of false false l h low high m few a b c = let x = b refl in record { least = omega arith; most = omega arith }

pub tight-own : (own first : Bool) (l h low high m : ℕ) → InLimits (tight_low own first l low) (tight_high own first h high) m → own ≡ true → InLimits l h m
tight-own true true l h low high m w e = record { least = omega arith; most = omega arith }
tight-own true false l h low high m w e = w
tight-own false first l h low high m w e = absurd (false≢true e)

pub tight-first : (own first : Bool) (l h low high m : ℕ) → InLimits (tight_low own first l low) (tight_high own first h high) m → first ≡ true → InLimits low high m
tight-first true true l h low high m w e = record { least = omega arith; most = omega arith }
tight-first false true l h low high m w e = record { least = omega arith; most = omega arith }
tight-first own false l h low high m w e = absurd (false≢true e)
