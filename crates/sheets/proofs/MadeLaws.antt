-- An array of structs made by a function of the index, said of the indices below its length: `laws` has it for numbers.
-- Assumes nothing.
use Prim.Native.Nat.{ℕ, zero, suc, ◌+◌, ◌<◌}
use native.Mathlib.Omega.{arith}
use mathlib.Core.List.{List}
use mathlib.Core.Path.{◌≡◌, sym, subst}
use lib.ListN.{get_or}
use denote.Param.Members.{Mut}
use Rattle.std.specs.Fn.{Called}
use Rattle.std.specs.Array.{IsFromFnResult, IsFromFnResultFrom}

module _ {A F : Type 0} {g : Mut F (ℕ × Unit {0}) A} {f : F} (d : A) (P : ℕ → A → Type 0) (same : (x : ℕ) (b : A) (q : F) → Called g f (x, tt) b q → (q ≡ f) × P x b) where
  made-from : (ys : List A) (n i k : ℕ) → IsFromFnResultFrom g f ys i n → k < n → P (i + k) (get_or ys (i + k) d)
  made-from ys zero i k r l = absurd (omega arith)
  made-from ys (suc n) i zero r l =
      let q : i + 0 ≡ i = omega arith in
      rw q (subst (P i) (sym (r.2.1 d)) (same i r.1 r.0 r.3).1)
  made-from ys (suc n) i (suc k) r l =
      let q : i + suc k ≡ i + 1 + k = omega arith in
      rw q (made-from ys n (i + 1) k (subst (λ (p : F). IsFromFnResultFrom g p ys (i + 1) n) (same i r.1 r.0 r.3).0 r.4) (omega arith))

  pub each-made : {ys : List A} {n : ℕ} → IsFromFnResult g f ys n → (k : ℕ) → k < n → P k (get_or ys k d)
  each-made {ys} {n} r k l =
      let q : 0 + k ≡ k = omega arith in
      subst (λ (x : ℕ). P x (get_or ys x d)) q (made-from ys n 0 k r.each l)
