-- An array of structs made by a function of the index, said of the indices below its length.
-- Assumes nothing.
use Prim.Native.Nat.{ℕ, zero, suc, ◌+◌, ◌<◌}
use native.Mathlib.Omega.{arith}
use mathlib.Core.List.{List}
use mathlib.Core.Path.{◌≡◌, sym, subst}
use lib.ListN.{get_or}
use denote.Param.Members.{Mut}
use Rattle.std.specs.Fn.{Called}
use Rattle.std.specs.Array.{IsFromFnResult, IsFromFnResultFrom}

module _ {A F : Type 0} {g : Mut F (ℕ × Unit {0}) A} {f : F} (d : A) (P : ℕ → A → Type 0) (same : (x : ℕ) (b : A) (q : F) → x < 256 → Called g f (x, tt) b q → (q ≡ f) × P x b) where
  entries-from : (ys : List A) (n i k : ℕ) → i + n < 257 → IsFromFnResultFrom g f ys i n → k < n → P (i + k) (get_or ys (i + k) d)
  entries-from ys zero i k m r l = absurd (omega arith)
  entries-from ys (suc n) i zero m r l =
      let q : i + 0 ≡ i = omega arith in
      rw q (subst (P i) (sym (r.2.1 d)) (same i r.1 r.0 (omega arith) r.3).1)
  entries-from ys (suc n) i (suc k) m r l =
      let q : i + suc k ≡ i + 1 + k = omega arith in
      rw q (entries-from ys n (i + 1) k (omega arith) (subst (λ (p : F). IsFromFnResultFrom g p ys (i + 1) n) (same i r.1 r.0 (omega arith) r.3).0 r.4) (omega arith))

  pub entry-made : {ys : List A} {n : ℕ} → n < 257 → IsFromFnResult g f ys n → (k : ℕ) → k < n → P k (get_or ys k d)
  entry-made {ys} {n} m r k l =
      let q : 0 + k ≡ k = omega arith in
      subst (λ (x : ℕ). P x (get_or ys x d)) q (entries-from ys n 0 k (omega arith) r.each l)
