-- An array made by a function of the index, said of the indices below its length, and one of defaults.
-- Assumes nothing.
use Prim.Native.Nat.{ℕ, zero, suc, ◌+◌, ◌<◌}
use native.Mathlib.Omega.{arith}
use mathlib.Core.List.{List}
use mathlib.Core.Path.{◌≡◌, sym, subst, ◌∙◌}
use lib.ListN.{get_or, replicate, length-replicate}
use denote.Param.Members.{Mut}
use Rattle.std.specs.Fn.{Called}
use Rattle.std.specs.Array.{AllOfLen, IsFromFnResult, IsFromFnResultFrom}
use Rattle.std.proofs.lemmas.List.{ext_get_or}
use Rattle.laws.proofs.ListLaws.{zeros}

module _ {F : Type 0} {g : Mut F (ℕ × Unit {0}) ℕ} {f : F} (P : ℕ → ℕ → Type 0) (same : (x b : ℕ) (q : F) → Called g f (x, tt) b q → (q ≡ f) × P x b) where
  made-from : (ys : List ℕ) (n i k : ℕ) → IsFromFnResultFrom g f ys i n → k < n → P (i + k) (get_or ys (i + k) 0)
  made-from ys zero i k r l = absurd (omega arith)
  made-from ys (suc n) i zero r l =
      let q : i + 0 ≡ i = omega arith in
      rw q (subst (P i) (sym (r.2.1 0)) (same i r.1 r.0 r.3).1)
  made-from ys (suc n) i (suc k) r l =
      let q : i + suc k ≡ i + 1 + k = omega arith in
      rw q (made-from ys n (i + 1) k (subst (λ (p : F). IsFromFnResultFrom g p ys (i + 1) n) (same i r.1 r.0 r.3).0 r.4) (omega arith))

  pub made-at : {ys : List ℕ} {n : ℕ} → IsFromFnResult g f ys n → (k : ℕ) → k < n → P k (get_or ys k 0)
  made-at {ys} {n} r k l =
      let q : 0 + k ≡ k = omega arith in
      subst (λ (x : ℕ). P x (get_or ys x 0)) q (made-from ys n 0 k r.each l)

-- an array of defaults is one of zeros
pub default-zeros : {xs : List ℕ} {n : ℕ} → AllOfLen (λ (x : ℕ). x ≡ 0) xs n → xs ≡ replicate n 0
default-zeros {xs} {n} a =
    ext_get_or 0 xs (replicate n 0) (a.long ∙ sym (length-replicate n 0)) (λ i l. a.at i 0 (omega (arith, a.long)) ∙ sym (zeros n i))
