-- A table of targets turned, place by place: at the place of type t and slot s, t is marked for each target u at the place of u and s.
-- Assumes nothing.
use Prim.Native.Nat.{◌%◌, ◌*◌, ◌+◌, ◌/◌, ◌<◌, ◌≤◌, ℕ}
use native.Mathlib.Omega.{arith}
use mathlib.Core.Bool.{Bool, ◌&&◌, ◌||◌, and-true, cond, false, or-false, true}
use mathlib.Core.List.{List}
use mathlib.Core.Path.{◌∙◌, ◌≡◌, ap, ap₂, refl, sym}
use lib.Bits.{bit_and, bit_or}
use lib.Dec.{eqb, ltb}
use lib.ListN.{get_or, replicate}
use borrow.Author.Tests.{eq-eqb, eqb-false, eqb-true, le-ltb, lt-ltb, ne_eqb}
use Rattle.laws.specs.Bits.{bit}
use Rattle.laws.specs.Connective.{both}
use Rattle.laws.proofs.BitLaws.{bit-zero, bit-only}
use Rattle.laws.proofs.ConnectiveLaws.{both_left, or_right}
use Rattle.laws.proofs.ListLaws.{zeros}
use Rattle.laws.proofs.BoundedLaws.{ltb-skip}
use Rattle.worlds.specs.Coherent.{SourceTable}
use Rattle.sheets.specs.RowsBy.{Stepped, is_place}
use Rattle.sheets.proofs.MaskRowLaws.{all_types, mask_step}

true-both : (a : Bool) → both true a ≡ a
unfolding both
true-both a = refl

module _ (targets : List ℕ) where
  -- the table is turned for the places below x
  abbrev pub TurnedTo : ℕ → List ℕ → Type 0
  TurnedTo x r = (t s u : ℕ) → t < 24 → s < 32 → u < 24 → bit t (get_or r (u * 32 + s) 0) ≡ ltb (t * 32 + s) x && bit u (get_or targets (t * 32 + s) 0)

  pub turned-begin : TurnedTo 0 (replicate 768 0)
  turned-begin t s u lt ls lu =
      ap (bit t) (zeros 768 (u * 32 + s)) ∙ bit-zero t ∙ sym (ap (λ (b : Bool). b && bit u (get_or targets (t * 32 + s) 0)) (le-ltb (t * 32 + s) 0 (omega arith)))

  -- the place of slot s of type u has the mark, as u is a target at x
  place_is : (mask x s u : ℕ) → s < 32 → u < 24 → is_place mask (x % 32) 24 (u * 32 + s) ≡ both (eqb (x % 32) s) (bit u mask)
  unfolding is_place both
  place_is mask x s u ls lu =
      let a : (u * 32 + s) / 32 ≡ u = omega arith in
      let b : (u * 32 + s) % 32 ≡ s = omega arith in
      rw (a, b, lt-ltb u 24 lu)

  -- a number with the mark, by bits
  marked : (t m one x : ℕ) → t < 24 → ((j : ℕ) → bit j one ≡ bit j 0 || eqb j (x / 32)) → bit t (bit_and (bit_or m one) 16777215) ≡ bit t m || eqb t (x / 32)
  marked t m one x lt f =
      mask_step t m one 16777215 ∙ ap₂ (λ (a b : Bool). (bit t m || a) && b) (bit-only (x / 32) one f t) (all_types t lt) ∙ and-true (bit t m || eqb t (x / 32))

  pub turned-next : (x : ℕ) (r l : List ℕ) (one : ℕ) → x < 768 → ((j : ℕ) → bit j one ≡ bit j 0 || eqb j (x / 32)) → TurnedTo x r
      → Stepped (λ m. bit_and (bit_or m one) 16777215) (get_or targets x 0) (x % 32) 24 r l → TurnedTo (x + 1) l
  turned-next x r l one lx f inv so t s u lt ls lu =
      ap (bit t) (so.is (u * 32 + s) (omega arith) ∙ ap (λ (b : Bool). cond b (bit_and (bit_or old one) 16777215) old) (place_is (get_or targets x 0) x s u ls lu))
      ∙ go (eqb (t * 32 + s) x) refl
    where
      old : ℕ
      old = get_or r (u * 32 + s) 0

      here : (b : Bool) → bit t old ≡ false → eqb t (x / 32) ≡ true → bit t (cond b (bit_and (bit_or old one) 16777215) old) ≡ b
      here true n e = marked t old one x lt f ∙ ap (λ (b : Bool). bit t old || b) e ∙ or_right (bit t old) true refl
      here false n e = n

      there : (b : Bool) → (b ≡ true → eqb t (x / 32) ≡ false) → bit t (cond b (bit_and (bit_or old one) 16777215) old) ≡ bit t old
      there true e = marked t old one x lt f ∙ ap (λ (b : Bool). bit t old || b) (e refl) ∙ or-false (bit t old)
      there false e = refl

      go : (b : Bool) → eqb (t * 32 + s) x ≡ b → bit t (cond (both (eqb (x % 32) s) (bit u (get_or targets x 0))) (bit_and (bit_or old one) 16777215) old)
          ≡ ltb (t * 32 + s) (x + 1) && bit u (get_or targets (t * 32 + s) 0)
      go true e =
          let p : t * 32 + s ≡ x = eqb-true _ _ e in
          let a : t ≡ x / 32 = omega arith in
          let b : x % 32 ≡ s = omega arith in
          let none : bit t old ≡ false = inv t s u lt ls lu ∙ ap (λ (c : Bool). c && bit u (get_or targets (t * 32 + s) 0)) (le-ltb (t * 32 + s) x (omega arith)) in
          ap (λ (c : Bool). bit t (cond (both c (bit u (get_or targets x 0))) (bit_and (bit_or old one) 16777215) old)) (eq-eqb (x % 32) s b)
          ∙ here (both true (bit u (get_or targets x 0))) none (eq-eqb t (x / 32) a)
          ∙ ap₂ (λ (c : Bool) (k : ℕ). both c (bit u (get_or targets k 0))) refl (sym p)
          ∙ true-both (bit u (get_or targets (t * 32 + s) 0))
          ∙ sym (ap (λ (c : Bool). c && bit u (get_or targets (t * 32 + s) 0)) (lt-ltb (t * 32 + s) (x + 1) (omega arith)))
      go false e =
          let p : t * 32 + s ≡ x → ⊥ = eqb-false _ _ e in
          there (both (eqb (x % 32) s) (bit u (get_or targets x 0)))
          (λ q.
          let b : x % 32 ≡ s = eqb-true _ _ (both_left (eqb (x % 32) s) (bit u (get_or targets x 0)) q) in
          ne_eqb t (x / 32) (λ a. p (omega arith)))
          ∙ inv t s u lt ls lu ∙ ap (λ (c : Bool). c && bit u (get_or targets (t * 32 + s) 0)) (sym (ltb-skip (t * 32 + s) x p))

  -- no target at x
  pub turned-skip : (x : ℕ) (r : List ℕ) → get_or targets x 0 ≡ 0 → TurnedTo x r → TurnedTo (x + 1) r
  turned-skip x r z inv t s u lt ls lu = inv t s u lt ls lu ∙ go (eqb (t * 32 + s) x) refl
    where
      go : (b : Bool) → eqb (t * 32 + s) x ≡ b → ltb (t * 32 + s) x && bit u (get_or targets (t * 32 + s) 0) ≡ ltb (t * 32 + s) (x + 1) && bit u (get_or targets (t * 32 + s) 0)
      go true e =
          let p : t * 32 + s ≡ x = eqb-true _ _ e in
          let n : bit u (get_or targets (t * 32 + s) 0) ≡ false = ap (λ (k : ℕ). bit u (get_or targets k 0)) p ∙ ap (bit u) z ∙ bit-zero u in
          ap₂ (λ (a b : Bool). a && b) (le-ltb (t * 32 + s) x (omega arith)) n ∙ sym (ap₂ (λ (a b : Bool). a && b) (lt-ltb (t * 32 + s) (x + 1) (omega arith)) n)
      go false e = ap (λ (c : Bool). c && bit u (get_or targets (t * 32 + s) 0)) (sym (ltb-skip (t * 32 + s) x (eqb-false _ _ e)))

  pub turned-done : (x : ℕ) (r : List ℕ) → 768 ≤ x → TurnedTo x r → SourceTable targets r
  turned-done x r l inv = record {
    at = λ t s u lt ls lu. inv t s u lt ls lu ∙ ap (λ (b : Bool). b && bit u (get_or targets (t * 32 + s) 0)) (lt-ltb (t * 32 + s) x (omega arith));
  }
