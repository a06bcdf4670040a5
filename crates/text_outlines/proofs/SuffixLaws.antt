-- The end of a body, by its length: each rest of a body is one, and so is each rest of a rest.
-- Assumes nothing.
use Prim.Native.Nat.{ℕ, ◌+◌, ◌-◌, ◌<◌, ◌≤◌}
use mathlib.Core.List.{List}
use mathlib.Core.Path.{◌≡◌, ap, sym, ◌∙◌}
use native.Mathlib.Decide.{dec_lt}
use native.Mathlib.Omega.{arith}
use lib.ListN.{drop, drop_of_length-le, length, length-drop, take}
use lib.Seq.{drop-drop, drop-length}
use Rattle.text_outlines.specs.Outline.{Suffix}

drop-suffix : (body : List ℕ) (i : ℕ) → Suffix body (drop i body)
drop-suffix body i = go (dec_lt (length body) i)
  where
    go : Dec (length body < i) → Suffix body (drop i body)
    go (yes h) =
        let past : length body ≤ i = omega arith in
        let n : length body - length (drop i body) ≡ length body = omega (arith, length-drop i body) in
        ap (λ (k : ℕ). drop k body) n ∙ drop-length body ∙ sym (drop_of_length-le body past)
    go (no h) =
        let n : length body - length (drop i body) ≡ i = omega (arith, length-drop i body) in
        ap (λ (k : ℕ). drop k body) n

pub suffix-self : (body : List ℕ) → Suffix body body
suffix-self body = drop-suffix body 0

pub suffix-past : (body s : List ℕ) (i : ℕ) {next : List ℕ} → Suffix body s → next ≡ drop i s → Suffix body next
suffix-past body s i {next} h q =
    let a : ℕ = length body - length s in
    let e : next ≡ drop (a + i) body = q ∙ ap (drop i) (sym h) ∙ drop-drop i a body in
    ap (λ (r : List ℕ). drop (length body - length r) body) e ∙ drop-suffix body (a + i) ∙ sym e

pub suffix_within : (body s : List ℕ) → Suffix body s → length s ≤ length body
suffix_within body s h =
    let e : length (drop (length body - length s) body) ≡ length s = ap length h in
    omega (arith, length-drop (length body - length s) body)

-- a part of the rest, found in the body
pub suffix-part : (body s : List ℕ) (i n : ℕ) {next w : List ℕ} → Suffix body s → next ≡ drop i s → take n (drop i s) ≡ w
    → take n (drop (length body - length next) body) ≡ w
suffix-part body s i n h q e = ap (take n) (suffix-past body s i h q ∙ q) ∙ e
