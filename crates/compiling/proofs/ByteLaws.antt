-- The bytes of the entries, written entry by entry over zeros, are those of the compiled list.
-- Assumes nothing.
use Prim.Native.Nat.{ℕ, zero, suc, ◌+◌, ◌-◌, ◌*◌, ◌<◌, ◌≤◌}
use native.Mathlib.Nat.{add-zero, add-suc, suc-mul}
use native.Mathlib.Omega.{arith}
use mathlib.Core.List.{List, ◌++◌, append_assoc, append-nil}
use mathlib.Core.Path.{◌≡◌, refl, sym, ap, ap₂, ◌∙◌}
use lib.ListN.{length, take, drop, replicate, length-append, length-replicate, drop_of_length-le, replicate-append-replicate, get_or-eq_default}
use lib.Seq.{take_at, drop_at, drop-drop}
use borrow.Rule.Slice.PartMut.{put_mid}
use Rattle.laws.specs.Lists.{joined, over}
use Rattle.laws.proofs.JoinedLaws.{joined-more, joined-ext}
use Rattle.laws.proofs.OverLaws.{over-nil}
use Rattle.diagrams.specs.View.{diagram_of}
use Rattle.diagrams.specs.declared.StoredDiagram.{StoredDiagram}
use Rattle.rules.specs.Compile.{Entry, bare, compile, compiled_bytes, entry_at, entry_bytes}
use Rattle.entries.specs.declared.Entries.{Entries}
use Rattle.entries.specs.View.{entry_in}
use Rattle.compiling.specs.Compiled.{Compiles, bytes_to, written}
use Rattle.compiling.proofs.GatherLaws.{compiled-at, compiled-number}

abbrev zeros : List ℕ
zeros = replicate 448 0

no_more : length zeros ≡ 448
no_more = length-replicate {A = ℕ} 448 0

-- zs behind the a bytes xs
put-more : (xs zs d d' : List ℕ) (a n : ℕ) → length xs ≡ a → length zs ≡ n → d' ≡ over xs d → put_mid a n d' zs ≡ over (xs ++ zs) d
unfolding over
put-more xs zs d d' a n e f p =
    let front : take a d' ≡ xs = ap (take a) p ∙ take_at xs (drop (length xs) d) a e in
    let back : drop a d' ≡ drop a d = ap (drop a) p ∙ drop_at xs (drop (length xs) d) a e ∙ ap (λ (k : ℕ). drop k d) e in
    let size : length (xs ++ zs) ≡ a + n = omega (arith, length-append xs zs) in
    ap₂ (λ (x y : List ℕ). x ++ (zs ++ drop n y)) front back ∙ sym (append_assoc xs zs (drop n (drop a d)))
    ∙ ap (λ (y : List ℕ). (xs ++ zs) ++ y) (drop-drop n a d ∙ ap (λ (m : ℕ). drop m d) (sym size))

module _ (e : Entries) where
  length-bytes : (n : ℕ) → length (bytes_to e n) ≡ n * 7
  unfolding bytes_to joined
  length-bytes zero = refl
  length-bytes (suc n) = omega (arith, length-append (bytes_to e n) (entry_bytes (entry_in e n)), length-bytes n)

  pub bytes-begin : zeros ≡ written e 0
  unfolding written bytes_to joined
  bytes-begin = sym (over-nil zeros)

  next : (i : ℕ) → bytes_to e (i + 1) ≡ bytes_to e i ++ entry_bytes (entry_in e i)
  unfolding bytes_to
  next i = joined-more (λ k. entry_bytes (entry_in e k)) i

  pub bytes-more : (list es : List ℕ) (i k : ℕ) → i < 64 → k ≡ 7 → list ≡ written e i → es ≡ entry_bytes (entry_in e i) → put_mid (i * 7) k list es ≡ written e (i + 1)
  unfolding written
  bytes-more list es i k h w p q =
      put-more (bytes_to e i) es zeros list (i * 7) k (length-bytes i) (ap length q ∙ sym w) p
      ∙ ap (λ (l : List ℕ). over l zeros) (ap (λ (l : List ℕ). bytes_to e i ++ l) q ∙ sym (next i))

  pub bytes-end : (n : ℕ) → n ≡ 64 → written e n ≡ bytes_to e 64
  unfolding written over
  bytes-end n p =
      let past : length zeros ≤ length (bytes_to e 64) = omega (arith, no_more, length-bytes 64) in
      ap (λ (k : ℕ). over (bytes_to e k) zeros) p
      ∙ ap (λ (l : List ℕ). bytes_to e 64 ++ l) (drop_of_length-le zeros past) ∙ append-nil (bytes_to e 64)

-- rows past the first n that are seven zeros each
padded : (g : ℕ → List ℕ) (n : ℕ) → ((i : ℕ) → n ≤ i → g i ≡ replicate 7 0) → (m : ℕ) → joined g (n + m) ≡ joined g n ++ replicate (m * 7) 0
unfolding joined
padded g n f zero = ap (joined g) (add-zero n) ∙ sym (append-nil (joined g n))
padded g n f (suc m) =
    let h : n ≤ n + m = omega arith in
    ap (joined g) (add-suc n m) ∙ ap₂ (λ (x y : List ℕ). x ++ y) (padded g n f m) (f (n + m) h)
    ∙ append_assoc (joined g n) (replicate (m * 7) 0) (replicate 7 0)
    ∙ ap (λ (l : List ℕ). joined g n ++ l) (replicate-append-replicate (m * 7) 7 0 ∙ ap (λ (k : ℕ). replicate k 0) (sym (suc-mul m 7)))

pub compiled-bytes : (d : StoredDiagram) (e : Entries) → Compiles d e → bytes_to e 64 ≡ compiled_bytes (diagram_of d)
unfolding bytes_to compiled_bytes
compiled-bytes d e c =
    let es = compile (diagram_of d) in
    let n = length es in
    let few : n ≤ 64 = omega (arith, c.few, compiled-number d e c) in
    let whole : 64 ≡ n + (64 - n) = omega arith in
    let rest : (64 - n) * 7 ≡ 448 - 7 * n = omega arith in
    let g : ℕ → List ℕ = λ i. entry_bytes (entry_at es i) in
    joined-ext (λ i. entry_bytes (entry_in e i)) g 64 (λ i l. ap (λ (x : Entry). entry_bytes x) (compiled-at d e c i)) ∙ ap (joined g) whole
    ∙ padded g n (λ i h. ap (λ (x : Entry). entry_bytes x) (get_or-eq_default es (bare 0 0) h)) (64 - n)
    ∙ ap (λ (k : ℕ). joined g n ++ replicate k 0) rest
