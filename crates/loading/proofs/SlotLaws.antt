-- Names in slots of 17 bytes: a name written into slot n stands there, and the slots before it are as they were.
-- Assumes nothing.
use mathlib.Core.Path.{◌≡◌, sym, ap, ◌∙◌}
use mathlib.Core.Bool.{true}
use Prim.Native.Nat.{ℕ, ◌+◌, ◌*◌, ◌-◌, ◌≤◌, ◌<◌, min}
use native.Mathlib.Nat.{min-eq_right, add-zero}
use native.Mathlib.Omega.{arith}
use mathlib.Core.List.{List, ◌∷◌, ◌++◌}
use lib.ListN.{length, get_or, take, drop}
use lib.Seq.{get_or-take, get_or-drop, take-append_seam, take-length, drop-drop}
use borrow.Rule.Slice.PartMut.{put_mid}
use borrow.Author.Tests.{leb-true}
use Rattle.laws.proofs.ConnectiveLaws.{both_left, both_right}
use Rattle.laws.proofs.PastedLaws.{copied, drop-pasted, length-pasted, part-front, pasted, take-pasted}
use Rattle.laws.specs.Lists.{over}
use Rattle.field_writers.specs.Put.{Put}
use Rattle.fields.specs.Slot.{slot_name}
use Rattle.files.specs.Content.{name_bytes, name_in, starts_name}
use Rattle.files.specs.Name.{valid_name}
use Rattle.files.proofs.RecordWellFormed.{starts-valid}
use Rattle.loading.specs.Stored.{NameStored}

-- a name is in the front that has its slot
slot-front : (l : List ℕ) (i k : ℕ) → i * 17 + 17 ≤ k → slot_name (take k l) i ≡ slot_name l i
unfolding slot_name
slot-front l i k h =
    let p : i * 17 < k = omega arith in
    let e : get_or (take k l) (i * 17) 0 ≡ get_or l (i * 17) 0 = get_or-take k l (i * 17) 0 p in
    let m : ℕ = min 16 (get_or l (i * 17) 0) in
    let q : i * 17 + 1 + m ≤ k = omega arith in
    ap (λ (n : ℕ). take (min 16 n) (drop (i * 17 + 1) (take k l))) e ∙ part-front l m (i * 17 + 1) k q

slot-before : (d w : List ℕ) (n i : ℕ) → i < n → n * 17 ≤ length d → slot_name (pasted d (n * 17) w) i ≡ slot_name d i
slot-before d w n i h k =
    let p : i * 17 + 17 ≤ n * 17 = omega arith in
    sym (slot-front (pasted d (n * 17) w) i (n * 17) p) ∙ ap (λ (l : List ℕ). slot_name l i) (take-pasted d w (n * 17) k) ∙ slot-front d i (n * 17) p

slot-new : (d w : List ℕ) (n : ℕ) → length w ≤ 16 → n * 17 ≤ length d → slot_name (pasted d (n * 17) (length w ∷ w)) n ≡ w
unfolding slot_name
slot-new d w n h k =
    let l : List ℕ = pasted d (n * 17) (length w ∷ w) in
    let rest : List ℕ = drop (n * 17 + length (length w ∷ w)) d in
    let back : drop (n * 17) l ≡ length w ∷ (w ++ rest) = drop-pasted d (length w ∷ w) (n * 17) k in
    let first : get_or l (n * 17) 0 ≡ length w =
    ap (λ (j : ℕ). get_or l j 0) (sym (add-zero (n * 17))) ∙ sym (get_or-drop (n * 17) l 0 0) ∙ ap (λ (x : List ℕ). get_or x 0 0) back in
    let after : drop (n * 17 + 1) l ≡ w ++ rest = sym (drop-drop 1 (n * 17) l) ∙ ap (drop 1) back in
    let small : min 16 (length w) ≡ length w = min-eq_right h in
    rw (first, after, small, take-append_seam w rest)

-- the name put into the row from slot i on
pub name-put : (d w e : List ℕ) (i n : ℕ) → i * 17 + 17 ≤ length d → length w ≤ 16 → Put (name_bytes w) (take (length d - i * 17) (drop (i * 17) d)) n e
    → NameStored d i w (put_mid (i * 17) (length d - i * 17) d e)
unfolding name_bytes over
name-put d w e i n room short put =
    let xs : List ℕ = length w ∷ w in
    let fits : i * 17 + length xs ≤ length d = omega arith in
    let is : put_mid (i * 17) (length d - i * 17) d e ≡ pasted d (i * 17) xs =
    copied d xs e (i * 17) fits (put.bytes ∙ ap (λ (x : List ℕ). x ++ drop (length xs) (take (length d - i * 17) (drop (i * 17) d))) (sym (take-length xs))) in
    let most : i * 17 ≤ length d = omega arith in
    record {
      size = ap length is ∙ length-pasted d xs (i * 17) fits;
      kept = λ j l. ap (λ (x : List ℕ). slot_name x j) is ∙ slot-before d xs i j l most;
      is = ap (λ (x : List ℕ). slot_name x i) is ∙ slot-new d w i short most;
    }

-- a name on its layout has room in a slot
pub name-short : (c : List ℕ) → starts_name c ≡ true → length (name_in c) ≤ 16
unfolding valid_name
name-short c h = leb-true (length (name_in c)) 16 (both_right _ _ (both_left _ _ (starts-valid c h)))
