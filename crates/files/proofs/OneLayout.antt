-- No content of 0x50 is on its layout in both editions: with the other edition byte it is "content off its layout".
-- Edition 2 takes the first byte of the left role for the low byte of up. Where a second one stands there, it takes that for the length
-- of the role, which no name byte is. Else it takes the right type for that length, and what follows for the name: the third byte of it
-- would be the length of the right role, so the type is 1 or 2, and the high byte of a limit is then a byte of the right role.
-- Assumes nothing.
use Prim.Native.Nat.{◌*◌, ◌+◌, ◌-◌, ◌<◌, ◌≤◌, suc, zero, ℕ}
use native.Mathlib.Omega.{arith}
use mathlib.Core.Bool.{true}
use mathlib.Core.List.{List, [], ◌∷◌}
use mathlib.Core.Logic.{⊎_elim}
use mathlib.Core.Path.{◌∙◌, ◌≡◌, ap, refl, subst, sym}
use lib.Dec.{leb}
use lib.ListN.{drop, get_or, length, length-drop, take}
use lib.Seq.{drop-drop, get_or-drop, get_or-take, length-take-le}
use borrow.Author.Tests.{eqb-true, leb-true, ltb-true}
use Rattle.laws.specs.Connective.{both, imp}
use Rattle.files.specs.Content.{at_end, byte, name_in, past_name, starts_name}
use Rattle.files.specs.DiagramLayout.{association_laid, end_laid, past_end}
use Rattle.files.specs.Limit.{limit_at, limit_written, limits_laid, most_of}
use Rattle.files.specs.Name.{name_byte, valid_name}
use Rattle.laws.proofs.BoundedLaws.{all-at}
use Rattle.laws.proofs.ConnectiveLaws.{both_left, both_right, either-cases}

-- the "bytes from A–Z, a–z, 0–9 and underscore" are among these; no length of a name and no high byte of a limit is
abbrev NameRange : ℕ → Type 0
NameRange b = (48 ≤ b) × (b ≤ 122)

between : (low high b : ℕ) → 48 ≤ low → high ≤ 122 → both (leb low b) (leb b high) ≡ true → NameRange b
between low high b l h e =
    let least : low ≤ b = leb-true low b (both_left _ _ e) in
    let most : b ≤ high = leb-true b high (both_right _ _ e) in
    (omega arith, omega arith)

name-range : (b : ℕ) → name_byte b ≡ true → NameRange b
unfolding name_byte
name-range b h =
    ⊎_elim (between 65 90 b (omega arith) (omega arith))
    (λ r. ⊎_elim (between 97 122 b (omega arith) (omega arith))
    (λ q. ⊎_elim (between 48 57 b (omega arith) (omega arith)) (λ p. let e : b ≡ 95 = eqb-true b 95 p in (omega arith, omega arith))
    (either-cases _ _ q)) (either-cases _ _ r)) (either-cases _ _ h)

-- c starts with a name
record Named (c : List ℕ) : Type 0 where
  some : 1 ≤ byte c 0
  few : byte c 0 ≤ 16
  whole : 1 + byte c 0 ≤ length c
  each : (i : ℕ) → i < byte c 0 → NameRange (byte c (suc i))

named : (c : List ℕ) → starts_name c ≡ true → Named c
unfolding starts_name name_in valid_name
named [] h = let l : 1 ≤ 0 = leb-true 1 0 (both_left _ _ h) in absurd (omega arith)
named (n ∷ s) h =
    let valid = both_right _ _ h in
    let whole : 1 + n ≤ suc (length s) = leb-true (1 + n) (suc (length s)) (both_left _ _ h) in
    let size : length (take n s) ≡ n = length-take-le n s (omega arith) in
    record {
      some = subst (λ (m : ℕ). 1 ≤ m) size (leb-true 1 _ (both_left _ _ (both_left _ _ valid)));
      few = subst (λ (m : ℕ). m ≤ 16) size (leb-true _ 16 (both_right _ _ (both_left _ _ valid)));
      whole = whole;
      each = λ i l. name-range (get_or s i 0)
          (ap name_byte (sym (get_or-take n s i 0 l)) ∙ all-at _ (length (take n s)) (both_right _ _ valid) i (subst (λ (m : ℕ). i < m) (sym size) l));
    }

narrow-end : (c : List ℕ) → end_laid 1 c ≡ true → Named (drop 3 c)
unfolding end_laid
narrow-end c h = named (drop 3 c) (both_right _ _ (both_right _ _ h))

-- c starts with an end of edition 2: no name byte is the high byte of a limit
record Wide (c : List ℕ) : Type 0 where
  low : NameRange (byte c 1) → ⊥
  up : NameRange (byte c 3) → ⊥
  role : Named (drop 5 c)

wide-end : (c : List ℕ) → end_laid 2 c ≡ true → Wide c
unfolding end_laid limits_laid limit_at limit_written imp
wide-end c h =
    let limits = both_left _ _ h in
    let low-fits : byte c 1 * 256 + byte c 2 ≤ most_of 2 = leb-true _ (most_of 2) (both_left _ _ limits) in
    let written : byte c 4 < 256 = ltb-true _ 256 (both_right _ _ (both_left _ _ (both_right _ _ h))) in
    record {
      low = λ p. let least : 48 ≤ byte c 1 = p.0 in omega arith;
      up = λ p.
          let least : 48 ≤ byte c 3 = p.0 in
          let most : byte c 3 ≤ 122 = p.1 in
          ⊎_elim (λ q. let fits : byte c 3 * 256 + byte c 4 ≤ most_of 2 = leb-true _ (most_of 2) (both_left _ _ q) in omega arith)
          (λ q. let none : byte c 3 * 256 + byte c 4 ≡ 65535 = eqb-true _ 65535 q in omega arith) (either-cases _ _ (both_right _ _ limits));
      role = named (drop 5 c) (both_right _ _ (both_right _ _ h));
    }

-- b is the right end of edition 1, to the end of the content. Edition 2 takes its type for the length of the left role.
right-end : (b : List ℕ) → Named (drop 3 b) → length (drop 3 b) ≤ 1 + byte (drop 3 b) 0 → Named b → Wide (drop (1 + byte b 0) b) → ⊥
right-end (zero ∷ low ∷ up ∷ n ∷ role) right l left end = let h : 1 ≤ 0 = left.some in omega arith
right-end (suc zero ∷ low ∷ up ∷ n ∷ role) right l left end =
    let size : length (drop 3 role) ≡ length role - 3 = length-drop 3 role in
    let whole : 1 + byte (drop 3 role) 0 ≤ length (drop 3 role) = end.role.whole in
    let long : suc (length role) ≤ 1 + n = l in
    end.up (right.each 1 (let h : 1 < n = omega arith in h))
right-end (suc (suc zero) ∷ low ∷ up ∷ n ∷ role) right l left end = end.low (right.each 0 (let h : 1 ≤ n = right.some in omega arith))
right-end (suc (suc (suc t)) ∷ low ∷ up ∷ n ∷ role) right l left end =
    let few : n ≤ 16 = right.few in
    let least : 48 ≤ n = (left.each 2 (omega arith)).0 in
    omega arith
right-end (t ∷ low ∷ up ∷ []) right l left end = let h : 1 ≤ 0 = right.some in omega arith
right-end (t ∷ low ∷ []) right l left end = let h : 1 ≤ 0 = right.some in omega arith
right-end (t ∷ []) right l left end = let h : 1 ≤ 0 = right.some in omega arith
right-end [] right l left end = let h : 1 ≤ 0 = right.some in omega arith

-- a is the left end in both: where its role has a second byte, edition 2 takes that for the length of the role
one-letter : (a : List ℕ) → Named (drop 3 a) → Named (drop 5 a) → byte (drop 3 a) 0 ≡ 1
one-letter a narrow wide = go (byte (drop 3 a) 0) refl
  where
    go : (n : ℕ) → byte (drop 3 a) 0 ≡ n → n ≡ 1
    go zero q = let h : 1 ≤ byte (drop 3 a) 0 = narrow.some in absurd (omega arith)
    go (suc zero) q = refl
    go (suc (suc n)) q =
        let e : byte (drop 3 a) 2 ≡ byte (drop 5 a) 0 = get_or-drop 3 a 2 0 ∙ sym (get_or-drop 5 a 0 0) in
        let least : 48 ≤ byte (drop 3 a) 2 = (narrow.each 1 (omega arith)).0 in
        let few : byte (drop 5 a) 0 ≤ 16 = wide.few in
        absurd (omega arith)

-- the right end of edition 1 starts where edition 2 looks for the left role
behind : (a : List ℕ) → byte (drop 3 a) 0 ≡ 1 → past_end 1 a ≡ drop 5 a
unfolding past_end past_name
behind a e = ap (λ (n : ℕ). drop (1 + n) (drop 3 a)) e ∙ drop-drop 2 3 a

-- behind the right role nothing is left
ended : (b : List ℕ) → at_end (past_end 1 b) ≡ true → length (drop 3 b) ≤ 1 + byte (drop 3 b) 0
unfolding at_end past_end past_name
ended b h =
    let n : ℕ = byte (drop 3 b) 0 in
    let none : length (drop (1 + n) (drop 3 b)) ≡ 0 = eqb-true _ 0 h in
    let size : length (drop (1 + n) (drop 3 b)) ≡ length (drop 3 b) - (1 + n) = length-drop (1 + n) (drop 3 b) in
    omega arith

pub one-layout : (c : List ℕ) → association_laid 1 c ≡ true → association_laid 2 c ≡ true → ⊥
unfolding association_laid past_end past_name
one-layout c h1 h2 =
    let a : List ℕ = drop 2 c in
    let ends1 = both_right _ _ (both_right _ _ h1) in
    let ends2 = both_right _ _ (both_right _ _ h2) in
    let role : Named (drop 5 a) = (wide-end a (both_left _ _ ends2)).role in
    let past : past_end 1 a ≡ drop 5 a = behind a (one-letter a (narrow-end a (both_left _ _ ends1)) role) in
    right-end (drop 5 a) (subst (λ (b : List ℕ). Named (drop 3 b)) past (narrow-end (past_end 1 a) (both_left _ _ (both_right _ _ ends1))))
    (subst (λ (b : List ℕ). length (drop 3 b) ≤ 1 + byte (drop 3 b) 0) past (ended (past_end 1 a) (both_right _ _ (both_right _ _ ends1)))) role
    (wide-end (past_end 2 a) (both_left _ _ (both_right _ _ ends2)))
