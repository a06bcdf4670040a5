-- A list written into the middle of another, for code that copies into a part of a slice.
-- Assumes nothing.
use mathlib.Core.Path.{◌≡◌, refl, ap, ◌∙◌}
use Prim.Native.Nat.{ℕ, zero, suc, ◌+◌, ◌-◌, ◌≤◌}
use native.Mathlib.Omega.{arith}
use mathlib.Core.List.{List, [], ◌∷◌, ◌++◌, append-nil}
use lib.ListN.{length, take, drop, length-append, length-take, length-drop, drop_of_length-le}
use lib.Seq.{take-take, take_at, drop_at, take-length, length-take-le, drop-drop}
use borrow.Rule.Slice.PartMut.{put_mid}
use Rattle.laws.proofs.ListLaws.{from_is}

-- d with w from index a on
abbrev pub pasted : List ℕ → ℕ → List ℕ → List ℕ
pasted d a w = take a d ++ (w ++ drop (a + length w) d)

-- what a slice holds once w was copied into its part from a on
pub copied : (d w e : List ℕ) (a : ℕ) → a + length w ≤ length d
    → e ≡ take (length w) w ++ drop (length w) (take (length d - a) (drop a d)) → put_mid a (length d - a) d e ≡ pasted d a w
copied d w e a h q =
    let whole : take (length d - a) (drop a d) ≡ drop a d = from_is d a in
    let past : length (drop a d) ≤ length d - a = omega (arith, length-drop a d) in
    let none : drop (length d - a) (drop a d) ≡ [] = drop_of_length-le (drop a d) past in
    let part : e ≡ w ++ drop (a + length w) d = q ∙ ap (λ (l : List ℕ). take (length w) w ++ drop (length w) l) whole ∙ ap (λ (l : List ℕ). l ++ drop (length w) (drop a d)) (take-length w) ∙ ap (λ (l : List ℕ). w ++ l) (drop-drop (length w) a d) in
    cc (append-nil (w ++ drop (a + length w) d))

pub take-pasted : (d w : List ℕ) (a : ℕ) → a ≤ length d → take a (pasted d a w) ≡ take a d
take-pasted d w a h = take_at (take a d) (w ++ drop (a + length w) d) a (length-take-le a d h)

pub drop-pasted : (d w : List ℕ) (a : ℕ) → a ≤ length d → drop a (pasted d a w) ≡ w ++ drop (a + length w) d
drop-pasted d w a h = drop_at (take a d) (w ++ drop (a + length w) d) a (length-take-le a d h)

pub length-pasted : (d w : List ℕ) (a : ℕ) → a + length w ≤ length d → length (pasted d a w) ≡ length d
length-pasted d w a h =
    omega (arith, length-append (take a d) (w ++ drop (a + length w) d), length-append w (drop (a + length w) d), length-take a d, length-drop (a + length w) d)

-- a part of a list is a part of a long enough front of it
pub part-front : (l : List ℕ) (m a k : ℕ) → a + m ≤ k → take m (drop a (take k l)) ≡ take m (drop a l)
part-front l m zero k h = take-take m k l (omega arith)
part-front l m (suc a) zero h = absurd (omega arith)
part-front [] m (suc a) (suc k) h = refl
part-front (x ∷ l) m (suc a) (suc k) h = part-front l m a k (omega arith)
