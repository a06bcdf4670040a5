-- Writers of replies: nothing where there is no room, a copy, and a copy behind a copy.
-- Assumes nothing.
use Prim.Native.Nat.{ℕ, ◌+◌, ◌-◌, ◌<◌, ◌≤◌}
use native.Mathlib.Omega.{arith}
use mathlib.Core.List.{List, ◌++◌}
use mathlib.Core.Path.{◌≡◌, refl, sym, ap, ◌∙◌}
use lib.ListN.{length, take, drop, length-append}
use lib.Seq.{take-length}
use borrow.Rule.Slice.PartMut.{put_mid}
use Rattle.laws.specs.Lists.{over}
use Rattle.laws.proofs.OverLaws.{put_on}
use Rattle.std.specs.Prelude.{None, Some}
use Rattle.coding.specs.Puts.{Puts}

pub puts-nothing : (xs d : List ℕ) → length d < length xs → Puts xs d None d
puts-nothing xs d h = record { fits = λ l. absurd (omega (arith, h, l)); not-fits = λ l. (refl, refl) }

-- as a copy says it
copied : (xs d d' : List ℕ) → d' ≡ take (length xs) xs ++ drop (length xs) d → d' ≡ over xs d
unfolding over
copied xs d d' q = q ∙ ap (λ (x : List ℕ). x ++ drop (length xs) d) (take-length xs)

pub puts-both : (xs ys d d' e : List ℕ) (n m : ℕ) → length xs + length ys ≤ length d → n ≡ length xs → d' ≡ take (length xs) xs ++ drop (length xs) d
    → m ≡ length ys → e ≡ take (length ys) ys ++ drop (length ys) (take (length d' - n) (drop n d')) → Puts (xs ++ ys) d (Some (n + m)) (put_mid n (length d' - n) d' e)
puts-both xs ys d d' e n m h en q em r = record {
  fits = λ l. (
    ap (λ (k : ℕ). Some k) (let k : n + m ≡ length (xs ++ ys) = omega (arith, en, em, length-append xs ys) in k),
    put_on xs ys d d' e n (sym en) (omega (arith, h, en)) (copied xs d d' q) (copied ys (take (length d' - n) (drop n d')) e r),
  );
  not-fits = λ l. absurd (omega (arith, h, l, length-append xs ys));
}
