-- The marks' lengths. The statements over all marks are computed.
-- Assumes nothing.
use Prim.Native.Nat.{ℕ, ◌<◌, ◌≤◌}
use mathlib.Core.Bool.{true}
use mathlib.Core.List.{[]}
use mathlib.Core.Path.{◌≡◌, refl}
use lib.Dec.{leb}
use lib.ListN.{get_or, length}
use borrow.Author.Tests.{leb-true}
use Rattle.laws.specs.Bounded.{all}
use Rattle.laws.proofs.BoundedLaws.{all-at}
use Rattle.texts.specs.Token.{marks}

-- ---- all marks

all-least : all (λ k. leb 1 (length (get_or marks k []))) 16 ≡ true
unfolding all
all-least = refl

all_most : all (λ k. leb (length (get_or marks k [])) 3) 16 ≡ true
unfolding all
all_most = refl

-- ---- one mark

module _ (k : ℕ) (h : k < 16) where
  pub mark-least : 1 ≤ length (get_or marks k [])
  mark-least = leb-true 1 (length (get_or marks k [])) (all-at (λ k. leb 1 (length (get_or marks k []))) 16 all-least k h)

  pub mark-most : length (get_or marks k []) ≤ 3
  mark-most = leb-true (length (get_or marks k [])) 3 (all-at (λ k. leb (length (get_or marks k [])) 3) 16 all_most k h)
