-- The names of a text, where none is over 16 bytes, are names of 01; such a name is one too with its first byte lowered.
-- Assumes nothing.
use Prim.Native.Nat.{◌+◌, ◌<◌, ◌≤◌, suc, zero, ℕ}
use native.Mathlib.Omega.{arith}
use mathlib.Core.Bool.{Bool, cond, false, true}
use mathlib.Core.List.{List, [], ◌∷◌}
use mathlib.Core.Path.{◌≡◌, refl}
use lib.Dec.{leb}
use lib.ListN.{get_or, length}
use borrow.Author.Tests.{le-leb, leb-true}
use Rattle.laws.specs.Connective.{both}
use Rattle.files.specs.Name.{Name, name_byte, valid_name}
use Rattle.texts.specs.Declaration.{lower, lowered}
use Rattle.texts.specs.Grammar.{Belongs, Item, Tree, item_names}
use Rattle.texts.specs.TextChecks.{has_long_name}
use Rattle.laws.proofs.BoundedLaws.{all-at, all_of}
use Rattle.laws.proofs.ConnectiveLaws.{both_left, both_of, both_right, either_left, either-right}
use Rattle.laws.proofs.EachLaws.{Each, each_both, each-then}
use Rattle.texts.proofs.NameSpellingLaws.{names-spelled}
use Rattle.texts.proofs.ShortNameLaws.{Short, tree-short}
use Rattle.texts.proofs.SpellingLaws.{Spelled, spelled-valid}

abbrev pub Valid : Name → Type 0
Valid w = valid_name w ≡ true

-- ---- a name with its first byte lowered

small-letter : (b : ℕ) → both (leb 65 b) (leb b 90) ≡ true → name_byte (32 + b) ≡ true
unfolding name_byte
small-letter b e =
    let l : 65 ≤ b = leb-true 65 b (both_left _ _ e) in
    let h : b ≤ 90 = leb-true b 90 (both_right _ _ e) in
    either-right _ _ (either_left _ _ (both_of _ _ (le-leb 97 (32 + b) (omega arith)) (le-leb (32 + b) 122 (omega arith))))

lower-byte : (b : ℕ) → name_byte b ≡ true → name_byte (lower b) ≡ true
unfolding lower
lower-byte b e = go (both (leb 65 b) (leb b 90)) refl
  where
    go : (c : Bool) → both (leb 65 b) (leb b 90) ≡ c → name_byte (cond c (32 + b) b) ≡ true
    go true c = small-letter b c
    go false c = e

pub lowered-valid : (w : Name) → valid_name w ≡ true → valid_name (lowered w) ≡ true
unfolding valid_name lowered
lowered-valid [] e = e
lowered-valid (x ∷ w) e =
    both_of _ _ (both_left _ _ e) (all_of (λ i. name_byte (get_or (lower x ∷ w) i 0)) (length (x ∷ w)) (go (all-at (λ i. name_byte (get_or (x ∷ w) i 0)) (length (x ∷ w)) (both_right _ _ e))))
  where
    go : ((i : ℕ) → i < length (x ∷ w) → name_byte (get_or (x ∷ w) i 0) ≡ true) → (i : ℕ) → i < length (x ∷ w) → name_byte (get_or (lower x ∷ w) i 0) ≡ true
    go f zero l = lower-byte x (f zero l)
    go f (suc i) l = f (suc i) l

-- ---- the names of a text

valid-item : (i : Item) → Each Spelled (item_names i) × Each Short (item_names i) → Each Valid (item_names i)
valid-item i f =
    each-then (λ w. Spelled w × Short w) Valid (λ w g. spelled-valid w g.0 g.1) (item_names i) (each_both Spelled Short (item_names i) f.0 f.1)

pub names-valid : (s : List ℕ) (t : Tree) → Belongs s t → has_long_name t ≡ false → Each (λ i. Each Valid (item_names i)) t.items
names-valid s t b e =
    each-then (λ i. Each Spelled (item_names i) × Each Short (item_names i)) (λ i. Each Valid (item_names i)) valid-item t.items
    (each_both (λ i. Each Spelled (item_names i)) (λ i. Each Short (item_names i)) t.items (names-spelled s t b) (tree-short t e))
