-- One entry by its kind: which limits it has, and what stands there without an upper one.
-- Assumes nothing.
use Prim.Native.Nat.{ℕ, zero, suc, ◌+◌, ◌-◌, ◌*◌, ◌≤◌}
use native.Mathlib.Omega.{arith}
use mathlib.Core.Bool.{cond}
use mathlib.Core.List.{[], ◌∷◌}
use mathlib.Core.Path.{◌≡◌, refl, sym, ap}
use lib.Dec.{eqb}
use lib.ListN.{get_or}
use borrow.Author.Tests.{eq-eqb, ne_eqb}
use Rattle.diagrams.specs.View.{association_in, end_in, upper_in}
use Rattle.diagrams.specs.declared.Associations.{Associations}
use Rattle.rules.specs.Arrow.{r1, r2}
use Rattle.rules.specs.Compile.{bare, by_rule6, by_rule7, entry_for, kind5, limited, side_number}
use Rattle.rules.specs.Evaluate.{side_of}
use Rattle.entries.specs.View.{entry_of}
use Rattle.compiling.specs.Table.{asked, entries_for}

-- ---- limits

module _ (kind i side low up : ℕ) (h : side ≤ 1) where
  side-number : side_number (side_of side) ≡ side
  side-number = go side h
    where
      go : (s : ℕ) → s ≤ 1 → side_number (cond (eqb s 0) r2 r1) ≡ s
      go zero l = refl
      go (suc zero) l = refl
      go (suc (suc s)) l = absurd (omega arith)

  pub limited-none : up ≡ 65535 → entry_of (kind + 1) i side low 0 ∷ [] ≡ limited kind i (side_of side) low (upper_in up) ∷ []
  unfolding limited upper_in
  limited-none e = rw (eq-eqb up 65535 e) (ap (λ (s : ℕ). entry_of (kind + 1) i s low 0 ∷ []) (sym side-number))

  pub limited-some : (up ≡ 65535 → ⊥) → entry_of kind i side low up ∷ [] ≡ limited kind i (side_of side) low (upper_in up) ∷ []
  unfolding limited upper_in
  limited-some e = rw (ne_eqb up 65535 e) (ap (λ (s : ℕ). entry_of kind i s low up ∷ []) (sym side-number))

-- ---- by kind

module _ (kind side : ℕ) where
  asked-none : kind ≡ 0 → asked kind side ≡ []
  unfolding asked
  asked-none e = rw (eq-eqb kind 0 e)

  asked-five : kind ≡ 5 → asked kind side ≡ kind5 ∷ []
  unfolding asked
  asked-five e = rw (ne_eqb kind 0 (λ p. let z : ⊥ = omega arith in z), eq-eqb kind 5 e)

  asked-one : kind ≡ 1 → asked kind side ≡ by_rule6 (side_of side) ∷ []
  unfolding asked
  asked-one e =
      rw (ne_eqb kind 0 (λ p. let z : ⊥ = omega arith in z), ne_eqb kind 5 (λ p. let z : ⊥ = omega arith in z), eq-eqb kind 1 e)

  asked-three : (kind ≡ 0 → ⊥) → (kind ≡ 5 → ⊥) → (kind ≡ 1 → ⊥) → asked kind side ≡ by_rule7 (side_of side) ∷ []
  unfolding asked
  asked-three a b c = rw (ne_eqb kind 0 a, ne_eqb kind 5 b, ne_eqb kind 1 c)

module _ (a : Associations) (i kind side : ℕ) where
  pub none-asked : kind ≡ 0 → [] ≡ entries_for i (association_in a i) (asked kind side)
  unfolding entries_for
  none-asked e = rw (asked-none kind side e)

  pub five-asked : kind ≡ 5 → bare 5 i ∷ [] ≡ entries_for i (association_in a i) (asked kind side)
  unfolding entries_for entry_for
  five-asked e = rw (asked-five kind side e)

  -- rule 6: the end that the side's links go to
  pub six-asked : (w : ℕ) → w ≡ side → side ≤ 1 → kind ≡ 1
      → limited 1 i (side_of side) (get_or a.lows (i * 2 + 1 - w) 0) (upper_in (get_or a.ups (i * 2 + 1 - w) 0)) ∷ []
      ≡ entries_for i (association_in a i) (asked kind side)
  unfolding entries_for entry_for association_in end_in
  six-asked w p h e = rw (p, asked-one kind side e) (go side h)
    where
      go : (s : ℕ) → s ≤ 1
          → limited 1 i (side_of s) (get_or a.lows (i * 2 + 1 - s) 0) (upper_in (get_or a.ups (i * 2 + 1 - s) 0)) ∷ []
          ≡ entry_for i (association_in a i) (by_rule6 (side_of s)) ∷ []
      go zero l = let n : i * 2 + 1 - 0 ≡ i * 2 + 1 = omega arith in rw n
      go (suc zero) l = let n : i * 2 + 1 - 1 ≡ i * 2 = omega arith in rw n
      go (suc (suc s)) l = absurd (omega arith)

  -- rule 7: the end that they come from
  pub seven-asked : (w : ℕ) → w ≡ side → side ≤ 1 → (kind ≡ 0 → ⊥) → (kind ≡ 5 → ⊥) → (kind ≡ 1 → ⊥)
      → limited 3 i (side_of side) (get_or a.lows (i * 2 + w) 0) (upper_in (get_or a.ups (i * 2 + w) 0)) ∷ []
      ≡ entries_for i (association_in a i) (asked kind side)
  unfolding entries_for entry_for association_in end_in
  seven-asked w p h e f g = rw (p, asked-three kind side e f g) (go side h)
    where
      go : (s : ℕ) → s ≤ 1
          → limited 3 i (side_of s) (get_or a.lows (i * 2 + s) 0) (upper_in (get_or a.ups (i * 2 + s) 0)) ∷ []
          ≡ entry_for i (association_in a i) (by_rule7 (side_of s)) ∷ []
      go zero l = let n : i * 2 + 0 ≡ i * 2 = omega arith in rw n
      go (suc zero) l = refl
      go (suc (suc s)) l = absurd (omega arith)
