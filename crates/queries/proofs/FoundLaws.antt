-- The library's `find_map` over a range, said of the indices from a to below b.
-- Assumes nothing.
use Prim.Native.Nat.{ℕ, ◌+◌, ◌-◌, ◌<◌, ◌≤◌}
use native.Mathlib.Omega.{arith}
use mathlib.Core.Path.{◌≡◌, subst, ◌∙◌}
use denote.Param.Members.{Mut}
use Rattle.std.specs.Prelude.{Option, None, Some, IsSomeAnd, IsTrue, MatchOption, ⊤}
use Rattle.std.specs.declared.ops.Range.{Range}
use Rattle.std.specs.Fn.{Called}
use Rattle.std.specs.Option.{option_map}
use Rattle.std.specs.Iterator.Runs.{AllItemsGive, IsFirstToGive, ItemsCountUp, Run, SomeRun}
use Rattle.std.proofs.iter.Yields.{nat_range_steps}
use Rattle.std.proofs.iter.runs.Sources.{range_runs}

some-match : (P : ℕ → Type 0) (o : Option ℕ) → IsSomeAnd o P → MatchOption o ⊥ P
some-match P None h = h
some-match P (Some x) h = h

-- the item at place k - a is k
module _ (a b : ℕ) (p : Run nat_range_steps) (up : ItemsCountUp p a b) where
  item : (N : Type 0) (P : ℕ → Type 0) (k : ℕ) → a ≤ k → k - a < p.len → MatchOption (p.at (k - a)) N P → P k
  item N P k l h m = go (p.at (k - a)) (up.3 (k - a) h) m
    where
      go : (o : Option ℕ) → option_map (λ y. y) o ≡ Some (a + (k - a)) → MatchOption o N P → P k
      go None e n = absurd (subst (λ (o : Option ℕ). MatchOption o ⊤ (λ _. ⊥)) e tt)
      go (Some x) e n = let q : a + (k - a) ≡ k = omega arith in subst P q (subst (λ (o : Option ℕ). MatchOption o ⊤ P) e n)

module _ {B : Type 0} (Seen : ℕ → Option B → Type 0) (a b : ℕ) where
  -- what the calls gave: nothing at each index, or something at one and nothing before
  abbrev pub Found : Option B → Type 0
  Found None = (k : ℕ) → a ≤ k → k < b → Seen k None
  Found (Some y) = (k : ℕ) × (a ≤ k) × (k < b) × Seen k (Some y) × ((j : ℕ) → a ≤ j → j < k → Seen j None)

  pub found-range : {F : Type 0} {g : Mut F (ℕ × Unit {0}) (Option B)} {s : Range ℕ} {f : F} (r : Option B)
      → SomeRun nat_range_steps s (λ p. MatchOption r (IsTrue p.whole × AllItemsGive p g f None) (λ y. (i : ℕ) × (i < p.len) × (p.len ≡ i + 1) × IsFirstToGive p g f (Some y) None i))
      → s ≡ record { start = a; end = b } → ((x : ℕ) (y : Option B) (q : F) → Called g f (x, tt) y q → (q ≡ f) × Seen x y) → Found r
  found-range {F} {g} {s} {f} r (p, from, m) e keep = go r m
    where
      up : ItemsCountUp p a b
      up = subst (λ (z : Range ℕ). ItemsCountUp p z.start z.end) (from ∙ e) (range_runs p p.seen)

      go : (r : Option B) → MatchOption r (IsTrue p.whole × AllItemsGive p g f None) (λ y. (i : ℕ) × (i < p.len) × (p.len ≡ i + 1) × IsFirstToGive p g f (Some y) None i) → Found r
      go None (whole, gives) = λ k l h.
          let n = up.1 whole in
          (keep k None f (item a b p up _ (λ x. Called g f (x, tt) None f) k l (omega arith) (gives (λ x y q c. (keep x.0 y q c).0) (k - a)))).1
      go (Some y) (i, l, n, first) =
          let w = first (λ x y q c. (keep x.0 y q c).0) in
          let t = up.0 in
          let z : a + i - a ≡ i = omega arith in (
            a + i,
            omega arith,
            omega arith,
            (keep (a + i) (Some y) f (item a b p up ⊥ (λ x. Called g f (x, tt) (Some y) f) (a + i) (omega arith) (omega arith) (rw z (some-match _ (p.at i) w.0)))).1,
            λ j h m. (keep j None f (item a b p up ⊥ (λ x. Called g f (x, tt) None f) j h (omega arith) (some-match _ (p.at (j - a)) (w.1 (j - a) (omega arith))))).1,
          )
