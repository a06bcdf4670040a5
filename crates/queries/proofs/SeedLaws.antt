-- Objects of a world that are brought in front are the seeds of a query.
-- Assumes nothing.
use Prim.Native.Nat.{◌<◌, suc, zero, ℕ}
use mathlib.Core.Path.{◌∙◌, ◌≡◌, ap, ap₂}
use mathlib.Core.Bool.{true}
use mathlib.Core.List.{[], ◌∷◌}
use native.Mathlib.Omega.{arith}
use lib.ListN.{get_or}
use Rattle.laws.specs.Bits.{bit}
use Rattle.growing.specs.World.{World}
use Rattle.worlds.specs.Kept.{Sheet}
use Rattle.worlds.specs.Asked.{Satisfies}
use Rattle.worlds.specs.Renumbered.{Brought, Renumbered}
use Rattle.queries.specs.Forms.{seeded}
use Rattle.queries.proofs.AskedLaws.{asked-seeded, masks_of}

-- ---- in another numbering

module _ {w v : World} {at : ℕ → ℕ} (r : Renumbered w v at) where
  pub typed-as : (i o a : ℕ) → at i ≡ o → bit (w.kind o) a ≡ true → bit (v.kind i) a ≡ true
  typed-as i o a e h = ap (λ (t : ℕ). bit t a) (r.kind i ∙ ap w.kind e) ∙ h

  pub linked-as : (s i j o p : ℕ) → at i ≡ o → at j ≡ p → v.link s i j ≡ w.link s o p
  linked-as s i j o p e f = r.link s i j ∙ ap₂ (w.link s) e f

-- ---- the seeds of a query: objects that were brought in front

module _ (x : Sheet) (w : World) where
  pub one-seed : (a o : ℕ) (b : Brought x w (o ∷ []) 1) → o < w.size → bit (w.kind o) a ≡ true → Satisfies (seeded 1 a 0 0) b.world
  one-seed a o b l e = asked-seeded b.world 1 a 0 0 b.allowed.few (omega (arith, b.renumbered.size)) typed
    where
      typed : (i : ℕ) → i < 1 → bit (b.world.kind i) (get_or (masks_of a 0 0) i 0) ≡ true
      typed zero k = typed-as b.renumbered 0 o a (b.first 0 (omega arith)) e
      typed (suc i) k = absurd (omega arith)

  pub two-seeds : (a c o p : ℕ) (b : Brought x w (o ∷ p ∷ []) 2) → o < w.size → p < w.size → (o ≡ p → ⊥) → bit (w.kind o) a ≡ true → bit (w.kind p) c ≡ true
      → Satisfies (seeded 2 a c 0) b.world
  two-seeds a c o p b l m n e f = asked-seeded b.world 2 a c 0 b.allowed.few (omega (arith, b.renumbered.size, n)) typed
    where
      typed : (i : ℕ) → i < 2 → bit (b.world.kind i) (get_or (masks_of a c 0) i 0) ≡ true
      typed zero k = typed-as b.renumbered 0 o a (b.first 0 (omega arith)) e
      typed (suc zero) k = typed-as b.renumbered 1 p c (b.first 1 (omega arith)) f
      typed (suc (suc i)) k = absurd (omega arith)

  pub three-seeds : (a c d o p r : ℕ) (b : Brought x w (o ∷ p ∷ r ∷ []) 3) → o < w.size → p < w.size → r < w.size → (o ≡ p → ⊥) → (o ≡ r → ⊥) → (p ≡ r → ⊥)
      → bit (w.kind o) a ≡ true → bit (w.kind p) c ≡ true → bit (w.kind r) d ≡ true → Satisfies (seeded 3 a c d) b.world
  three-seeds a c d o p r b l m k n n₁ n₂ e f g = asked-seeded b.world 3 a c d b.allowed.few (omega (arith, b.renumbered.size, n, n₁, n₂)) typed
    where
      typed : (i : ℕ) → i < 3 → bit (b.world.kind i) (get_or (masks_of a c d) i 0) ≡ true
      typed zero k = typed-as b.renumbered 0 o a (b.first 0 (omega arith)) e
      typed (suc zero) k = typed-as b.renumbered 1 p c (b.first 1 (omega arith)) f
      typed (suc (suc zero)) k = typed-as b.renumbered 2 r d (b.first 2 (omega arith)) g
      typed (suc (suc (suc i))) k = absurd (omega arith)
