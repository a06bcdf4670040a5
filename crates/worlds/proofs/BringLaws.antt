-- Objects that are exchanged with those in front, one after the other, come first: each step leaves the ones that were brought before.
-- Assumes nothing.
use Prim.Native.Nat.{◌<◌, ◌≤◌, suc, zero, ℕ}
use mathlib.Core.List.{List, [], ◌∷◌}
use mathlib.Core.Logic.{⊎_elim}
use mathlib.Core.Path.{◌∙◌, ◌≡◌, ap, sym}
use lib.ListN.{get_or}
use native.Mathlib.Nat.{not-suc-le-zero}
use native.Mathlib.Omega.{arith}
use lib.Dec.{leb}
use borrow.Author.Tests.{leb-true, leb-false}
use Rattle.laws.specs.Swap.{swap}
use Rattle.laws.proofs.BoundedLaws.{last}
use Rattle.laws.proofs.ConnectiveLaws.{known}
use Rattle.laws.proofs.SwapLaws.{swap-else, swap-first}
use Rattle.growing.specs.World.{World, exchanged}
use Rattle.worlds.specs.Kept.{Allowed, Sheet}
use Rattle.worlds.specs.Renumbered.{Brought}
use Rattle.worlds.proofs.BlindLaws.{blind-allowed}
use Rattle.worlds.proofs.RenumberLaws.{renumbered-exchanged, renumbered-onto, renumbered-same, renumbered-then}

module _ (x : Sheet) (w : World) (objects : List ℕ) where
  -- no two of the first k objects are the same
  abbrev pub Different : ℕ → Type 0
  Different k = (i j : ℕ) → i < j → j < k → get_or objects i 0 ≡ get_or objects j 0 → ⊥

  -- one more object comes first: object j of the numbering so far
  more : (k j : ℕ) (b : Brought x w objects k) → k ≤ j → j < b.world.size → b.at j ≡ get_or objects k 0 → Brought x w objects (suc k)
  more k j b past below is = record {
    world = exchanged k j b.world;
    at = λ o. b.at (swap k j o);
    allowed = blind-allowed x b.world k j (omega arith) (omega arith) (omega arith) below b.allowed;
    renumbered = renumbered-then b.renumbered (renumbered-exchanged b.world k j (omega arith) below);
    first = λ i l. ⊎_elim
        (λ e. ap (λ (m : ℕ). b.at (swap k j m)) e ∙ ap b.at (swap-first k j) ∙ is ∙ ap (λ (m : ℕ). get_or objects m 0) (sym e))
        (λ h. ap b.at (swap-else k j i (λ z. omega arith) (λ z. omega arith)) ∙ b.first i h) (last l);
  }

  pub bring : Allowed x w → (k : ℕ) → ((i : ℕ) → i < k → get_or objects i 0 < w.size) → Different k → Brought x w objects k
  bring a zero below differ = record { world = w; at = λ o. o; allowed = a; renumbered = renumbered-same w; first = λ i l. absurd (not-suc-le-zero l) }
  bring a (suc k) below differ =
      let b = bring a k (λ i l. below i (omega arith)) (λ i j h l. differ i j h (omega arith)) in
      let f = renumbered-onto b.renumbered (get_or objects k 0) (below k (omega arith)) in
      more k f.0 b (later b f.0 f.2) f.1 f.2
    where
      -- the object is not among those that were brought before
      later : (b : Brought x w objects k) (j : ℕ) → b.at j ≡ get_or objects k 0 → k ≤ j
      later b j e = ⊎_elim (λ h. leb-true k j h)
          (λ h. let l : j < k = leb-false k j h in absurd (differ j k l (omega arith) (sym (b.first j l) ∙ e))) (known (leb k j))

module _ (x : Sheet) (w : World) (a : Allowed x w) where
  pub bring-one : (o : ℕ) → o < w.size → Brought x w (o ∷ []) 1
  bring-one o ho = bring x w (o ∷ []) a 1 below (λ i j h l _. omega arith)
    where
      below : (i : ℕ) → i < 1 → get_or (o ∷ []) i 0 < w.size
      below zero l = ho
      below (suc i) l = absurd (omega arith)

  pub bring-two : (o p : ℕ) → o < w.size → p < w.size → (o ≡ p → ⊥) → Brought x w (o ∷ p ∷ []) 2
  bring-two o p ho hp op = bring x w (o ∷ p ∷ []) a 2 below differ
    where
      below : (i : ℕ) → i < 2 → get_or (o ∷ p ∷ []) i 0 < w.size
      below zero l = ho
      below (suc zero) l = hp
      below (suc (suc i)) l = absurd (omega arith)

      differ : (i j : ℕ) → i < j → j < 2 → get_or (o ∷ p ∷ []) i 0 ≡ get_or (o ∷ p ∷ []) j 0 → ⊥
      differ zero (suc zero) h l e = op e
      differ i zero h l e = omega arith
      differ (suc i) (suc zero) h l e = omega arith
      differ i (suc (suc j)) h l e = omega arith

  pub bring-three : (o p r : ℕ) → o < w.size → p < w.size → r < w.size → (o ≡ p → ⊥) → (o ≡ r → ⊥) → (p ≡ r → ⊥) → Brought x w (o ∷ p ∷ r ∷ []) 3
  bring-three o p r ho hp hr op or pr = bring x w (o ∷ p ∷ r ∷ []) a 3 below differ
    where
      below : (i : ℕ) → i < 3 → get_or (o ∷ p ∷ r ∷ []) i 0 < w.size
      below zero l = ho
      below (suc zero) l = hp
      below (suc (suc zero)) l = hr
      below (suc (suc (suc i))) l = absurd (omega arith)

      differ : (i j : ℕ) → i < j → j < 3 → get_or (o ∷ p ∷ r ∷ []) i 0 ≡ get_or (o ∷ p ∷ r ∷ []) j 0 → ⊥
      differ zero (suc zero) h l e = op e
      differ zero (suc (suc zero)) h l e = or e
      differ (suc zero) (suc (suc zero)) h l e = pr e
      differ i zero h l e = omega arith
      differ (suc i) (suc zero) h l e = omega arith
      differ (suc (suc i)) (suc (suc zero)) h l e = omega arith
      differ i (suc (suc (suc j))) h l e = omega arith
