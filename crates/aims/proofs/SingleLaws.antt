-- Singletons, one type at a time: a search for none and one for two.
-- Assumes nothing.
use Prim.Native.Nat.{◌<◌, ◌≤◌, ℕ}
use mathlib.Core.Bool.{Bool, false, true}
use mathlib.Core.Path.{◌∙◌, ◌≡◌, refl, sym}
use native.Mathlib.Omega.{arith}
use lib.Dec.{eqb, leb}
use borrow.Author.Tests.{leb-false, leb-true}
use Rattle.laws.specs.Bits.{bit}
use Rattle.laws.specs.Bounded.{tally}
use Rattle.laws.proofs.BoundedLaws.{tally-none}
use Rattle.laws.proofs.ConnectiveLaws.{true-false}
use Rattle.laws.proofs.CountLaws.{tally-holds}
use Rattle.laws.proofs.TwoLaws.{counted-two, two-counted}
use Rattle.growing.specs.World.{World}
use Rattle.worlds.specs.Kept.{Sheet, SinglesKept, TypesAvoided}
use Rattle.worlds.specs.Asked.{Breaks}
use Rattle.queries.specs.Avoided.{PairsAvoided}
use Rattle.queries.proofs.BreakLaws.{Throughout, breaks-last}
use Rattle.aims.specs.Singles.{SingleKept}
use Rattle.aims.proofs.RowLaws.{Only}

module _ (x : Sheet) (n t others : ℕ) where
  pub single-off : bit t others ≡ false → Throughout x (SingleKept others t) n
  single-off e w h _ = record { at = λ f. absurd (true-false f e) }

  pub single-own : t < 24 → bit t x.singles ≡ true → Throughout x (SingleKept others t) n
  single-own l e w h _ = record { at = λ _. h.singles.at t l e }

module _ (t others a : ℕ) (only : Only a t) where
  -- where there is exactly one, there is one
  pub single-some : bit t others ≡ true → (w : World) → SingleKept others t w → TypesAvoided a w → ⊥
  single-some e w k f =
      let z : tally (λ o. eqb (w.kind o) t) w.size ≡ 0 = tally-none (λ o. eqb (w.kind o) t) w.size (λ o l. sym (only (w.kind o)) ∙ f.at o l) in
      omega (arith, k.at e)

  -- and no two
  single-pairs : bit t others ≡ true → (w : World) → SingleKept others t w → PairsAvoided a w
  single-pairs e w k = record {
    at = λ o p lo lp ne f g.
        omega (
          arith,
          k.at e,
          two-counted (λ o. eqb (w.kind o) t) w.size o p lo lp ne (sym (only (w.kind o)) ∙ f) (sym (only (w.kind p)) ∙ g),
        );
  }

  -- some, and no two: exactly one
  exactly-one : (w : World) → (TypesAvoided a w → ⊥) → PairsAvoided a w → tally (λ o. eqb (w.kind o) t) w.size ≡ 1
  exactly-one w some pairs = go (leb (tally (λ o. eqb (w.kind o) t) w.size) 1) refl (leb (tally (λ o. eqb (w.kind o) t) w.size) 0) refl
    where
      none : tally (λ o. eqb (w.kind o) t) w.size ≤ 0 → (o : ℕ) → o < w.size → (b : Bool) → bit (w.kind o) a ≡ b → bit (w.kind o) a ≡ false
      none z o l true e = absurd (omega (arith, tally-holds (λ o. eqb (w.kind o) t) w.size o l (sym (only (w.kind o)) ∙ e)))
      none z o l false e = e

      go : (b : Bool) → leb (tally (λ o. eqb (w.kind o) t) w.size) 1 ≡ b → (d : Bool) → leb (tally (λ o. eqb (w.kind o) t) w.size) 0 ≡ d
          → tally (λ o. eqb (w.kind o) t) w.size ≡ 1
      go true e true f = absurd (some (record { at = λ o l. none (leb-true (tally (λ o. eqb (w.kind o) t) w.size) 0 f) o l (bit (w.kind o) a) refl }))
      go true e false f =
          let u = leb-true (tally (λ o. eqb (w.kind o) t) w.size) 1 e in
          let v = leb-false (tally (λ o. eqb (w.kind o) t) w.size) 0 f in omega arith
      go false e d f =
          let two = counted-two (λ o. eqb (w.kind o) t) w.size (leb-false (tally (λ o. eqb (w.kind o) t) w.size) 1 e) in
          absurd
          (pairs.at two.first two.second two.below two.below-too two.apart (only (w.kind two.first) ∙ two.holds)
          (only (w.kind two.second) ∙ two.holds-too))

  pub single-second : (x : Sheet) (n : ℕ) (ok : Bool) (m : World) → bit t others ≡ true → Throughout x (λ w. TypesAvoided a w → ⊥) n
      → Breaks x (PairsAvoided a) n ok m → Breaks x (SingleKept others t) n ok m
  single-second x n ok m e f =
      breaks-last x n ok m (SingleKept others t) (PairsAvoided a) (single-pairs e) (λ w h z k. record { at = λ _. exactly-one w (f w h z) k })

pub single-at : (others t : ℕ) → t < 24 → (w : World) → SinglesKept others w → SingleKept others t w
single-at others t l w k = record { at = k.at t l }

pub singles-of : (others : ℕ) (w : World) → ((t : ℕ) → t < 24 → SingleKept others t w) → SinglesKept others w
singles-of others w k = record { at = λ t l. (k t l).at }
