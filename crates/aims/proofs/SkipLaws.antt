-- Types that no object can have are not asked for: all allowed worlds avoid them.
-- Assumes nothing.
use Prim.Native.Nat.{◌<◌, ℕ}
use mathlib.Core.Path.{◌≡◌, refl}
use mathlib.Core.Bool.{Bool, false, true}
use Rattle.laws.specs.Bits.{bit}
use Rattle.worlds.specs.Kept.{Sheet, TypesAvoided}
use Rattle.queries.specs.Avoided.{ColumnsAvoided, HalfLoopsAvoided, HalvesAvoided, LinksAvoided, LoopsAvoided, OwnPartsAvoided, PairsAvoided, PartsAvoided, RowsAvoided}
use Rattle.queries.proofs.BreakLaws.{Throughout}

-- the types of a are not usable
abbrev pub Unmet : ℕ → ℕ → Type 0
Unmet a usable = (j : ℕ) → bit j a ≡ true → bit j usable ≡ true → ⊥

module _ (x : Sheet) (n : ℕ) {a : ℕ} (u : Unmet a x.usable) where
  pub skip-types : Throughout x (TypesAvoided a) n
  skip-types w h _ = record { at = λ o l. go o l (bit (w.kind o) a) refl }
    where
      go : (o : ℕ) → o < w.size → (b : Bool) → bit (w.kind o) a ≡ b → bit (w.kind o) a ≡ false
      go o l true e = absurd (u (w.kind o) e (h.usable o l))
      go o l false e = e

  pub skip-pairs : Throughout x (PairsAvoided a) n
  skip-pairs w h _ = record { at = λ o _ l _ _ e _. u (w.kind o) e (h.usable o l) }

  pub skip-links : (s b : ℕ) → Throughout x (LinksAvoided s a b) n
  skip-links s b w h _ = record { at = λ o _ l _ _ e _ _. u (w.kind o) e (h.usable o l) }

  pub skip-links-to : (s b : ℕ) → Throughout x (LinksAvoided s b a) n
  skip-links-to s b w h _ = record { at = λ _ p _ l _ _ e _. u (w.kind p) e (h.usable p l) }

  pub skip-loops : (s : ℕ) → Throughout x (LoopsAvoided s a) n
  skip-loops s w h _ = record { at = λ o l e _. u (w.kind o) e (h.usable o l) }

  pub skip-rows : (s low high : ℕ) → Throughout x (RowsAvoided s a low high) n
  skip-rows s low high w h _ = record { at = λ o l e _. u (w.kind o) e (h.usable o l) }

  pub skip-columns : (s from low high : ℕ) → Throughout x (ColumnsAvoided s a from low high) n
  skip-columns s from low high w h _ = record { at = λ o l e _. u (w.kind o) e (h.usable o l) }

  pub skip-halves : (s v b : ℕ) → Throughout x (HalvesAvoided s v a b) n
  skip-halves s v b w h _ = record { at = λ o _ l _ _ e _ _ _. u (w.kind o) e (h.usable o l) }

  pub skip-halves-to : (s v b : ℕ) → Throughout x (HalvesAvoided s v b a) n
  skip-halves-to s v b w h _ = record { at = λ _ p _ l _ _ e _ _. u (w.kind p) e (h.usable p l) }

  pub skip-half-loops : (s v : ℕ) → Throughout x (HalfLoopsAvoided s v a) n
  skip-half-loops s v w h _ = record { at = λ o l e _ _. u (w.kind o) e (h.usable o l) }

  pub skip-parts : (s v b c : ℕ) → Throughout x (PartsAvoided s v a b c) n
  skip-parts s v b c w h _ = record { at = λ p _ _ l _ _ _ _ _ e _ _ _ _. u (w.kind p) e (h.usable p l) }

  pub skip-parts-of : (s v b c : ℕ) → Throughout x (PartsAvoided s v b a c) n
  skip-parts-of s v b c w h _ = record { at = λ _ o _ _ l _ _ _ _ _ e _ _ _. u (w.kind o) e (h.usable o l) }

  pub skip-parts-too : (s v b c : ℕ) → Throughout x (PartsAvoided s v b c a) n
  skip-parts-too s v b c w h _ = record { at = λ _ _ r _ _ l _ _ _ _ _ e _ _. u (w.kind r) e (h.usable r l) }

  pub skip-own-parts : (s v b : ℕ) → Throughout x (OwnPartsAvoided s v a b) n
  skip-own-parts s v b w h _ = record { at = λ p _ l _ _ e _ _ _. u (w.kind p) e (h.usable p l) }

  pub skip-own-parts-of : (s v b : ℕ) → Throughout x (OwnPartsAvoided s v b a) n
  skip-own-parts-of s v b w h _ = record { at = λ _ r _ l _ _ e _ _. u (w.kind r) e (h.usable r l) }
