-- Mirrors, one at a time: a search for a link without the link back, one way and the other.
-- Assumes nothing.
use Prim.Native.Nat.{◌<◌, ◌≤◌, ℕ}
use mathlib.Core.Bool.{Bool, false, true}
use mathlib.Core.Path.{◌∙◌, ◌≡◌, refl, subst, sym}
use lib.Dec.{eqb}
use lib.ListN.{get_or}
use borrow.Author.Tests.{eqb-false, eqb-true}
use Rattle.laws.specs.Bits.{bit}
use Rattle.laws.proofs.ConnectiveLaws.{and_both, and_left, and_right, true-false}
use Rattle.growing.specs.World.{World}
use Rattle.worlds.specs.declared.Lines.{Lines}
use Rattle.worlds.specs.declared.Mirror.{Mirror}
use Rattle.worlds.specs.Kept.{MirrorsKept, Sheet}
use Rattle.worlds.specs.Asked.{Breaks}
use Rattle.queries.specs.Avoided.{HalfLoopsAvoided, HalvesAvoided}
use Rattle.queries.proofs.BreakLaws.{Throughout, breaks-last, breaks-same}
use Rattle.aims.specs.Rows.{AllLinksAvoided}
use Rattle.aims.specs.Mirrors.{AllHalvesAvoided, MirrorKept}
use Rattle.aims.proofs.RowLaws.{Common}
use Rattle.worlds.specs.Lined.{mirror_at}

-- ---- a link without the link back

pub halves-first : (s u a b : ℕ) (w : World) → AllHalvesAvoided s u a b w → HalvesAvoided s u a b w
halves-first s u a b w k = record { at = λ o p lo lp _ e f g i. k.at o p lo lp e f g i }

module _ (s u a b c : ℕ) (both : Common c a b) (w : World) where
  loops-of : AllHalvesAvoided s u a b w → HalfLoopsAvoided s u c w
  loops-of k = record {
    at = λ o l e f g.
        let h = sym (both (w.kind o)) ∙ e in
        k.at o o l l (and_left (bit (w.kind o) a) (bit (w.kind o) b) h) (and_right (bit (w.kind o) a) (bit (w.kind o) b) h) f g;
  }

  all-halves : HalvesAvoided s u a b w → HalfLoopsAvoided s u c w → AllHalvesAvoided s u a b w
  all-halves k l = record { at = λ o p lo lp e f g i. go o p lo lp e f g i (eqb p o) refl }
    where
      go : (o p : ℕ) → o < w.size → p < w.size → bit (w.kind o) a ≡ true → bit (w.kind p) b ≡ true → w.link s o p ≡ true → w.link u p o ≡ false
          → (t : Bool) → eqb p o ≡ t → ⊥
      go o p lo lp e f g i true z =
          let y : p ≡ o = eqb-true p o z in
          l.at o lo (both (w.kind o) ∙ and_both (bit (w.kind o) a) (bit (w.kind o) b) e (subst (λ (v : ℕ). bit (w.kind v) b ≡ true) y f))
          (subst (λ (v : ℕ). w.link s o v ≡ true) y g) (subst (λ (v : ℕ). w.link u v o ≡ false) y i)
      go o p lo lp e f g i false z = k.at o p lo lp (λ y. eqb-false p o z (sym y)) e f g i

module _ (x : Sheet) (n : ℕ) (s u a b : ℕ) where
  -- a slot past the last has no links
  pub halves-past : 32 ≤ s → Throughout x (AllHalvesAvoided s u a b) n
  halves-past l w h _ = record { at = λ o p _ _ _ _ g _. true-false g (h.past s o p l) }

  module _ (ok : Bool) (m : World) where
    -- and no links back
    pub halves-links : 32 ≤ u → Breaks x (AllLinksAvoided s a b) n ok m → Breaks x (AllHalvesAvoided s u a b) n ok m
    halves-links l = breaks-same x n ok m (AllHalvesAvoided s u a b) (AllLinksAvoided s a b)
        (λ w h k. record { at = λ o p lo lp e f g. k.at o p lo lp e f g (h.past u p o l) })
        (λ w h k. record { at = λ o p lo lp e f g _. k.at o p lo lp e f g })

    pub halves-second : (c : ℕ) → Common c a b → Throughout x (HalvesAvoided s u a b) n → Breaks x (HalfLoopsAvoided s u c) n ok m → Breaks x (AllHalvesAvoided s u a b) n ok m
    halves-second c both f =
        breaks-last x n ok m (AllHalvesAvoided s u a b) (HalfLoopsAvoided s u c) (loops-of s u a b c both) (λ w h e. all-halves s u a b c both w (f w h e))

-- ---- a mirror, and all mirrors

module _ (m : Mirror) (w : World) where
  abbrev pub There : Type 0
  There = AllHalvesAvoided m.right m.left m.from m.to w

  abbrev pub Back : Type 0
  Back = AllHalvesAvoided m.left m.right m.to m.from w

  pub mirror-there : MirrorKept m w → There
  mirror-there k = record { at = λ o p lo lp e f g i. true-false (sym (k.at o p lo lp e f) ∙ g) i }

  pub mirror-back : MirrorKept m w → Back
  mirror-back k = record { at = λ o p lo lp e f g i. true-false (k.at p o lp lo f e ∙ g) i }

  pub mirror-both : There → Back → MirrorKept m w
  mirror-both there back = record {
    at = λ o p lo lp e f.
        go (w.link m.right o p) (w.link m.left p o) (there.at o p lo lp e f) (back.at p o lp lo f e);
  }
    where
      go : (a b : Bool) → (a ≡ true → b ≡ false → ⊥) → (b ≡ true → a ≡ false → ⊥) → a ≡ b
      go true true f g = refl
      go true false f g = absurd (f refl refl)
      go false true f g = absurd (g refl refl)
      go false false f g = refl

pub mirror-at : (x : Lines) (j : ℕ) → j < 16 → (w : World) → MirrorsKept x w → MirrorKept (mirror_at x j) w
mirror-at x j h w k = record { at = λ o p lo lp e f. k.at j o p h lo lp e f }

pub mirrors-of : (x : Lines) (w : World) → ((j : ℕ) → j < 16 → MirrorKept (mirror_at x j) w) → MirrorsKept x w
mirrors-of x w k = record { at = λ j o p h lo lp e f. (k j h).at o p lo lp e f }
