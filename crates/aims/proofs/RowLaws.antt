-- Rows of tables, one at a time: a search for each thing that a row can ask.
-- Assumes nothing.
use Prim.Native.Nat.{◌%◌, ◌*◌, ◌+◌, ◌-◌, ◌/◌, ◌<◌, ◌≤◌, ℕ}
use mathlib.Core.Bool.{Bool, ◌&&◌, false, not, true}
use mathlib.Core.List.{List}
use mathlib.Core.Path.{◌∙◌, ◌≡◌, ap, refl, subst, sym}
use native.Mathlib.Omega.{arith}
use lib.Dec.{eqb, leb}
use lib.ListN.{get_or}
use borrow.Author.Tests.{eq-eqb, eqb-false, eqb-true, leb-false, leb-true, not-true}
use Rattle.laws.specs.Bits.{bit}
use Rattle.laws.specs.Bounded.{tally}
use Rattle.laws.proofs.BitLaws.{bit-zero}
use Rattle.laws.proofs.ConnectiveLaws.{and_both, and_left, and_right, true-false}
use Rattle.laws.proofs.CountLaws.{tally-le}
use Rattle.growing.specs.World.{World}
use Rattle.link_search.specs.Nets.{InLimits}
use Rattle.worlds.specs.Kept.{Allowed, RowsKept, Sheet}
use Rattle.worlds.specs.Asked.{Breaks}
use Rattle.queries.specs.Avoided.{LinksAvoided, LoopsAvoided, RowsAvoided}
use Rattle.queries.proofs.BreakLaws.{Throughout, breaks-last}
use Rattle.aims.specs.Rows.{AllLinksAvoided, HighsKept, LowsKept, RowKept, RowTargetsKept}

-- c holds the types of both masks; m the type t alone; d the types of a without those of b
abbrev pub Common : ℕ → ℕ → ℕ → Type 0
Common c a b = (j : ℕ) → bit j c ≡ bit j a && bit j b

abbrev pub Only : ℕ → ℕ → Type 0
Only m t = (j : ℕ) → bit j m ≡ eqb j t

abbrev pub Rest : ℕ → ℕ → ℕ → Type 0
Rest d a b = (j : ℕ) → bit j d ≡ bit j a && not (bit j b)

-- ---- links to another object, and to the object itself

module _ (s a b c : ℕ) (both : Common c a b) (w : World) where
  loops-of : AllLinksAvoided s a b w → LoopsAvoided s c w
  loops-of k = record {
    at = λ o l e f.
        let h = sym (both (w.kind o)) ∙ e in
        k.at o o l l (and_left (bit (w.kind o) a) (bit (w.kind o) b) h) (and_right (bit (w.kind o) a) (bit (w.kind o) b) h) f;
  }

  all-links : LinksAvoided s a b w → LoopsAvoided s c w → AllLinksAvoided s a b w
  all-links k l = record { at = λ o p lo lp e f g. go o p lo lp e f g (eqb p o) refl }
    where
      go : (o p : ℕ) → o < w.size → p < w.size → bit (w.kind o) a ≡ true → bit (w.kind p) b ≡ true → w.link s o p ≡ true → (t : Bool) → eqb p o ≡ t → ⊥
      go o p lo lp e f g true z =
          let i : p ≡ o = eqb-true p o z in
          l.at o lo (both (w.kind o) ∙ and_both (bit (w.kind o) a) (bit (w.kind o) b) e (subst (λ (y : ℕ). bit (w.kind y) b ≡ true) i f))
          (subst (λ (y : ℕ). w.link s o y ≡ true) i g)
      go o p lo lp e f g false z = k.at o p lo lp (λ y. eqb-false p o z (sym y)) e f g

pub links-first : (s a b : ℕ) (w : World) → AllLinksAvoided s a b w → LinksAvoided s a b w
links-first s a b w k = record { at = λ o p lo lp _ e f g. k.at o p lo lp e f g }

module _ (x : Sheet) (n : ℕ) (ok : Bool) (m : World) where
  pub links-second : (s a b c : ℕ) → Common c a b → Throughout x (LinksAvoided s a b) n → Breaks x (LoopsAvoided s c) n ok m → Breaks x (AllLinksAvoided s a b) n ok m
  links-second s a b c both f =
      breaks-last x n ok m (AllLinksAvoided s a b) (LoopsAvoided s c) (loops-of s a b c both) (λ w h e. all-links s a b c both w (f w h e))

-- ---- the row at i

module _ (x : Sheet) (i : ℕ) (w : World) (h : Allowed x w) where
  -- it is the row of each object of its type
  own : (t : List ℕ) (o : ℕ) → w.kind o ≡ i / 32 → get_or t (w.kind o * 32 + i % 32) 0 ≡ get_or t i 0
  own t o e = let z : w.kind o * 32 + i % 32 ≡ i = omega arith in ap (λ (k : ℕ). get_or t k 0) z

  -- targets that the own table allows and the other does not, are avoided
  target-of : (others : List ℕ) → ((o p : ℕ) → o < w.size → p < w.size → w.kind o ≡ i / 32 → w.link (i % 32) o p ≡ true
      → bit (w.kind p) (get_or x.targets i 0) ≡ true → bit (w.kind p) (get_or others i 0) ≡ false → ⊥) → RowTargetsKept others i w
  target-of others f = record { at = λ o p lo lp e g. go o p lo lp e g (bit (w.kind p) (get_or others i 0)) refl }
    where
      go : (o p : ℕ) → o < w.size → p < w.size → w.kind o ≡ i / 32 → w.link (i % 32) o p ≡ true → (t : Bool) → bit (w.kind p) (get_or others i 0) ≡ t
          → bit (w.kind p) (get_or others i 0) ≡ true
      go o p lo lp e g true z = z
      go o p lo lp e g false z =
          absurd (f o p lo lp e g (ap (bit (w.kind p)) (sym (own x.targets o e)) ∙ h.rows.allowed (i % 32) o p (omega arith) lo lp g) z)

  low-at : (o : ℕ) → o < w.size → w.kind o ≡ i / 32 → get_or x.lows i 0 ≤ tally (λ p. w.link (i % 32) o p) w.size
  low-at o l e = let z = (h.rows.limited (i % 32) o (omega arith) l).least in omega (arith, own x.lows o e)

  high-at : (o : ℕ) → o < w.size → w.kind o ≡ i / 32 → tally (λ p. w.link (i % 32) o p) w.size ≤ get_or x.highs i 0
  high-at o l e = let z = (h.rows.limited (i % 32) o (omega arith) l).most in omega (arith, own x.highs o e)

  few-at : (o : ℕ) → tally (λ p. w.link (i % 32) o p) w.size ≤ 8
  few-at o = omega (arith, tally-le (λ p. w.link (i % 32) o p) w.size, h.few)

rest-on : (d a b k : ℕ) → Rest d a b → bit k a ≡ true → bit k b ≡ false → bit k d ≡ true
rest-on d a b k f e g = f k ∙ and_both (bit k a) (not (bit k b)) e (ap not g)

rest-off : (d a b k : ℕ) → Rest d a b → bit k d ≡ true → bit k b ≡ false
rest-off d a b k f e = not-true (bit k b) (and_right (bit k a) (not (bit k b)) (sym (f k) ∙ e))

only-on : (m t k : ℕ) → Only m t → k ≡ t → bit k m ≡ true
only-on m t k f e = f k ∙ eq-eqb k t e

only-is : (m t k : ℕ) → Only m t → bit k m ≡ true → k ≡ t
only-is m t k f e = eqb-true k t (sym (f k) ∙ e)

module _ (x : Sheet) (n i : ℕ) (others : List ℕ) where
  pub target_none : (d : ℕ) → Rest d (get_or x.targets i 0) (get_or others i 0) → d ≡ 0 → Throughout x (RowTargetsKept others i) n
  target_none d f e w h _ =
      target-of x i w h others
      (λ o p _ _ _ _ g z.
      true-false (rest-on d (get_or x.targets i 0) (get_or others i 0) (w.kind p) f g z) (ap (bit (w.kind p)) e ∙ bit-zero (w.kind p)))

  pub low-none : get_or others i 0 ≤ get_or x.lows i 0 → Throughout x (LowsKept others i) n
  low-none l w h _ = record { at = λ o k e. omega (arith, low-at x i w h o k e) }

  pub high-none : get_or x.highs i 0 ≤ get_or others i 0 → Throughout x (HighsKept others i) n
  high-none l w h _ = record { at = λ o k e. omega (arith, high-at x i w h o k e) }

  pub high-free : 8 ≤ get_or others i 0 → Throughout x (HighsKept others i) n
  high-free l w h _ = record { at = λ o k e. omega (arith, few-at x i w h o) }

  module _ (ok : Bool) (m : World) (s a : ℕ) (slot : s ≡ i % 32) (type : Only a (i / 32)) where
    pub target_found : (d : ℕ) → Rest d (get_or x.targets i 0) (get_or others i 0) → Breaks x (AllLinksAvoided s a d) n ok m → Breaks x (RowTargetsKept others i) n ok m
    target_found d f = breaks-last x n ok m (RowTargetsKept others i) (AllLinksAvoided s a d)
        (λ w k.
        record {
          at = λ o p lo lp e g z.
              true-false (k.at o p lo lp (only-is a (i / 32) (w.kind o) type e) (subst (λ (y : ℕ). w.link y o p ≡ true) slot z))
              (rest-off d (get_or x.targets i 0) (get_or others i 0) (w.kind p) f g);
        })
        (λ w h _ k.
        target-of x i w h others
        (λ o p lo lp e g t z.
        k.at o p lo lp (only-on a (i / 32) (w.kind o) type e) (rest-on d (get_or x.targets i 0) (get_or others i 0) (w.kind p) f t z)
        (subst (λ (y : ℕ). w.link y o p ≡ true) (sym slot) g)))

    pub low-found : 0 < get_or others i 0 → Breaks x (RowsAvoided s a 0 (get_or others i 0 - 1)) n ok m → Breaks x (LowsKept others i) n ok m
    low-found z = breaks-last x n ok m (LowsKept others i) (RowsAvoided s a 0 (get_or others i 0 - 1))
        (λ w k.
        record {
          at = λ o l e g.
              let t = subst (λ (y : ℕ). InLimits 0 (get_or others i 0 - 1) (tally (λ p. w.link y o p) w.size)) slot g in
              omega (arith, k.at o l (only-is a (i / 32) (w.kind o) type e), t.most);
        })
        (λ w h _ k. record { at = λ o l e. go w k o l e (leb (get_or others i 0) (tally (λ p. w.link (i % 32) o p) w.size)) refl })
      where
        go : (w : World) → RowsAvoided s a 0 (get_or others i 0 - 1) w → (o : ℕ) → o < w.size → w.kind o ≡ i / 32
            → (b : Bool) → leb (get_or others i 0) (tally (λ p. w.link (i % 32) o p) w.size) ≡ b → get_or others i 0 ≤ tally (λ p. w.link (i % 32) o p) w.size
        go w k o l e true f = leb-true (get_or others i 0) (tally (λ p. w.link (i % 32) o p) w.size) f
        go w k o l e false f =
            let under = leb-false (get_or others i 0) (tally (λ p. w.link (i % 32) o p) w.size) f in
            absurd
            (k.at o l (only-on a (i / 32) (w.kind o) type e)
            (subst (λ (y : ℕ). InLimits 0 (get_or others i 0 - 1) (tally (λ p. w.link y o p) w.size)) (sym slot) (record { least = omega arith; most = omega arith })))

    pub high-found : Breaks x (RowsAvoided s a (get_or others i 0 + 1) 8) n ok m → Breaks x (HighsKept others i) n ok m
    high-found = breaks-last x n ok m (HighsKept others i) (RowsAvoided s a (get_or others i 0 + 1) 8)
        (λ w k.
        record {
          at = λ o l e g.
              let t = subst (λ (y : ℕ). InLimits (get_or others i 0 + 1) 8 (tally (λ p. w.link y o p) w.size)) slot g in
              omega (arith, k.at o l (only-is a (i / 32) (w.kind o) type e), t.least);
        })
        (λ w h _ k. record { at = λ o l e. go w h k o l e (leb (tally (λ p. w.link (i % 32) o p) w.size) (get_or others i 0)) refl })
      where
        go : (w : World) → Allowed x w → RowsAvoided s a (get_or others i 0 + 1) 8 w → (o : ℕ) → o < w.size → w.kind o ≡ i / 32
            → (b : Bool) → leb (tally (λ p. w.link (i % 32) o p) w.size) (get_or others i 0) ≡ b → tally (λ p. w.link (i % 32) o p) w.size ≤ get_or others i 0
        go w h k o l e true f = leb-true (tally (λ p. w.link (i % 32) o p) w.size) (get_or others i 0) f
        go w h k o l e false f =
            let over = leb-false (tally (λ p. w.link (i % 32) o p) w.size) (get_or others i 0) f in
            absurd
            (k.at o l (only-on a (i / 32) (w.kind o) type e)
            (subst (λ (y : ℕ). InLimits (get_or others i 0 + 1) 8 (tally (λ p. w.link y o p) w.size)) (sym slot)
            (record { least = omega arith; most = few-at x i w h o })))

-- a row that asks for nothing more than the own one is kept
pub row-kept : (x : Sheet) (n i : ℕ) (targets lows highs : List ℕ) (d : ℕ) → Rest d (get_or x.targets i 0) (get_or targets i 0) → d ≡ 0 → get_or lows i 0 ≤ get_or x.lows i 0
    → get_or x.highs i 0 ≤ get_or highs i 0 → Throughout x (RowKept targets lows highs i) n
row-kept x n i targets lows highs d f e l g w h z = record {
  targets-kept = target_none x n i targets d f e w h z;
  low-kept = low-none x n i lows l w h z;
  high-kept = high-none x n i highs g w h z;
}

-- ---- all rows

module _ (targets lows highs : List ℕ) where
  pub row_at : (i : ℕ) (w : World) → RowsKept targets lows highs w → RowKept targets lows highs i w
  row_at i w k = record {
    targets-kept = record { at = λ o p lo lp e g. ap (bit (w.kind p)) (sym (here targets o e)) ∙ k.allowed (i % 32) o p (omega arith) lo lp g };
    low-kept = record { at = λ o l e. let z = (k.limited (i % 32) o (omega arith) l).least in omega (arith, here lows o e) };
    high-kept = record { at = λ o l e. let z = (k.limited (i % 32) o (omega arith) l).most in omega (arith, here highs o e) };
  }
    where
      here : (t : List ℕ) (o : ℕ) → w.kind o ≡ i / 32 → get_or t (w.kind o * 32 + i % 32) 0 ≡ get_or t i 0
      here t o e = let z : w.kind o * 32 + i % 32 ≡ i = omega arith in ap (λ (k : ℕ). get_or t k 0) z

  pub rows_of : (x : Sheet) (w : World) → Allowed x w → ((i : ℕ) → i < 768 → RowKept targets lows highs i w) → RowsKept targets lows highs w
  rows_of x w h k = record {
    allowed = λ s o p hs lo lp g.
        let t = h.known o lo in
        let slot : (w.kind o * 32 + s) % 32 ≡ s = omega arith in
        let type : w.kind o ≡ (w.kind o * 32 + s) / 32 = omega arith in
        (k (w.kind o * 32 + s) (omega arith)).targets-kept.at o p lo lp type (subst (λ (y : ℕ). w.link y o p ≡ true) (sym slot) g);
    limited = λ s o hs l.
        let t = h.known o l in
        let slot : (w.kind o * 32 + s) % 32 ≡ s = omega arith in
        let type : w.kind o ≡ (w.kind o * 32 + s) / 32 = omega arith in
        let r = k (w.kind o * 32 + s) (omega arith) in
        subst (λ (y : ℕ). InLimits (get_or lows (w.kind o * 32 + s) 0) (get_or highs (w.kind o * 32 + s) 0) (tally (λ p. w.link y o p) w.size)) slot
        (record { least = r.low-kept.at o l type; most = r.high-kept.at o l type });
  }
