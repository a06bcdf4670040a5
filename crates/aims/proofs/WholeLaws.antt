-- Wholes, two compositions at a time: a search for a part of two.
-- Assumes nothing.
use Prim.Native.Nat.{◌%◌, ◌*◌, ◌+◌, ◌/◌, ◌<◌, ◌≤◌, ℕ}
use mathlib.Core.Bool.{Bool, ◌&&◌, false, true}
use mathlib.Core.List.{List}
use mathlib.Core.Path.{◌∙◌, ◌≡◌, ap, refl, subst, sym}
use native.Mathlib.Omega.{arith}
use lib.Dec.{eqb, leb}
use lib.ListN.{get_or}
use borrow.Author.Tests.{eqb-false, eqb-true, leb-false, leb-true}
use Rattle.laws.specs.Bits.{bit}
use Rattle.laws.specs.Bounded.{tally}
use Rattle.laws.proofs.BitLaws.{bit-zero}
use Rattle.laws.proofs.BoundedLaws.{any_at, any_of}
use Rattle.laws.proofs.ConnectiveLaws.{and_both, and_left, and_right, true-false}
use Rattle.laws.proofs.TwoLaws.{counted-two, two-counted}
use Rattle.growing.specs.World.{World}
use Rattle.worlds.specs.declared.Lines.{Lines}
use Rattle.worlds.specs.declared.Whole.{Whole}
use Rattle.worlds.specs.Kept.{Sheet, WholesKept, whole_by, whole_of}
use Rattle.worlds.specs.Asked.{Breaks}
use Rattle.queries.specs.Avoided.{OwnPartsAvoided, PartsAvoided}
use Rattle.queries.proofs.BreakLaws.{Throughout, breaks-last}
use Rattle.aims.specs.Wholes.{AllPartsAvoided, PairApart, PairsApart, is_whole_by}
use Rattle.aims.proofs.RowLaws.{Common}

-- ---- a target of two: they are others, or the first is the target itself, or the second is

module _ (s u a b c : ℕ) (w : World) where
  pub parts_first : AllPartsAvoided s u a b c w → PartsAvoided s u a b c w
  parts_first k = record { at = λ p o r lp lo lr _ _ ne e f g i j. k.at p o r lp lo lr ne e f g i j }

  pub parts-own : (d : ℕ) → Common d a b → AllPartsAvoided s u a b c w → OwnPartsAvoided s u d c w
  parts-own d both k = record {
    at = λ p r lp lr ne e f i j.
        let h = sym (both (w.kind p)) ∙ e in
        k.at p p r lp lp lr ne (and_left (bit (w.kind p) a) (bit (w.kind p) b) h) (and_right (bit (w.kind p) a) (bit (w.kind p) b) h) f i j;
  }

  parts-too : (d : ℕ) → Common d a c → AllPartsAvoided s u a b c w → OwnPartsAvoided u s d b w
  parts-too d both k = record {
    at = λ p r lp lr ne e f i j.
        let h = sym (both (w.kind p)) ∙ e in
        k.at p r p lp lr lp (λ z. ne (sym z)) (and_left (bit (w.kind p) a) (bit (w.kind p) c) h) f (and_right (bit (w.kind p) a) (bit (w.kind p) c) h) j i;
  }

  all-parts : (d e : ℕ) → Common d a b → Common e a c → PartsAvoided s u a b c w → OwnPartsAvoided s u d c w → OwnPartsAvoided u s e b w → AllPartsAvoided s u a b c w
  all-parts d e both too k l m = record { at = λ p o r lp lo lr ne f g h i j. go p o r lp lo lr ne f g h i j (eqb o p) refl (eqb r p) refl }
    where
      go : (p o r : ℕ) → p < w.size → o < w.size → r < w.size → (o ≡ r → ⊥) → bit (w.kind p) a ≡ true → bit (w.kind o) b ≡ true → bit (w.kind r) c ≡ true
          → w.link s o p ≡ true → w.link u r p ≡ true → (t : Bool) → eqb o p ≡ t → (v : Bool) → eqb r p ≡ v → ⊥
      go p o r lp lo lr ne f g h i j true y v z =
          let q : o ≡ p = eqb-true o p y in
          l.at p r lp lr (λ x. ne (q ∙ x)) (both (w.kind p) ∙ and_both (bit (w.kind p) a) (bit (w.kind p) b) f (subst (λ (x : ℕ). bit (w.kind x) b ≡ true) q g)) h
          (subst (λ (x : ℕ). w.link s x p ≡ true) q i) j
      go p o r lp lo lr ne f g h i j false y true z =
          let q : r ≡ p = eqb-true r p z in
          m.at p o lp lo (λ x. eqb-false o p y (sym x)) (too (w.kind p) ∙ and_both (bit (w.kind p) a) (bit (w.kind p) c) f (subst (λ (x : ℕ). bit (w.kind x) c ≡ true) q h)) g
          (subst (λ (x : ℕ). w.link u x p ≡ true) q j) i
      go p o r lp lo lr ne f g h i j false y false z =
          k.at p o r lp lo lr (λ x. eqb-false o p y (sym x)) (λ x. eqb-false r p z (sym x)) ne f g h i j

pub parts_last : (x : Sheet) (n : ℕ) (ok : Bool) (m : World) (s u a b c d e : ℕ) → Common d a b → Common e a c → Throughout x (PartsAvoided s u a b c) n
    → Throughout x (OwnPartsAvoided s u d c) n → Breaks x (OwnPartsAvoided u s e b) n ok m → Breaks x (AllPartsAvoided s u a b c) n ok m
parts_last x n ok m s u a b c d e both too f g =
    breaks-last x n ok m (AllPartsAvoided s u a b c) (OwnPartsAvoided u s e b) (λ w. parts-too s u a b c w e too)
    (λ w h z. all-parts s u a b c w d e both too (f w h z) (g w h z))

-- ---- two compositions

-- what makes o a whole of p by a composition
module _ (c : Whole) (w : World) (p o : ℕ) where
  pub whole_from : is_whole_by c w p o ≡ true → bit (w.kind o) c.from ≡ true
  whole_from = and_left (bit (w.kind o) c.from) (bit (w.kind p) c.to && w.link c.slot o p)

  rest : is_whole_by c w p o ≡ true → bit (w.kind p) c.to && w.link c.slot o p ≡ true
  rest = and_right (bit (w.kind o) c.from) (bit (w.kind p) c.to && w.link c.slot o p)

  whole_to : is_whole_by c w p o ≡ true → bit (w.kind p) c.to ≡ true
  whole_to e = and_left (bit (w.kind p) c.to) (w.link c.slot o p) (rest e)

  whole-link : is_whole_by c w p o ≡ true → w.link c.slot o p ≡ true
  whole-link e = and_right (bit (w.kind p) c.to) (w.link c.slot o p) (rest e)

  whole-by : bit (w.kind o) c.from ≡ true → bit (w.kind p) c.to ≡ true → w.link c.slot o p ≡ true → is_whole_by c w p o ≡ true
  whole-by e f g = and_both (bit (w.kind o) c.from) (bit (w.kind p) c.to && w.link c.slot o p) e (and_both (bit (w.kind p) c.to) (w.link c.slot o p) f g)

module _ (x : Sheet) (n : ℕ) (c d : Whole) where
  -- no type is a part by both
  pub pair-empty : (a : ℕ) → Common a c.to d.to → a ≡ 0 → Throughout x (PairApart c d) n
  pair-empty a both z w h _ = record {
    at = λ p o r _ _ _ _ e f.
        true-false (both (w.kind p) ∙ and_both (bit (w.kind p) c.to) (bit (w.kind p) d.to) (whole_to c w p o e) (whole_to d w p r f))
        (ap (bit (w.kind p)) z ∙ bit-zero (w.kind p));
  }

  -- no type is a whole by the first, or by the second
  pub pair-no-whole : c.from ≡ 0 → Throughout x (PairApart c d) n
  pair-no-whole z w h _ = record { at = λ p o _ _ _ _ _ e _. true-false (whole_from c w p o e) (ap (bit (w.kind o)) z ∙ bit-zero (w.kind o)) }

  pub pair-no-whole-too : d.from ≡ 0 → Throughout x (PairApart c d) n
  pair-no-whole-too z w h _ = record { at = λ p _ r _ _ _ _ _ e. true-false (whole_from d w p r e) (ap (bit (w.kind r)) z ∙ bit-zero (w.kind r)) }

  -- a slot past the last has no links
  pub pair-past : 32 ≤ c.slot → Throughout x (PairApart c d) n
  pair-past l w h _ = record { at = λ p o _ _ _ _ _ e _. true-false (whole-link c w p o e) (h.past c.slot o p l) }

  pub pair-past-too : 32 ≤ d.slot → Throughout x (PairApart c d) n
  pair-past-too l w h _ = record { at = λ p _ r _ _ _ _ _ e. true-false (whole-link d w p r e) (h.past d.slot r p l) }

  pub pair_found : (ok : Bool) (m : World) (a : ℕ) → Common a c.to d.to → Breaks x (AllPartsAvoided c.slot d.slot a c.from d.from) n ok m → Breaks x (PairApart c d) n ok m
  pair_found ok m a both = breaks-last x n ok m (PairApart c d) (AllPartsAvoided c.slot d.slot a c.from d.from)
      (λ w k.
      record {
        at = λ p o r lp lo lr ne e f g y z.
            let t = sym (both (w.kind p)) ∙ e in
            let first = bit (w.kind p) c.to in
            let second = bit (w.kind p) d.to in
            k.at p o r lp lo lr ne (whole-by c w p o f (and_left first second t) y) (whole-by d w p r g (and_right first second t) z);
      })
      (λ w h _ k.
      record {
        at = λ p o r lp lo lr ne e f.
            k.at p o r lp lo lr ne
            (both (w.kind p) ∙ and_both (bit (w.kind p) c.to) (bit (w.kind p) d.to) (whole_to c w p o e) (whole_to d w p r f))
            (whole_from c w p o e) (whole_from d w p r f) (whole-link c w p o e) (whole-link d w p r f);
      })

-- ---- all pairs

pub pairs-at : (x : Lines) (j : ℕ) → j < 16 → (w : World) → WholesKept x w → PairsApart x j w
unfolding whole_of
pairs-at x j h w k = record {
  at = λ i _ hi. record {
    at = λ p o r lp lo lr ne e f.
        omega (arith, k.at p lp, two-counted (whole_of x w p) w.size o r lo lr ne (any_of (whole_by x w p o) 16 j h e) (any_of (whole_by x w p r) 16 i hi f));
  };
}

pub wholes-of : (x : Lines) (w : World) → ((j : ℕ) → j < 16 → PairsApart x j w) → WholesKept x w
unfolding whole_of
wholes-of x w f = record { at = λ p lp. go p lp (leb (tally (whole_of x w p) w.size) 1) refl }
  where
    apart : (p o r j k : ℕ) → j < 16 → k < 16 → p < w.size → o < w.size → r < w.size → (o ≡ r → ⊥) → whole_by x w p o j ≡ true → whole_by x w p r k ≡ true
        → (t : Bool) → leb j k ≡ t → ⊥
    apart p o r j k hj hk lp lo lr ne a b true e = ((f j hj).at k (leb-true j k e) hk).at p o r lp lo lr ne a b
    apart p o r j k hj hk lp lo lr ne a b false e =
        let l = leb-false j k e in ((f k hk).at j (omega arith) hj).at p r o lp lr lo (λ z. ne (sym z)) b a

    go : (p : ℕ) → p < w.size → (t : Bool) → leb (tally (whole_of x w p) w.size) 1 ≡ t → tally (whole_of x w p) w.size ≤ 1
    go p lp true e = leb-true (tally (whole_of x w p) w.size) 1 e
    go p lp false e =
        let two = counted-two (whole_of x w p) w.size (leb-false (tally (whole_of x w p) w.size) 1 e) in
        let a = any_at (whole_by x w p two.first) 16 two.holds in
        let b = any_at (whole_by x w p two.second) 16 two.holds-too in
        absurd (apart p two.first two.second a.0 b.0 a.1 b.1 lp two.below two.below-too two.apart a.2 b.2 (leb a.0 b.0) refl)
