-- Laws of growth, for any property of worlds that is blind from place k on.
-- The one step that is not bookkeeping is `tried-call`. Let a wanted world have an extra object o of the type t that is about to be
-- forbidden. Either some extra object has a type that is forbidden already, and then that type was tried. Or none has: then o
-- goes to place k, and the world so made starts with the given types and t, avoids what is forbidden, and is still wanted, so
-- the growth with t at place k has covered it.
-- Assumes nothing.
use mathlib.Core.Path.{◌≡◌, sym, ap, ◌∙◌}
use mathlib.Core.Bool.{Bool, true, false, not, ◌&&◌, ◌||◌}
use mathlib.Core.Logic.{⊎_elim, ◌⊎◌}
use mathlib.Core.List.{List}
use Prim.Native.Nat.{ℕ, ◌+◌, ◌≤◌, ◌<◌}
use native.Mathlib.Nat.{eq-or-lt_of_le}
use native.Mathlib.Omega.{arith}
use lib.Dec.{eqb, leb}
use lib.ListN.{length, set}
use lib.Seq.{get_or-set_same, get_or-set_other}
use borrow.Author.Tests.{eqb-true, leb-true, le-leb}
use Rattle.laws.specs.Bits.{bit}
use Rattle.laws.specs.Bounded.{any}
use Rattle.laws.proofs.BoundedLaws.{any_at, any-no}
use Rattle.laws.proofs.ConnectiveLaws.{and_left, and_right, and_both, or_cases, or_left, true-false, known}
use Rattle.growing.specs.World.{World, exchanged, Blind}
use Rattle.laws.specs.Swap.{swap}
use Rattle.growing.specs.Growth.{Extends, Nowhere, Ended, Grown, Tried}
use Rattle.laws.proofs.SwapLaws.{swap-first, swap-else, swap-among}
use Rattle.laws.proofs.ListLaws.{set_more}

-- below m + 1: m, or below m
below_next : {x m : ℕ} → x < m + 1 → (x ≡ m) ⊎ (x < m)
below_next h = eq-or-lt_of_le (omega arith)

-- a type outside the larger of two masks is outside the smaller
outside : (x forb f : ℕ) → (bit x forb ≡ true → bit x f ≡ true) → bit x f ≡ false → bit x forb ≡ false
outside x forb f sub e = ⊎_elim (λ p. absurd (true-false (sub p) e)) (λ p. p) (known (bit x forb))

-- ---- one more type

-- the extra object o goes to place k
pub into : (kinds : List ℕ) (k forb n : ℕ) → k < length kinds → (w : World) → Extends kinds k forb n w
    → (f x o : ℕ) → k ≤ o → o < w.size → w.kind o ≡ x → ((p : ℕ) → k ≤ p → p < w.size → bit (w.kind p) f ≡ false)
    → Extends (set kinds k x) (k + 1) f n (exchanged k o w)
into kinds k forb n room w e f x o past below is free = record {
  few = e.few;
  many = omega (arith, past, below);
  kept = set_more (λ p v. w.kind (swap k o p) ≡ v) kinds k x room
      (λ p l. ap w.kind (swap-else k o p (λ z. omega arith) (λ z. omega arith)) ∙ e.kept p l) (ap w.kind (swap-first k o) ∙ is);
  avoids = λ p h l. free (swap k o p)
      (swap-among (λ (m : ℕ). k ≤ m) k o p (omega arith) past (omega arith))
      (swap-among (λ (m : ℕ). m < w.size) k o p (omega arith) below l);
}

-- a world that starts with the given types and x starts with the given types
pub out_of : (kinds : List ℕ) (k forb f n x : ℕ) → k < length kinds → bit x forb ≡ false
    → ((y : ℕ) → bit y forb ≡ true → bit y f ≡ true) → (w : World) → Extends (set kinds k x) (k + 1) f n w → Extends kinds k forb n w
out_of kinds k forb f n x room free sub w e = record {
  few = e.few;
  many = omega (arith, e.many);
  kept = λ o l. e.kept o (omega arith) ∙ get_or-set_other kinds k o x 0 (omega arith);
  avoids = λ o h l. ⊎_elim (λ z. first o z) (λ m. outside (w.kind o) forb f (sub (w.kind o)) (e.avoids o (omega arith) l)) (eq-or-lt_of_le h);
}
  where
    is_x : w.kind k ≡ x
    is_x = e.kept k (omega arith) ∙ get_or-set_same kinds k x 0 room

    first : (o : ℕ) → k ≡ o → bit (w.kind o) forb ≡ false
    first o z = ap (λ (m : ℕ). bit (w.kind m) forb) (sym z) ∙ ap (λ (y : ℕ). bit y forb) is_x ∙ free

-- ---- blind properties

-- a property that is blind from place k on is so from each later place on
pub blind-later : (S : World → Type 0) (k l : ℕ) → k ≤ l → Blind k S → Blind l S
blind-later S k l h blind w i j a b = blind w i j (omega arith) (omega arith)

-- ---- the loop over the types of one more object

-- a type that is not both in the mask and allowed: what `tried-skip` asks
pub passed_over : (t g f : ℕ) → bit t g && not (bit t f) ≡ false → bit t g ≡ true → bit t f ≡ true
passed_over t g f e h = ⊎_elim (λ z. z) (λ z. absurd (true-false (and_both (bit t g) (not (bit t f)) h (ap not z)) e)) (known (bit t f))

module _ (S : World → Type 0) (types : ℕ) (kinds : List ℕ) (k forb n g : ℕ) where
  -- no wanted world has an extra object of the type t
  abbrev Free : ℕ → Type 0
  Free t = (w : World) → Extends kinds k forb n w → S w → (o : ℕ) → k ≤ o → o < w.size → w.kind o ≡ t → ⊥

  pub tried-begin : Tried S types kinds k forb n g 0 forb
  tried-begin = record {
    within = omega arith;
    kept = λ x h. h;
    added = λ x p q. absurd (true-false p q);
    none = λ w e s o past below l. absurd (omega arith);
  }

  -- one type more: f is what is forbidden before, u after
  tried-more : (t f u : ℕ) → t < types → Tried S types kinds k forb n g t f → ((x : ℕ) → bit x f ≡ true → bit x u ≡ true)
      → ((x : ℕ) → bit x u ≡ true → bit x f ≡ false → (x ≡ t) × (bit t g ≡ true)) → (bit t g ≡ true → Free t)
      → Tried S types kinds k forb n g (t + 1) u
  tried-more t f u h a more only free = record {
    within = omega arith;
    kept = λ x p. more x (a.kept x p);
    added = λ x p q. ⊎_elim
        (λ z. let r = a.added x z q in (omega (arith, r.0), r.1))
        (λ z. let r = only x p z in let y : x ≡ t = r.0 in (omega arith, ap (λ (m : ℕ). bit m g) y ∙ r.1)) (known (bit x f));
    none = λ w e s o past below l typed. ⊎_elim
        (λ z. free (ap (λ (m : ℕ). bit m g) (sym z) ∙ typed) w e s o past below z)
        (λ m. a.none w e s o past below m typed) (below_next l);
  }

  -- a type that is not in the mask, or is forbidden, is passed over
  pub tried-skip : (t f : ℕ) → t < types → (bit t g ≡ true → bit t f ≡ true)
      → Tried S types kinds k forb n g t f → Tried S types kinds k forb n g (t + 1) f
  tried-skip t f h skip a = tried-more t f f h a (λ x p. p) (λ x p q. absurd (true-false p q)) never
    where
      -- in the mask, it is forbidden; not below t, it was so from the beginning
      never : bit t g ≡ true → Free t
      never ing w e s o past below z =
          let r = a.added t (skip ing) (ap (λ (m : ℕ). bit m forb) (sym z) ∙ e.avoids o past below) in
          omega (arith, r.0)

  -- a type with which the growth found nothing is forbidden from here on
  pub tried-call : (t f u : ℕ) → t < types → k < length kinds → Blind k S → bit t g ≡ true → Tried S types kinds k forb n g t f
      → Nowhere S (set kinds k t) (k + 1) f n → ((j : ℕ) → bit j u ≡ bit j f || eqb j t) → Tried S types kinds k forb n g (t + 1) u
  tried-call t f u h room blind ing a nowhere is =
      tried-more t f u h a (λ x p. is x ∙ or_left (bit x f) (eqb x t) p)
      (λ x p q. (⊎_elim (λ z. absurd (true-false z q)) (λ z. eqb-true x t z) (or_cases (bit x f) (eqb x t) (sym (is x) ∙ p)), ing))
      (λ _ w e s o past below z. ⊎_elim (some w e s) (none w e s o past below z) (known (any (taken w) w.size)))
    where
      -- an extra object whose type is forbidden already
      taken : World → ℕ → Bool
      taken w p = leb k p && bit (w.kind p) f

      -- such a type is one of forb, which e excludes, or was tried
      some : (w : World) → Extends kinds k forb n w → S w → any (taken w) w.size ≡ true → ⊥
      some w e s h =
          let v = any_at (taken w) w.size h in
          let past = leb-true k v.0 (and_left (leb k v.0) (bit (w.kind v.0) f) v.2) in
          let r = a.added (w.kind v.0) (and_right (leb k v.0) (bit (w.kind v.0) f) v.2) (e.avoids v.0 past v.1) in
          a.none w e s v.0 past v.1 r.0 r.1

      none : (w : World) → Extends kinds k forb n w → S w → (o : ℕ) → k ≤ o → o < w.size → w.kind o ≡ t → any (taken w) w.size ≡ false → ⊥
      none w e s o past below z h =
          nowhere (exchanged k o w) (into kinds k forb n room w e f t o past below z free) (blind w k o (omega arith) past (omega arith) below s)
        where
          free : (p : ℕ) → k ≤ p → p < w.size → bit (w.kind p) f ≡ false
          free p q l = ap (λ (b : Bool). b && bit (w.kind p) f) (sym (le-leb k p q)) ∙ any-no (taken w) w.size h p l

-- ---- the ways out of the growth

module _ (S : World → Type 0) (kinds : List ℕ) (k forb n : ℕ) where
  pub grown-none : (ok : Bool) (m : World) → ok ≡ false → Nowhere S kinds k forb n → Grown S kinds k forb n ok m
  grown-none ok m e h = record { fits = λ z. absurd (true-false z e); sound = λ z. absurd (true-false z e); complete = λ _. h }

  -- the k objects alone are enough
  pub grown-end : (skip ok : Bool) (m : World) → k ≤ n → Ended S kinds k skip ok m → ok ≡ true → Grown S kinds k forb n ok m
  grown-end skip ok m le a e = record {
    fits = λ _. let z = a.size e in
        record { few = omega arith; many = omega arith; kept = a.kept e; avoids = λ o p q. absurd (omega arith) };
    sound = a.sound;
    complete = λ z. absurd (true-false e z);
  }

module _ (S : World → Type 0) (types : ℕ) (kinds : List ℕ) (k forb n : ℕ) where
  -- the growth with t at place k found a world
  pub grown-call : (g t f : ℕ) (ok : Bool) (m : World) → k < length kinds → bit t f ≡ false → Tried S types kinds k forb n g t f
      → Grown S (set kinds k t) (k + 1) f n ok m → ok ≡ true → Grown S kinds k forb n ok m
  grown-call g t f ok m room free a r e = record {
    fits = λ z. out_of kinds k forb f n t room (outside t forb f (a.kept t) free) a.kept m (r.fits z);
    sound = r.sound;
    complete = λ z. absurd (true-false e z);
  }
