-- Laws of demand. A lower limit holds at no fewer than `low` objects of each wanted world. Of the first k objects only the candidates
-- can be among these, as their types say; the others are extra objects, and these have an allowed type. So there are at least
-- low - candidates extra objects of an allowed type (`needs-of`). Rows, columns and singletons are three readings of this.
-- Assumes nothing.
use mathlib.Core.Path.{◌≡◌, refl, sym, ap, ◌∙◌}
use mathlib.Core.Bool.{Bool, true, false, not, ◌&&◌, false≢true}
use mathlib.Core.List.{List}
use Prim.Native.Nat.{ℕ, ◌+◌, ◌-◌, ◌≤◌, ◌<◌}
use native.Mathlib.Omega.{arith}
use lib.Dec.{eqb}
use lib.ListN.{get_or}
use borrow.Author.Tests.{eqb-true, eq-eqb, ne_eqb}
use Rattle.laws.specs.Bits.{bit}
use Rattle.laws.specs.Bounded.{tally}
use Rattle.laws.proofs.BoundedLaws.{tally-none}
use Rattle.laws.proofs.CountLaws.{tally-mono, tally-holds}
use Rattle.laws.proofs.ConnectiveLaws.{and_left, and_right, and_both}
use Rattle.growing.specs.World.{World}
use Rattle.growing.specs.Growth.{Extends, Extra, Demanded}
use Rattle.growing.specs.Demand.{extras, Needs, Available, AtLeast, candidates, RowAtLeast, ColumnAtLeast}
use Rattle.growing.proofs.SplitLaws.{from-split, from-least, from-mono}

module _ (S : World → Type 0) (types : ℕ) (kinds : List ℕ) (k forb n : ℕ) where
  -- wanted worlds have types of the diagram
  module _ (small : (w : World) → S w → (o : ℕ) → o < w.size → w.kind o < types) where
    -- an extra object, of one of these types
    pub demanded-need : (g c : ℕ) → Needs S kinds k forb n g c → 0 < c → Demanded S types kinds k forb n false true g
    demanded-need g c need h = record {
      nowhere = λ z. absurd (false≢true z);
      beyond = λ _ w e s. let v = one w e s in omega (arith, v.past, v.below);
      extra = λ w e s _. one w e s;
    }
      where
        one : (w : World) → Extends kinds k forb n w → S w → Extra types k g w
        one w e s =
            let v = (from-least (λ o. bit (w.kind o) g) k w.size c (need w e s)).1 h in
            record { at = v.0; past = v.1; below = v.2; small = small w s v.0 v.2; typed = v.3 }

    -- nothing is needed: the k objects may be enough, and an extra object may have any available type
    pub demanded-any : (available : ℕ) → Available S kinds k forb n available → Demanded S types kinds k forb n false false available
    demanded-any available all = record {
      nowhere = λ z. absurd (false≢true z);
      beyond = λ z. absurd (false≢true z);
      extra = λ w e s l. record { at = k; past = omega arith; below = l; small = small w s k l; typed = all w e s k (omega arith) l };
    }

-- ---- where needs come from

-- one world: what is missing among the first k objects stands among the extra ones
missing : (kinds : List ℕ) (k forb n : ℕ) (w : World) → Extends kinds k forb n w → (q : ℕ → Bool) (low g : ℕ) (allowed closed : ℕ → Bool)
    → AtLeast q low allowed closed w → ((o : ℕ) → k ≤ o → o < w.size → q o ≡ true → bit (w.kind o) g ≡ true)
    → low - candidates allowed closed kinds k ≤ extras g k w
missing kinds k forb n w e q low g allowed closed a typed =
    let split = from-split q k w.size e.many in
    let rest = from-mono (λ o. bit (w.kind o) g) k w.size q typed in
    let first = tally-mono q candidate k inside in
    omega (arith, split, rest, first, a.enough)
  where
    candidate : ℕ → Bool
    candidate o = allowed (get_or kinds o 0) && not (closed o)

    inside : (o : ℕ) → o < k → q o ≡ true → candidate o ≡ true
    inside o l h =
        let below : o < w.size = omega (arith, e.many) in
        and_both (allowed (get_or kinds o 0)) (not (closed o)) (ap allowed (sym (e.kept o l)) ∙ a.typed o below h) (ap not (a.free o below h))

module _ (S : World → Type 0) (kinds : List ℕ) (k forb n : ℕ) where
  -- the extra objects of wanted worlds have a possible type, no forbidden one, and none of a singleton that is among the first k
  pub available-of : (possible single available : ℕ)
      → ((w : World) → S w → (o : ℕ) → o < w.size → bit (w.kind o) possible ≡ true)
      → ((w : World) → S w → (x : ℕ) → bit x single ≡ true → tally (λ o. eqb (w.kind o) x) w.size ≤ 1)
      → ((x : ℕ) → bit x possible ≡ true → bit x forb ≡ false → (bit x single ≡ true → (o : ℕ) → o < k → get_or kinds o 0 ≡ x → ⊥) → bit x available ≡ true)
      → Available S kinds k forb n available
  available-of possible single available some once is w e s o past below =
      is (w.kind o) (some w s o below) (e.avoids o past below) (λ h p l z. twice h p l (e.kept p l ∙ z))
    where
      same : ℕ → Bool
      same p = eqb (w.kind p) (w.kind o)

      -- o, as one of the places from k on
      here : same (k + (o - k)) ≡ true
      here = let z : k + (o - k) ≡ o = omega arith in eq-eqb (w.kind (k + (o - k))) (w.kind o) (ap w.kind z)

      twice : bit (w.kind o) single ≡ true → (p : ℕ) → p < k → w.kind p ≡ w.kind o → ⊥
      twice h p l z =
          let a = tally-holds same k p l (eq-eqb (w.kind p) (w.kind o) z) in
          let b = tally-holds (λ i. same (k + i)) (w.size - k) (o - k) (omega arith) here in
          omega (arith, a, b, from-split same k w.size e.many, once w s (w.kind o) h)

  module _ (available : ℕ) (all : Available S kinds k forb n available) where
    pub needs-of : (q : World → ℕ → Bool) (low g : ℕ) (allowed closed : ℕ → Bool)
        → ((w : World) → Extends kinds k forb n w → S w → AtLeast (q w) low allowed closed w)
        → ((x : ℕ) → allowed x ≡ true → bit x available ≡ true → bit x g ≡ true)
        → Needs S kinds k forb n g (low - candidates allowed closed kinds k)
    needs-of q low g allowed closed each mask w e s =
        let a = each w e s in
        missing kinds k forb n w e (q w) low g allowed closed a (λ o past below h. mask (w.kind o) (a.typed o below h) (all w e s o past below))

    -- targets for the row of o
    pub row-needs : (r o low targets g : ℕ) (closed : ℕ → Bool)
        → ((w : World) → Extends kinds k forb n w → S w → RowAtLeast r o low targets closed w)
        → ((x : ℕ) → bit x targets ≡ true → bit x available ≡ true → bit x g ≡ true)
        → Needs S kinds k forb n g (low - candidates (λ x. bit x targets) closed kinds k)
    row-needs r o low targets g closed each mask = needs-of (λ w p. w.link r o p) low g (λ x. bit x targets) closed each mask

    -- sources for the column of p
    pub column-needs : (r p low counted sources g : ℕ) (closed : ℕ → Bool)
        → ((w : World) → Extends kinds k forb n w → S w → ColumnAtLeast r p low counted sources closed w)
        → ((x : ℕ) → bit x counted && bit x sources ≡ true → bit x available ≡ true → bit x g ≡ true)
        → Needs S kinds k forb n g (low - candidates (λ x. bit x counted && bit x sources) closed kinds k)
    column-needs r p low counted sources g closed each mask =
        needs-of source low g (λ x. bit x counted && bit x sources) closed column mask
      where
        source : World → ℕ → Bool
        source w o = bit (w.kind o) counted && w.link r o p

        column : (w : World) → Extends kinds k forb n w → S w → AtLeast (source w) low (λ x. bit x counted && bit x sources) closed w
        column w e s = let a = each w e s in record {
          enough = a.enough;
          typed = λ o l h. and_both (bit (w.kind o) counted) (bit (w.kind o) sources) (and_left (bit (w.kind o) counted) (w.link r o p) h)
              (a.typed o l (and_right (bit (w.kind o) counted) (w.link r o p) h));
          free = λ o l h. a.free o l (and_right (bit (w.kind o) counted) (w.link r o p) h);
        }

    -- an object of a singleton x that none of the first k objects has
    pub single-needs : (x g : ℕ) → ((w : World) → S w → 0 < tally (λ o. eqb (w.kind o) x) w.size)
        → ((o : ℕ) → o < k → get_or kinds o 0 ≡ x → ⊥) → (bit x available ≡ true → bit x g ≡ true) → Needs S kinds k forb n g 1
    single-needs x g some absent mask w e s = omega (arith, none, need w e s)
      where
        need : Needs S kinds k forb n g (1 - candidates (λ y. eqb y x) (λ _. false) kinds k)
        need = needs-of (λ w o. eqb (w.kind o) x) 1 g (λ y. eqb y x) (λ _. false)
            (λ w e s. record { enough = some w s; typed = λ o l h. h; free = λ o l h. refl })
            (λ y z h. let i : y ≡ x = eqb-true y x z in ap (λ (m : ℕ). bit m g) i ∙ mask (ap (λ (m : ℕ). bit m available) (sym i) ∙ h))

        none : candidates (λ y. eqb y x) (λ _. false) kinds k ≡ 0
        none = tally-none (λ o. eqb (get_or kinds o 0) x && not false) k
            (λ o l. ap (λ (b : Bool). b && not false) (ne_eqb (get_or kinds o 0) x (absent o l)))
