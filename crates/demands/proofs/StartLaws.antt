-- A solution that extends the given types starts with them, and its extra objects have available types; and what is right about
-- all solutions is what a demand promises.
-- Assumes nothing.
use Rattle.std.specs.Prelude.{Option, Some, is_none, unwrap_or}
use Prim.Native.Nat.{◌-◌, ◌<◌, ◌≤◌, ℕ}
use mathlib.Core.Bool.{Bool, ◌&&◌, false, not, true}
use mathlib.Core.Path.{◌∙◌, ◌≡◌, ap, refl, sym}
use native.Mathlib.Omega.{arith}
use lib.Dec.{eqb, ltb}
use lib.ListN.{get_or}
use borrow.Author.Tests.{eqb-true, ltb-false, ltb-true, ne_eqb}
use mathlib.Core.Logic.{⊎_elim}
use Rattle.laws.specs.Bits.{bit}
use Rattle.laws.specs.Bounded.{tally}
use Rattle.laws.proofs.BoundedLaws.{any_at, tally-none}
use Rattle.laws.proofs.ConnectiveLaws.{and_both, and_left, and_right, known, true-false}
use Rattle.growing.specs.World.{World}
use Rattle.growing.specs.Growth.{Demanded, Extends}
use Rattle.growing.specs.Demand.{Available}
use Rattle.growing.proofs.DemandLaws.{available-of}
use Rattle.worlds.specs.declared.Query.{Query}
use Rattle.worlds.specs.Asked.{Solution}
use Rattle.worlds.specs.Kept.{Sheet}
use Rattle.demands.specs.declared.Start.{Start}
use Rattle.demands.specs.Wishes.{Right, Sharpens, Started, available, present}

-- nothing is known but the available types
right-free : (s : Start) (w : World) → Started s w → Right s.k (Some s.free) w
right-free s w a = record {
  alive = refl;
  extra = λ l. record { at = s.k; past = omega arith; below = l; small = a.known s.k l; typed = a.extra s.k (omega arith) l };
}

module _ (x : Sheet) (q : Query) (n : ℕ) (s : Start) (forb : ℕ) (spare : s.spare ≡ n - s.k) where
  -- a singleton has at most one object
  once : (w : World) → Solution x q n w → (t : ℕ) → bit t x.singles ≡ true → tally (λ o. eqb (w.kind o) t) w.size ≤ 1
  once w a t h = go (ltb t 24) refl
    where
      go : (b : Bool) → ltb t 24 ≡ b → tally (λ o. eqb (w.kind o) t) w.size ≤ 1
      go true e = let z = a.allowed.singles.at t (ltb-true t 24 e) h in omega arith
      go false e =
          let far : 24 ≤ t = ltb-false t 24 e in
          let z : tally (λ o. eqb (w.kind o) t) w.size ≡ 0
          = tally-none (λ o. eqb (w.kind o) t) w.size (λ o l. ne_eqb (w.kind o) t (λ y. omega (arith, a.allowed.known o l))) in
          omega arith

  module _ (is : (t : ℕ) → bit t s.free ≡ available x.usable x.singles forb s.types.at s.k t) where
    all-free : Available (Solution x q n) s.types.at s.k forb n s.free
    all-free =
        available-of (Solution x q n) s.types.at s.k forb n x.usable x.singles s.free (λ w a. a.allowed.usable) once
        (λ t a b f. is t ∙ and_both (bit t x.usable && not (bit t forb)) (not (bit t x.singles && present s.types.at s.k t)) (and_both (bit t x.usable) (not (bit t forb)) a (ap not b)) (new t f))
      where
        new : (t : ℕ) → (bit t x.singles ≡ true → (o : ℕ) → o < s.k → get_or s.types.at o 0 ≡ t → ⊥) → not (bit t x.singles && present s.types.at s.k t) ≡ true
        new t f = ⊎_elim
            (λ e. absurd
            (let v = any_at (λ o. eqb t (get_or s.types.at o 0)) s.k (and_right (bit t x.singles) (present s.types.at s.k t) e) in
            f (and_left (bit t x.singles) (present s.types.at s.k t) e) v.0 v.1 (sym (eqb-true t (get_or s.types.at v.0 0) v.2))))
            (λ e. ap not e) (known (bit t x.singles && present s.types.at s.k t))

    started : (w : World) → Extends s.types.at s.k forb n w → Solution x q n w → Started s w
    started w e a = record {
      many = e.many;
      few = omega (arith, e.few);
      eight = a.allowed.few;
      known = a.allowed.known;
      kept = e.kept;
      extra = all-free w e a;
    }

    -- from what is known with no count to what a solution sharpens
    pub demanded : {r : Option ℕ} → Sharpens (Solution x q n) s (Some s.free) r → Demanded (Solution x q n) 24 s.types.at s.k forb n (is_none r) (ltb s.k n) (unwrap_or r 0)
    demanded {r} sharp = record {
      nowhere = λ d w e a. true-false d (right w e a).alive;
      beyond = λ h w e a. omega (arith, ltb-true s.k n h, a.size);
      extra = λ w e a. (right w e a).extra;
    }
      where
        right : (w : World) → Extends s.types.at s.k forb n w → Solution x q n w → Right s.k r w
        right w e a = let b = started w e a in sharp.at w b a (right-free s w b)
