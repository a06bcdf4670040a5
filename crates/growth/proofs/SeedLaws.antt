-- The types of the seeds: each seed has a type that the query names for it and that an object can have, so trying these for one seed
-- after the other covers all worlds that are asked for.
-- Assumes nothing.
use Prim.Native.Nat.{◌+◌, ◌<◌, ◌≤◌, ℕ}
use mathlib.Core.Bool.{Bool, ◌&&◌, false, true}
use mathlib.Core.List.{List}
use mathlib.Core.Logic.{◌⊎◌, ⊎_elim}
use mathlib.Core.Path.{◌∙◌, ◌≡◌, ap, subst, sym}
use native.Mathlib.Nat.{eq-or-lt_of_le}
use native.Mathlib.Omega.{arith}
use lib.ListN.{get_or, length, set}
use lib.Seq.{get_or-set_other, get_or-set_same}
use Rattle.laws.specs.Bits.{bit}
use Rattle.laws.proofs.BitLaws.{bit-zero}
use Rattle.laws.proofs.ConnectiveLaws.{and_both, true-false}
use Rattle.growing.specs.World.{World}
use Rattle.growing.specs.Growth.{Extends, Grown, Nowhere}
use Rattle.growing.proofs.GrowthLaws.{grown-none, out_of}
use Rattle.worlds.specs.declared.Query.{Query}
use Rattle.worlds.specs.Asked.{Answers, Solution}
use Rattle.worlds.specs.Kept.{Sheet}

-- no type is forbidden
free : (kinds : List ℕ) (k forb n : ℕ) (w : World) → Extends kinds k forb n w → Extends kinds k 0 n w
free kinds k forb n w e = record { few = e.few; many = e.many; kept = e.kept; avoids = λ o h l. bit-zero (w.kind o) }

module _ (x : Sheet) (q : Query) (kinds : List ℕ) (k n : ℕ) where
  abbrev Wanted : World → Type 0
  Wanted = Solution x q n

  -- ---- all seeds are given: no other object has a type that is never to be

  pub grown-seeded : (ok : Bool) (m : World) → k ≡ q.seeds → Grown Wanted kinds k q.never n ok m → Grown Wanted kinds k 0 n ok m
  grown-seeded ok m full r = record {
    fits = λ e. free kinds k q.never n m (r.fits e);
    sound = r.sound;
    complete = λ e w a s. r.complete e w (avoiding w a s) s;
  }
    where
      avoiding : (w : World) → Extends kinds k 0 n w → Wanted w → Extends kinds k q.never n w
      avoiding w a s = record { few = a.few; many = a.many; kept = a.kept; avoids = λ o h l. s.asked.avoids o (omega arith) l }

  pub grown-implied : (ok : Bool) (m : World) → k ≡ q.seeds → ok ≡ false → Nowhere Wanted kinds q.seeds q.never n → Grown Wanted kinds k 0 n ok m
  grown-implied ok m full e h =
      grown-seeded ok m full (grown-none Wanted kinds k q.never n ok m e (subst (λ (i : ℕ). Nowhere Wanted kinds i q.never n) (sym full) h))

  -- ---- the loop over the types of seed k

  -- no wanted world has a type below t there
  pub record Passed (t : ℕ) : Type 0 where
    pub within : t ≤ 24
    pub none : (w : World) → Extends kinds k 0 n w → Wanted w → w.kind k < t → ⊥

  pub passed-begin : Passed 0
  passed-begin = record { within = omega arith; none = λ w a s l. omega arith }

  passed-more : (t : ℕ) → t < 24 → Passed t → ((w : World) → Extends kinds k 0 n w → Wanted w → w.kind k ≡ t → ⊥) → Passed (t + 1)
  passed-more t h p f = record {
    within = omega arith;
    none = λ w a s l. ⊎_elim (f w a s) (p.none w a s) (eq-or-lt_of_le (omega arith));
  }

  pub passed-skip : (t : ℕ) → t < 24 → k < q.seeds → bit t (get_or q.types k 0) && bit t x.usable ≡ false → Passed t → Passed (t + 1)
  passed-skip t h seed out p = passed-more t h p (λ w a s e.
      true-false (and_both (bit t (get_or q.types k 0)) (bit t x.usable)
      (ap (λ (m : ℕ). bit m (get_or q.types k 0)) (sym e) ∙ s.asked.typed k seed)
      (ap (λ (m : ℕ). bit m x.usable) (sym e) ∙ s.allowed.usable k (omega (arith, s.asked.many)))) out)

  pub passed-call : (t : ℕ) → t < 24 → k < q.seeds → k < length kinds → Nowhere Wanted (set kinds k t) (k + 1) 0 n → Passed t → Passed (t + 1)
  passed-call t h seed room nowhere p = passed-more t h p (λ w a s e. nowhere w (given w a s e) s)
    where
      kept : (w : World) → Extends kinds k 0 n w → w.kind k ≡ t → (o : ℕ) → (o ≡ k) ⊎ (o < k) → w.kind o ≡ get_or (set kinds k t) o 0
      kept w a e o c = ⊎_elim
          (λ z. subst (λ (m : ℕ). w.kind m ≡ get_or (set kinds k t) m 0) (sym z) (e ∙ sym (get_or-set_same kinds k t 0 room)))
          (λ l. a.kept o l ∙ sym (get_or-set_other kinds k o t 0 (omega arith))) c

      given : (w : World) → Extends kinds k 0 n w → Wanted w → w.kind k ≡ t → Extends (set kinds k t) (k + 1) 0 n w
      given w a s e = record {
        few = a.few;
        many = omega (arith, s.asked.many);
        kept = λ o l. kept w a e o (eq-or-lt_of_le (omega arith));
        avoids = λ o b l. a.avoids o (omega arith) l;
      }

  -- ---- the ways out

  -- a world with t at place k was found
  pub grown-chosen : (t : ℕ) (ok : Bool) (m : World) → k < length kinds → Grown Wanted (set kinds k t) (k + 1) 0 n ok m → ok ≡ true → Grown Wanted kinds k 0 n ok m
  grown-chosen t ok m room r e = record {
    fits = λ z. out_of kinds k 0 0 n t room (bit-zero t) (λ y b. b) m (r.fits z);
    sound = r.sound;
    complete = λ z. absurd (true-false e z);
  }

  -- all types were tried
  pub grown-passed : (t : ℕ) (ok : Bool) (m : World) → 24 ≤ t → k < q.seeds → ok ≡ false → Passed t → Grown Wanted kinds k 0 n ok m
  grown-passed t ok m all seed e p = grown-none Wanted kinds k 0 n ok m e
      (λ w a s. p.none w a s (omega (arith, s.allowed.known k (omega (arith, s.asked.many)))))

-- ---- nothing is given

module _ (x : Sheet) (q : Query) (n : ℕ) where
  pub answers-few : (ok : Bool) (m : World) → n < q.seeds → ok ≡ false → Answers (Solution x q n) ok m
  answers-few ok m few e = record { sound = λ z. absurd (true-false z e); complete = λ z w s. omega (arith, s.asked.many, s.size) }

  pub answers-grown : (kinds : List ℕ) (ok : Bool) (m : World) → Grown (Solution x q n) kinds 0 0 n ok m → Answers (Solution x q n) ok m
  answers-grown kinds ok m r = record {
    sound = r.sound;
    complete = λ e w s. r.complete e w
        (record { few = omega (arith, s.size); many = omega arith; kept = λ o l. absurd (omega arith); avoids = λ o h l. bit-zero (w.kind o) }) s;
  }
