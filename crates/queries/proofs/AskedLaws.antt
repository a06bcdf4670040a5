-- What a query that is built step by step asks of a world: what its steps say. A search takes each of these queries.
-- Assumes nothing.
use Prim.Native.Nat.{◌%◌, ◌*◌, ◌+◌, ◌<◌, ◌^◌, ◌≤◌, ℕ}
use mathlib.Core.Path.{◌∙◌, ◌≡◌, ap, refl, subst, sym}
use mathlib.Core.Bool.{Bool, ◌&&◌, false, true}
use mathlib.Core.List.{List, [], ◌∷◌}
use native.Mathlib.Omega.{arith}
use lib.Bits.{bit_or}
use lib.Dec.{eqb}
use lib.ListN.{get_or, length, length-replicate, length-set, replicate}
use borrow.Author.Tests.{eqb-false, eqb-true}
use Rattle.laws.specs.Bits.{bit}
use Rattle.laws.specs.Bounded.{tally}
use Rattle.laws.proofs.BitLaws.{bit-with, bit-zero}
use Rattle.laws.proofs.ConnectiveLaws.{true-false}
use Rattle.laws.proofs.CountLaws.{tally-le}
use Rattle.laws.proofs.ListLaws.{zeros}
use Rattle.growing.specs.World.{World, source_count}
use Rattle.link_search.specs.Nets.{InLimits, net_of}
use Rattle.link_search.proofs.NetLaws.{Bit, bit-on}
use Rattle.worlds.specs.declared.Query.{Query}
use Rattle.worlds.specs.Asked.{Satisfies, Sane}
use Rattle.queries.specs.Forms.{avoiding, barred, columned, linked, rowed, seeded, with_bit}

-- ---- rows of bits

-- empty rows have no bit
no-bit : (n i p : ℕ) → net_of (replicate n 0) i p ≡ true → ⊥
no-bit n i p e = true-false e (ap (bit p) (zeros n i) ∙ bit-zero p)

module _ (rows : List ℕ) (s o p : ℕ) (long : length rows ≡ 256) (hs : s < 32) (ho : o < 8) where
  long-with : length (with_bit rows s o p) ≡ 256
  unfolding with_bit
  long-with = length-set rows (o * 32 + s) (bit_or (get_or rows (o * 32 + s) 0) (1 * 2 ^ p % 2 ^ 8)) ∙ long

  module _ (hp : p < 8) where
    one_more : Bit rows (o * 32 + s) p true (with_bit rows s o p)
    unfolding with_bit
    one_more =
        bit-on rows (o * 32 + s) p (bit_or (get_or rows (o * 32 + s) 0) (1 * 2 ^ p % 2 ^ 8)) (omega arith) (bit-with 8 p (get_or rows (o * 32 + s) 0) hp)

    -- what holds of the bits that were there, and of the one more, holds of all
    with_each : (P : ℕ → ℕ → ℕ → Type 0) → ((x y z : ℕ) → x < 8 → y < 32 → z < 8 → net_of rows (x * 32 + y) z ≡ true → P x y z) → P o s p
        → (x y z : ℕ) → x < 8 → y < 32 → z < 8 → net_of (with_bit rows s o p) (x * 32 + y) z ≡ true → P x y z
    with_each P before here x y z hx hy hz e = go (eqb (x * 32 + y) (o * 32 + s)) refl (eqb z p) refl
      where
        go : (a : Bool) → eqb (x * 32 + y) (o * 32 + s) ≡ a → (b : Bool) → eqb z p ≡ b → P x y z
        go true f true g =
            let i : x * 32 + y ≡ o * 32 + s = eqb-true (x * 32 + y) (o * 32 + s) f in
            let ex : x ≡ o = omega arith in
            let ey : y ≡ s = omega arith in
            subst (λ (a : ℕ). P a y z) (sym ex) (subst (λ (a : ℕ). P o a z) (sym ey) (subst (P o s) (sym (eqb-true z p g)) here))
        go true f false g = before x y z hx hy hz (sym (one_more.else (x * 32 + y) z (λ a b. eqb-false z p g b)) ∙ e)
        go false f b g = before x y z hx hy hz (sym (one_more.else (x * 32 + y) z (λ a b. eqb-false (x * 32 + y) (o * 32 + s) f a)) ∙ e)

    with-there : net_of (with_bit rows s o p) (o * 32 + s) p ≡ true
    with-there = one_more.here

    with-kept : (i z : ℕ) → net_of rows i z ≡ true → net_of (with_bit rows s o p) i z ≡ true
    with-kept i z e = go (eqb i (o * 32 + s)) refl (eqb z p) refl
      where
        go : (a : Bool) → eqb i (o * 32 + s) ≡ a → (b : Bool) → eqb z p ≡ b → net_of (with_bit rows s o p) i z ≡ true
        go true f true g =
            subst (λ (a : ℕ). net_of (with_bit rows s o p) a z ≡ true) (sym (eqb-true i (o * 32 + s) f))
            (subst (λ (a : ℕ). net_of (with_bit rows s o p) (o * 32 + s) a ≡ true) (sym (eqb-true z p g)) with-there)
        go true f false g = one_more.else i z (λ a b. eqb-false z p g b) ∙ e
        go false f b g = one_more.else i z (λ a b. eqb-false i (o * 32 + s) f a) ∙ e

-- ---- a query that a search takes, with k seeds

pub record Fit (k : ℕ) (q : Query) : Type 0 where
  pub few : k ≤ 8
  pub sane : Sane q
  pub seeds : q.seeds ≡ k
  pub long : length q.must ≡ 256
  pub long_shut : length q.shut ≡ 256

pub fit-seeded : (k a b c : ℕ) → k ≤ 8 → Fit k (seeded k a b c)
unfolding seeded
fit-seeded k a b c h = record {
  few = h;
  sane = record {
    few = h;
    row = omega arith;
    column = omega arith;
    must = λ o s p _ _ _ e. absurd (no-bit 256 (o * 32 + s) p e);
    shut = λ o s p _ _ _ e. absurd (no-bit 256 (o * 32 + s) p e);
  };
  seeds = refl;
  long = length-replicate {A = ℕ} 256 0;
  long_shut = length-replicate {A = ℕ} 256 0;
}

module _ (k : ℕ) (q : Query) (s : ℕ) (f : Fit k q) (hs : s < 32) where
  module _ (o p : ℕ) (ho : o < k) (hp : p < k) where
    pub fit-linked : Fit k (linked q s o p)
    unfolding linked
    fit-linked = record {
      few = f.few;
      sane = record {
        few = f.sane.few;
        row = f.sane.row;
        column = f.sane.column;
        must = with_each q.must s o p f.long hs (omega arith) (omega arith) (λ x _ z. (x < q.seeds) × (z < q.seeds)) f.sane.must (omega arith, omega arith);
        shut = f.sane.shut;
      };
      seeds = f.seeds;
      long = long-with q.must s o p f.long hs (omega arith);
      long_shut = f.long_shut;
    }

    pub fit-barred : Fit k (barred q s o p)
    unfolding barred
    fit-barred = record {
      few = f.few;
      sane = record {
        few = f.sane.few;
        row = f.sane.row;
        column = f.sane.column;
        must = f.sane.must;
        shut = with_each q.shut s o p f.long_shut hs (omega arith) (omega arith) (λ x _ z. (x < q.seeds) × (z < q.seeds)) f.sane.shut (omega arith, omega arith);
      };
      seeds = f.seeds;
      long = f.long;
      long_shut = long-with q.shut s o p f.long_shut hs (omega arith);
    }

  pub fit-rowed : (low high : ℕ) → Fit k (rowed q s low high)
  unfolding rowed
  fit-rowed low high = record {
    few = f.few;
    sane = record { few = f.sane.few; row = hs; column = f.sane.column; must = f.sane.must; shut = f.sane.shut };
    seeds = f.seeds;
    long = f.long;
    long_shut = f.long_shut;
  }

  pub fit-columned : (from least most : ℕ) → Fit k (columned q s from least most)
  unfolding columned
  fit-columned from least most = record {
    few = f.few;
    sane = record { few = f.sane.few; row = f.sane.row; column = hs; must = f.sane.must; shut = f.sane.shut };
    seeds = f.seeds;
    long = f.long;
    long_shut = f.long_shut;
  }

pub fit-avoiding : (k : ℕ) (q : Query) (never : ℕ) → Fit k q → Fit k (avoiding q never)
unfolding avoiding
fit-avoiding k q never f = record {
  few = f.few;
  sane = record { few = f.sane.few; row = f.sane.row; column = f.sane.column; must = f.sane.must; shut = f.sane.shut };
  seeds = f.seeds;
  long = f.long;
  long_shut = f.long_shut;
}

-- ---- what is asked of a world

-- the masks of the first three seeds
abbrev pub masks_of : ℕ → ℕ → ℕ → List ℕ
masks_of a b c = a ∷ b ∷ c ∷ 0 ∷ 0 ∷ 0 ∷ 0 ∷ 0 ∷ []

module _ (w : World) where
  pub asked-seeded : (k a b c : ℕ) → w.size ≤ 8 → k ≤ w.size → ((o : ℕ) → o < k → bit (w.kind o) (get_or (masks_of a b c) o 0) ≡ true) → Satisfies (seeded k a b c) w
  unfolding seeded
  asked-seeded k a b c few many typed = record {
    many = many;
    typed = typed;
    avoids = λ o _ _. bit-zero (w.kind o);
    must = λ o s p _ _ _ e. absurd (no-bit 256 (o * 32 + s) p e);
    shut = λ o s p _ _ _ e. absurd (no-bit 256 (o * 32 + s) p e);
    row = λ _. record { least = omega arith; most = omega (arith, tally-le (λ p. w.link 0 0 p) w.size) };
    column = λ _. record { least = omega arith; most = omega (arith, tally-le (λ o. bit (w.kind o) 0 && w.link 0 o 0) w.size) };
  }

  pub seeded-many : (k a b c : ℕ) → Satisfies (seeded k a b c) w → k ≤ w.size
  unfolding seeded
  seeded-many k a b c h = h.many

  pub seeded-typed : (k a b c : ℕ) → Satisfies (seeded k a b c) w → (o : ℕ) → o < k → bit (w.kind o) (get_or (masks_of a b c) o 0) ≡ true
  unfolding seeded
  seeded-typed k a b c h = h.typed

  module _ (k : ℕ) (q : Query) (s o p : ℕ) (f : Fit k q) (hs : s < 32) (ho : o < k) (hp : p < k) where
    pub asked-linked : Satisfies q w → w.link s o p ≡ true → Satisfies (linked q s o p) w
    unfolding linked
    asked-linked a e = record {
      many = a.many;
      typed = a.typed;
      avoids = a.avoids;
      must = with_each q.must s o p f.long hs (omega arith) (omega arith) (λ x y z. w.link y x z ≡ true) a.must e;
      shut = a.shut;
      row = a.row;
      column = a.column;
    }

    pub linked-link : Satisfies (linked q s o p) w → w.link s o p ≡ true
    unfolding linked
    linked-link a = a.must o s p (omega arith) hs (omega arith) (with-there q.must s o p f.long hs (omega arith) (omega arith))

    pub linked-asked : Satisfies (linked q s o p) w → Satisfies q w
    unfolding linked
    linked-asked a = record {
      many = a.many;
      typed = a.typed;
      avoids = a.avoids;
      must = λ x y z hx hy hz e. a.must x y z hx hy hz (with-kept q.must s o p f.long hs (omega arith) (omega arith) (x * 32 + y) z e);
      shut = a.shut;
      row = a.row;
      column = a.column;
    }

    pub asked-barred : Satisfies q w → w.link s o p ≡ false → Satisfies (barred q s o p) w
    unfolding barred
    asked-barred a e = record {
      many = a.many;
      typed = a.typed;
      avoids = a.avoids;
      must = a.must;
      shut = with_each q.shut s o p f.long_shut hs (omega arith) (omega arith) (λ x y z. w.link y x z ≡ false) a.shut e;
      row = a.row;
      column = a.column;
    }

    pub barred-link : Satisfies (barred q s o p) w → w.link s o p ≡ false
    unfolding barred
    barred-link a = a.shut o s p (omega arith) hs (omega arith) (with-there q.shut s o p f.long_shut hs (omega arith) (omega arith))

    pub barred-asked : Satisfies (barred q s o p) w → Satisfies q w
    unfolding barred
    barred-asked a = record {
      many = a.many;
      typed = a.typed;
      avoids = a.avoids;
      must = a.must;
      shut = λ x y z hx hy hz e. a.shut x y z hx hy hz (with-kept q.shut s o p f.long_shut hs (omega arith) (omega arith) (x * 32 + y) z e);
      row = a.row;
      column = a.column;
    }

-- ---- counts and types of all objects: the last step of a query with one seed, or none

module _ (w : World) (few : w.size ≤ 8) where
  pub asked-rowed : (a s low high : ℕ) → Satisfies (seeded 1 a 0 0) w → InLimits low high (tally (λ p. w.link s 0 p) w.size) → Satisfies (rowed (seeded 1 a 0 0) s low high) w
  unfolding rowed seeded
  asked-rowed a s low high h e = record {
    many = h.many;
    typed = h.typed;
    avoids = h.avoids;
    must = h.must;
    shut = h.shut;
    row = λ _. e;
    column = h.column;
  }

  pub rowed-within : (a s low high : ℕ) → Satisfies (rowed (seeded 1 a 0 0) s low high) w → InLimits low high (tally (λ p. w.link s 0 p) w.size)
  unfolding rowed seeded
  rowed-within a s low high h = h.row (omega arith)

  pub rowed-asked : (a s low high : ℕ) → Satisfies (rowed (seeded 1 a 0 0) s low high) w → Satisfies (seeded 1 a 0 0) w
  unfolding rowed seeded
  rowed-asked a s low high h = record {
    many = h.many;
    typed = h.typed;
    avoids = h.avoids;
    must = h.must;
    shut = h.shut;
    row = λ _. record { least = omega arith; most = omega (arith, tally-le (λ p. w.link 0 0 p) w.size) };
    column = h.column;
  }

  pub asked-columned : (a s from least most : ℕ) → Satisfies (seeded 1 a 0 0) w → InLimits least most (source_count w s from 0) → Satisfies (columned (seeded 1 a 0 0) s from least most) w
  unfolding columned seeded
  asked-columned a s from least most h e = record {
    many = h.many;
    typed = h.typed;
    avoids = h.avoids;
    must = h.must;
    shut = h.shut;
    row = h.row;
    column = λ _. e;
  }

  pub columned-within : (a s from least most : ℕ) → Satisfies (columned (seeded 1 a 0 0) s from least most) w → InLimits least most (source_count w s from 0)
  unfolding columned seeded
  columned-within a s from least most h = h.column (omega arith)

  pub columned-asked : (a s from least most : ℕ) → Satisfies (columned (seeded 1 a 0 0) s from least most) w → Satisfies (seeded 1 a 0 0) w
  unfolding columned seeded
  columned-asked a s from least most h = record {
    many = h.many;
    typed = h.typed;
    avoids = h.avoids;
    must = h.must;
    shut = h.shut;
    row = h.row;
    column = λ _. record { least = omega arith; most = omega (arith, tally-le (λ o. bit (w.kind o) 0 && w.link 0 o 0) w.size) };
  }

  pub asked-avoiding : (never : ℕ) → ((o : ℕ) → o < w.size → bit (w.kind o) never ≡ false) → Satisfies (avoiding (seeded 0 0 0 0) never) w
  unfolding avoiding seeded
  asked-avoiding never h =
      let a : Satisfies (seeded 0 0 0 0) w = asked-seeded w 0 0 0 0 few (omega arith) (λ o l. absurd (omega arith)) in
      record {
        many = a.many;
        typed = a.typed;
        avoids = λ o _ l. h o l;
        must = a.must;
        shut = a.shut;
        row = a.row;
        column = a.column;
      }

  pub avoiding-all : (never : ℕ) → Satisfies (avoiding (seeded 0 0 0 0) never) w → (o : ℕ) → o < w.size → bit (w.kind o) never ≡ false
  unfolding avoiding seeded
  avoiding-all never a o l = a.avoids o (omega arith) l
