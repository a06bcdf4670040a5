-- The seeds of a solution alone, with the links between them, keep all that has no lower limit: they are a solution of what is left of
-- the tables and the query.
-- Assumes nothing.
use Prim.Native.Nat.{◌*◌, ◌+◌, ◌<◌, ◌≤◌, ℕ}
use mathlib.Core.Bool.{Bool, ◌&&◌, and-false, false, true}
use mathlib.Core.List.{List}
use mathlib.Core.Path.{◌∙◌, ◌≡◌, ap, ap₂, refl, subst, sym}
use native.Mathlib.Omega.{arith}
use lib.Dec.{ltb}
use lib.ListN.{get_or-map}
use borrow.Author.Tests.{lt-ltb, ltb-true}
use Rattle.laws.specs.Bits.{bit}
use Rattle.laws.specs.Bounded.{tally}
use Rattle.laws.proofs.BitLaws.{bit-zero}
use Rattle.laws.proofs.BoundedLaws.{any_at, any_of}
use Rattle.laws.proofs.ConnectiveLaws.{and_both, and_left, and_right, true-false}
use Rattle.laws.proofs.CountLaws.{tally-mono}
use Rattle.laws.proofs.ListLaws.{zeros}
use Rattle.growing.specs.World.{World}
use Rattle.growing.specs.Growth.{Ended, Nowhere}
use Rattle.growing.proofs.SplitLaws.{from-split}
use Rattle.worlds.specs.Asked.{Satisfies, Sane, Solution}
use Rattle.worlds.specs.Coherent.{Slotted}
use Rattle.worlds.specs.Kept.{Allowed, Sheet, whole_by, whole_of}
use Rattle.link_search.specs.Nets.{InLimits}
use Rattle.worlds.specs.declared.Column.{Column}
use Rattle.worlds.specs.declared.Lines.{Lines}
use Rattle.worlds.specs.declared.Query.{Query}
use Rattle.relaxing.specs.Relaxed.{cut, freed, relaxed, unforced, unforced_column}
use Rattle.worlds.specs.Lined.{column_at, mirror_at, whole_at, zero_column}

-- the columns without lower limits, one by one
unforced-at : (x : Lines) (j : ℕ) → column_at (unforced x) j ≡ unforced_column (column_at x j)
unforced-at x j = get_or-map unforced_column x.columns j zero_column

-- fewer of the first k than of all n
fewer : (p q : ℕ → Bool) (k n : ℕ) → k ≤ n → ((o : ℕ) → o < k → p o ≡ true → q o ≡ true) → tally p k ≤ tally q n
fewer p q k n l f = let a = tally-mono p q k f in let b = from-split q k n l in omega arith

module _ (x : Sheet) (q : Query) (n : ℕ) (sane : Sane q) (w : World) (s : Solution x q n w) where
  abbrev k : ℕ
  k = q.seeds

  abbrev v : World
  v = cut k w

  below : (o : ℕ) → o < k → o < w.size
  below o l = omega (arith, s.asked.many)

  -- ---- links

  link-is : (i o p : ℕ) → o < k → p < k → v.link i o p ≡ w.link i o p
  link-is i o p a b = ap₂ (λ (c d : Bool). c && (d && w.link i o p)) (lt-ltb o k a) (lt-ltb p k b)

  link-of : (i o p : ℕ) → v.link i o p ≡ true → (o < k) × (p < k) × (w.link i o p ≡ true)
  link-of i o p e =
      let r = and_right (ltb o k) (ltb p k && w.link i o p) e in
      (ltb-true o k (and_left (ltb o k) (ltb p k && w.link i o p) e), ltb-true p k (and_left (ltb p k) (w.link i o p) r), and_right (ltb p k) (w.link i o p) r)

  counted : (m i p : ℕ) → tally (λ o. bit (v.kind o) m && v.link i o p) k ≤ tally (λ o. bit (w.kind o) m && w.link i o p) w.size
  counted m i p = fewer (λ o. bit (v.kind o) m && v.link i o p) (λ o. bit (w.kind o) m && w.link i o p) k w.size s.asked.many
      (λ o _ e. and_both (bit (w.kind o) m) (w.link i o p) (and_left (bit (w.kind o) m) (v.link i o p) e) (link-of i o p (and_right (bit (w.kind o) m) (v.link i o p) e)).2)

  row-counted : (i o : ℕ) → tally (λ p. v.link i o p) k ≤ tally (λ p. w.link i o p) w.size
  row-counted i o = fewer (λ p. v.link i o p) (λ p. w.link i o p) k w.size s.asked.many (λ p _ e. (link-of i o p e).2)

  whole-counted : (p : ℕ) → tally (whole_of (relaxed x).lines v p) k ≤ tally (whole_of x.lines w p) w.size
  unfolding whole_of
  whole-counted p = fewer (whole_of (relaxed x).lines v p) (whole_of x.lines w p) k w.size s.asked.many each
    where
      each : (o : ℕ) → o < k → whole_of (relaxed x).lines v p o ≡ true → whole_of x.lines w p o ≡ true
      each o _ e =
          let f = any_at (whole_by (relaxed x).lines v p o) 16 e in
          let j = f.0 in
          let a = bit (w.kind o) (whole_at x.lines j).from in
          let b = bit (w.kind p) (whole_at x.lines j).to in
          let i = (whole_at x.lines j).slot in
          let r = and_right a (b && v.link i o p) f.2 in
          any_of (whole_by x.lines w p o) 16 j f.1
          (and_both a (b && w.link i o p) (and_left a (b && v.link i o p) f.2) (and_both b (w.link i o p) (and_left b (v.link i o p) r) (link-of i o p (and_right b (v.link i o p) r)).2))

  -- ---- what is kept

  cut-allowed : Allowed (relaxed x) v
  cut-allowed = record {
    few = sane.few;
    past = λ i o p l. ap (λ (b : Bool). ltb o k && (ltb p k && b)) (s.allowed.past i o p l) ∙ ap (λ (b : Bool). ltb o k && b) (and-false (ltb p k)) ∙ and-false (ltb o k);
    inside = λ i o p e. let f = link-of i o p e in (f.0, f.1);
    known = λ o l. s.allowed.known o (below o l);
    usable = λ o l. s.allowed.usable o (below o l);
    singles = record { at = λ t _ e. absurd (true-false e (bit-zero t)) };
    rows = record {
      allowed = λ i o p l a b e. s.allowed.rows.allowed i o p l (below o a) (below p b) (link-of i o p e).2;
      limited = λ i o l a. record {
        least = let t = s.allowed.known o (below o a) in omega (arith, zeros 768 (w.kind o * 32 + i));
        most = omega (arith, row-counted i o, (s.allowed.rows.limited i o l (below o a)).most);
      };
    };
    columns = record {
      at = λ j p l a.
          subst (λ (c : Column). bit (v.kind p) c.to ≡ true → InLimits c.low c.high (tally (λ o. bit (v.kind o) c.from && v.link c.slot o p) k)) (sym (unforced-at x.lines j)) (λ e. record {
            least = omega arith;
            most = omega (arith, counted (column_at x.lines j).from (column_at x.lines j).slot p, (s.allowed.columns.at j p l (below p a) e).most);
          });
    };
    mirrors = record {
      at = λ j o p l a b e f. link-is (mirror_at x.lines j).right o p a b ∙ s.allowed.mirrors.at j o p l (below o a) (below p b) e f
          ∙ sym (link-is (mirror_at x.lines j).left p o b a);
    };
    wholes = record { at = λ p a. omega (arith, whole-counted p, s.allowed.wholes.at p (below p a)) };
  }

  cut-asked : Satisfies (freed q) v
  cut-asked = record {
    many = omega arith;
    typed = s.asked.typed;
    avoids = λ o l m. absurd (omega arith);
    must = λ o i p a b c e. let f = sane.must o i p a b c e in link-is i o p f.0 f.1 ∙ s.asked.must o i p a b c e;
    shut = λ o i p a b c e. let f = sane.shut o i p a b c e in link-is i o p f.0 f.1 ∙ s.asked.shut o i p a b c e;
    row = λ h. record { least = omega arith; most = omega (arith, row-counted q.row.slot 0, (s.asked.row h).most) };
    column = λ h. record { least = omega arith; most = omega (arith, counted q.column.from q.column.slot 0, (s.asked.column h).most) };
  }

  pub cut-solution : Solution (relaxed x) (freed q) k v
  cut-solution = record { allowed = cut-allowed; asked = cut-asked; size = refl }

-- ---- the search among the seeds

pub slotted-unforced : (x : Lines) → Slotted x → Slotted (unforced x)
slotted-unforced x h = record { column = λ j l. subst (λ (c : Column). c.slot < 32) (sym (unforced-at x j)) (h.column j l); right = h.right; left = h.left; whole = h.whole }

pub sane-freed : (q : Query) → Sane q → Sane (freed q)
sane-freed q h = record { few = h.few; row = h.row; column = h.column; must = h.must; shut = h.shut }

-- nothing found among the seeds
pub stuck : (x : Sheet) (q : Query) (types : List ℕ) (m : World) {ok : Bool} → Sane q → Ended (Solution (relaxed x) (freed q) q.seeds) types q.seeds false ok m
    → ok ≡ false → (n : ℕ) → Nowhere (Solution x q n) types q.seeds q.never n
stuck x q types m sane ended e n w f s = ended.complete e refl (cut q.seeds w) refl f.kept (cut-solution x q n sane w s)
