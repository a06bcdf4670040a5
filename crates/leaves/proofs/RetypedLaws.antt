-- A wanted world whose types are given is a wanted world with the types as they are given: what stands past its objects does not count.
-- Assumes nothing.
use Prim.Native.Nat.{◌*◌, ◌+◌, ◌<◌, ◌≤◌, ℕ}
use native.Mathlib.Omega.{arith}
use mathlib.Core.Bool.{Bool, ◌&&◌}
use mathlib.Core.List.{List}
use mathlib.Core.Path.{◌≡◌, ◌∙◌, ap, ap₂, refl, subst, sym}
use lib.Dec.{eqb}
use lib.ListN.{get_or}
use Rattle.laws.specs.Bits.{bit}
use Rattle.laws.specs.Bounded.{tally}
use Rattle.laws.proofs.BoundedLaws.{any-ext}
use Rattle.laws.proofs.CountLaws.{tally-ext}
use Rattle.growing.specs.World.{World}
use Rattle.worlds.specs.declared.Query.{Query}
use Rattle.worlds.specs.Kept.{Allowed, Sheet, source_by, whole_by, whole_of}
use Rattle.worlds.specs.Asked.{Satisfies, Solution, source_asked}
use Rattle.leaves.proofs.WithinLaws.{within_same}
use Rattle.worlds.specs.Lined.{column_at, mirror_at, whole_at}

-- the world of n objects with types in an array
abbrev pub made : ℕ → List ℕ → (ℕ → ℕ → ℕ → Bool) → World
made n types link = record { size = n; kind = λ o. get_or types o 0; link = link }

module _ (x : Sheet) (q : Query) (n : ℕ) (types : List ℕ) (w : World) (size : w.size ≡ n) (kept : (o : ℕ) → o < n → w.kind o ≡ get_or types o 0) where
  abbrev v : World
  v = made n types w.link

  -- a type in a set
  in-set : (o set : ℕ) → o < n → bit (w.kind o) set ≡ bit (get_or types o 0) set
  in-set o set h = ap (λ (k : ℕ). bit k set) (kept o h)

  count : (f g : ℕ → Bool) → ((o : ℕ) → o < n → f o ≡ g o) → tally f w.size ≡ tally g n
  count f g h = ap (tally f) size ∙ tally-ext f g n h

  up : (o : ℕ) → o < n → o < w.size
  up o h = omega arith

  whole_same : (p o : ℕ) → p < n → o < n → whole_of x.lines w p o ≡ whole_of x.lines v p o
  unfolding whole_of
  whole_same p o hp ho = any-ext (whole_by x.lines w p o) (whole_by x.lines v p o) 16 (λ j h.
      ap₂ (λ (a b : Bool). a && (b && w.link (whole_at x.lines j).slot o p)) (in-set o (whole_at x.lines j).from ho) (in-set p (whole_at x.lines j).to hp))

  allowed-typed : Allowed x w → Allowed x v
  allowed-typed a = record {
    few = omega (arith, a.few);
    past = a.past;
    inside = λ s o p e. let r = a.inside s o p e in (omega (arith, r.0), omega (arith, r.1));
    known = λ o h. subst (λ (k : ℕ). k < 24) (kept o h) (a.known o (up o h));
    usable = λ o h. sym (in-set o x.usable h) ∙ a.usable o (up o h);
    singles = record { at = λ t h e. sym (count (λ o. eqb (w.kind o) t) (λ o. eqb (get_or types o 0) t) (λ o l. ap (λ (k : ℕ). eqb k t) (kept o l))) ∙ a.singles.at t h e };
    rows = record {
      allowed = λ s o p hs ho hp e.
          ap₂ (λ (k l : ℕ). bit k (get_or x.targets (l * 32 + s) 0)) (sym (kept p hp)) (sym (kept o ho)) ∙ a.rows.allowed s o p hs (up o ho) (up p hp) e;
      limited = λ s o hs ho.
          within_same (ap (λ (k : ℕ). get_or x.lows (k * 32 + s) 0) (kept o ho)) (ap (λ (k : ℕ). get_or x.highs (k * 32 + s) 0) (kept o ho)) (ap (tally (λ p. w.link s o p)) size)
          (a.rows.limited s o hs (up o ho));
    };
    columns = record {
      at = λ j p hj hp e.
          within_same refl refl (count (source_by x.lines w j p) (source_by x.lines v j p) (λ o h.
          ap (λ (b : Bool). b && w.link (column_at x.lines j).slot o p) (in-set o (column_at x.lines j).from h)))
          (a.columns.at j p hj (up p hp) (in-set p (column_at x.lines j).to hp ∙ e));
    };
    mirrors = record {
      at = λ j o p hj ho hp e f. a.mirrors.at j o p hj (up o ho) (up p hp) (in-set o (mirror_at x.lines j).from ho ∙ e) (in-set p (mirror_at x.lines j).to hp ∙ f);
    };
    wholes = record {
      at = λ p hp. subst (λ (m : ℕ). m ≤ 1) (count (whole_of x.lines w p) (whole_of x.lines v p) (λ o h. whole_same p o hp h)) (a.wholes.at p (up p hp));
    };
  }

  asked-typed : Satisfies q w → Satisfies q v
  asked-typed a = record {
    many = omega (arith, a.many);
    typed = λ o h. sym (in-set o (get_or q.types o 0) (omega (arith, a.many))) ∙ a.typed o h;
    avoids = λ o h l. sym (in-set o q.never l) ∙ a.avoids o h (up o l);
    must = a.must;
    shut = a.shut;
    row = λ h. within_same refl refl (ap (tally (λ p. w.link q.row.slot 0 p)) size) (a.row h);
    column = λ h. within_same refl refl (count (source_asked q w) (source_asked q v) (λ o l. ap (λ (b : Bool). b && w.link q.column.slot o 0) (in-set o q.column.from l))) (a.column h);
  }

  pub retyped : Solution x q n w → Solution x q n v
  retyped s = record { allowed = allowed-typed s.allowed; asked = asked-typed s.asked; size = refl }
