-- The answer of the search for links is the answer of the search for a world.
-- Assumes nothing.
use Prim.Native.Nat.{◌≤◌, ℕ}
use mathlib.Core.Bool.{Bool, false, false≢true, true}
use mathlib.Core.List.{List}
use mathlib.Core.Path.{◌≡◌, refl}
use Rattle.laws.proofs.ConnectiveLaws.{true-false}
use Rattle.growing.specs.World.{World}
use Rattle.growing.specs.Growth.{Ended}
use Rattle.link_search.specs.Families.{Fits}
use Rattle.link_search.specs.Answers.{NetAnswer}
use Rattle.worlds.specs.declared.Lines.{Lines}
use Rattle.worlds.specs.declared.Query.{Query}
use Rattle.worlds.specs.Coherent.{SmallTypes}
use Rattle.worlds.specs.Kept.{sheet, world_in}
use Rattle.std.specs.Bool.{then_some}
use Rattle.std.specs.Prelude.{is_some}
use Rattle.worlds.specs.declared.Site.{Site}
use Rattle.worlds.specs.Asked.{Sane, Solution, world_built}
use Rattle.link_search.specs.declared.asked.NetConstraints.{NetConstraints}
use Rattle.leaves.specs.Fitting.{types_fit}
use Rattle.leaves.specs.Arrays.{Mays, Prepared, all_covered}
use Rattle.leaves.proofs.FittingLaws.{fit_at}
use Rattle.leaves.proofs.RetypedLaws.{made, retyped}
use Rattle.leaves.proofs.ToNetLaws.{net_in, net-fits, world-between, world-covered, world-fits}
use Rattle.leaves.proofs.ToWorldLaws.{found-wanted}

module _ (usable singles : ℕ) (targets lows highs : List ℕ) (x : Lines) (q : Query) (types : List ℕ) (n : ℕ) where
  abbrev Wanted : World → Type 0
  Wanted = Solution (sheet usable singles targets lows highs x) q n

  none-ended : (m : World) → ((link : ℕ → ℕ → ℕ → Bool) → Wanted (made n types link) → ⊥) → Ended Wanted types n false false m
  none-ended m never = record {
    size = λ e. absurd (false≢true e);
    kept = λ e. absurd (false≢true e);
    sound = λ e. absurd (false≢true e);
    complete = λ _ _ w size kept s. never w.link (retyped (sheet usable singles targets lows highs x) q n types w size kept s);
  }

  pub ended-types : (m : World) → types_fit usable singles q types n ≡ false → Ended Wanted types n false false m
  ended-types m e = none-ended m (λ link s. true-false (world-fits usable singles targets lows highs x q types n link s) e)

  pub ended-must : (m : World) (may : List ℕ) → Mays targets types n q.shut may → all_covered q.must may ≡ false → Ended Wanted types n false false m
  ended-must m may a e = none-ended m (λ link s. true-false (world-covered usable singles targets lows highs x q types n link s may a) e)

  pub ended-links : (may : List ℕ) (net : NetConstraints) → Prepared targets lows highs x q types n may net
      → Sane q → n ≤ 8 → SmallTypes types → types_fit usable singles q types n ≡ true
      → all_covered q.must may ≡ true → (rows may' : List ℕ) (ok : Bool)
      → NetAnswer (Fits net) q.must may rows may' ok
      → Ended Wanted types n false ok (world_in n types rows)
  unfolding world_in
  ended-links may net a sane few small fit all-may rows may' ok z = record {
    size = λ _. refl;
    kept = λ _ o h. refl;
    sound = λ e. found-wanted usable singles targets lows highs x q types n sane few small (fit_at usable singles q types n fit) may net a all-may rows (z.between e) (z.sound e);
    complete = λ e _ w size kept s.
        let t = retyped (sheet usable singles targets lows highs x) q n types w size kept s in
        z.complete e (net_in w.link) (world-between usable singles targets lows highs x q types n w.link t may a.mays) (net-fits usable singles targets lows highs x q types n w.link t sane may net a);
  }

  -- a world is given where the links were found
  pub ended-given : (ok : Bool) (s : Site) → Ended Wanted types n false ok (world_in n s.types s.links)
      → Ended Wanted types n false (is_some (then_some ok s)) (world_built n (then_some ok s))
  ended-given true s a = a
  ended-given false s a = record {
    size = λ e. absurd (false≢true e);
    kept = λ e. absurd (false≢true e);
    sound = λ e. absurd (false≢true e);
    complete = a.complete;
  }
