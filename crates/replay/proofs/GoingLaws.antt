-- The loop over the calls: what was written so far, and that with the replies to the calls that are left they are the replies to all.
-- Assumes nothing.
use Prim.Native.Nat.{ℕ, ◌+◌, ◌-◌, ◌≤◌}
use native.Mathlib.Omega.{arith}
use mathlib.Core.List.{List, [], ◌++◌, append_assoc, append-nil}
use mathlib.Core.Path.{◌≡◌, refl, sym, ap, ◌∙◌, subst}
use lib.ListN.{length, take, drop, length-append, length-drop}
use lib.Seq.{drop_at, drop-drop}
use borrow.Rule.Slice.PartMut.{put_mid}
use Rattle.laws.specs.Lists.{over}
use Rattle.laws.proofs.ListLaws.{from_is}
use Rattle.laws.proofs.OverLaws.{over-nil, put_on}
use Rattle.steps.specs.Bench as steps
use Rattle.bench.specs.View.{bench_of, fresh_in}
use Rattle.bench.specs.declared.parts.Bench.{Bench}
use Rattle.bench.proofs.RunLaws.{fresh-stands}
use Rattle.replay.specs.Replays.{Replayed, Replays}
use Rattle.replay.specs.Turned.{Went}
use Rattle.replay.specs.declared.Turn.{Turn}

-- what is lent is what was there
lent : (xs d d' : List ℕ) (a : ℕ) → length xs ≡ a → d' ≡ over xs d → take (length d' - a) (drop a d') ≡ drop a d
unfolding over
lent xs d d' a n p = from_is d' a ∙ (ap (drop a) p ∙ drop_at xs (drop (length xs) d) a n ∙ ap (λ (k : ℕ). drop k d) n)

-- the loop's state: out₀ is what `replies` held at first, out what it holds, `rest` the calls that are left
pub record Going (calls out₀ out : List ℕ) (b : Bench) (rest : List ℕ) (at : ℕ) : Type 0 where
  pub replies : List ℕ
  pub count : length replies ≡ at
  pub fits : at ≤ length out₀
  pub bytes : out ≡ over replies out₀
  pub size : length out ≡ length out₀
  pub goes : (more : List ℕ) → Replays (bench_of b) rest (drop at out₀) more → Replays steps.fresh calls out₀ (replies ++ more)

pub begins : (calls out : List ℕ) (b : Bench) → b ≡ fresh_in → Going calls out out b calls 0
begins calls out b e = record {
  replies = [];
  count = refl;
  fits = omega arith;
  bytes = sym (over-nil out);
  size = refl;
  goes = λ more r. subst (λ (x : steps.Bench). Replays x calls out more) (ap bench_of e ∙ fresh-stands) r;
}

module _ (calls out₀ out : List ℕ) (b : Bench) (rest : List ℕ) (at : ℕ) (g : Going calls out₀ out b rest at) (after : List ℕ) where
  abbrev room : List ℕ
  room = take (length out - at) (drop at out)

  abbrev whole : List ℕ
  whole = put_mid at (length out - at) out after

  room-is : room ≡ drop at out₀
  room-is = lent g.replies out₀ out at g.count g.bytes

  pub room_for : (t : Turn) (e : Bench) → Went b rest room t e after → at + t.wrote ≤ length out₀
  room_for t e w = omega (arith, w.fits, w.count, ap length room-is, length-drop at out₀, g.fits)

  pub goes_on : (t : Turn) (e : Bench) → Went b rest room t e after → length whole ≡ length out → (next : List ℕ) → next ≡ drop t.used rest
      → Going calls out₀ whole e next (at + t.wrote)
  goes_on t e w s next q =
      let small : at + length w.reply ≤ length out₀ = omega (arith, w.fits, ap length room-is, length-drop at out₀, g.fits) in
      record {
        replies = g.replies ++ w.reply;
        count = omega (arith, length-append g.replies w.reply, g.count, w.count);
        fits = omega (arith, small, w.count);
        bytes = put_on g.replies w.reply out₀ out after at g.count small g.bytes w.bytes;
        size = s ∙ g.size;
        goes = λ more r. subst (Replays steps.fresh calls out₀) (sym (append_assoc g.replies w.reply more))
            (g.goes (w.reply ++ more) (subst (λ (x : List ℕ). Replays (bench_of b) rest x (w.reply ++ more)) room-is
            (w.on more (rw (room-is, drop-drop t.wrote at out₀, ← q) r))));
      }

  pub ends : Replays (bench_of b) rest room [] × (after ≡ room) → Replayed calls out₀ at whole
  ends q = record {
    replies = g.replies ++ [];
    from-fresh = g.goes [] (subst (λ (x : List ℕ). Replays (bench_of b) rest x []) room-is q.0);
    count = sym g.count ∙ ap length (sym (append-nil g.replies));
    bytes = put_on g.replies [] out₀ out after at g.count (omega (arith, g.fits)) g.bytes (q.1 ∙ sym (over-nil room));
  }
