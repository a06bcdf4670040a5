-- Two writers, one behind the other, in a buffer with room for what both put and 160 bytes more.
-- Assumes nothing.
use Prim.Native.Nat.{ℕ, ◌+◌, ◌-◌, ◌<◌, ◌^◌, ◌≤◌}
use native.Mathlib.Omega.{arith}
use mathlib.Core.List.{List, ◌++◌}
use mathlib.Core.Path.{◌∙◌, ◌≡◌, ap, sym}
use lib.ListN.{drop, length, length-append, take}
use borrow.Rule.Slice.PartMut.{put_mid}
use Rattle.field_writers.specs.Put.{Put}
use Rattle.field_writers.proofs.PutLaws.{put_as, put-long, put_next}
use Rattle.text_writing.proofs.PuttingLaws.{rest-room}

-- zs is xs and, behind it, ys
pub record Parts (xs ys zs : List ℕ) : Type 0 where
  pub whole : xs ++ ys ≡ zs

module _ {xs ys zs : List ℕ} (w : Parts xs ys zs) where
  sizes : length xs + length ys ≡ length zs
  sizes = sym (length-append xs ys) ∙ ap length w.whole

  pub first-room : {room : ℕ} → length zs + 160 ≤ room → length xs + 160 ≤ room
  first-room r = omega (arith, sizes)

  module _ {d d' : List ℕ} {a : ℕ} (p : Put xs d a d') (r : length zs + 160 ≤ length d) where
    long : length d' ≡ length d
    long = put-long p (omega (arith, sizes, p.length-is))

    pub second_at : a ≤ length d'
    second_at = omega (arith, sizes, p.length-is, long)

    pub second-room : length ys + 160 ≤ length (take (length d' - a) (drop a d'))
    second-room = rest-room d' a (length ys + 160) (omega (arith, sizes, p.length-is, long))

    module _ {y : List ℕ} {b : ℕ} (q : Put ys (take (length d' - a) (drop a d')) b y) where
      within : a + b ≤ length d
      within = omega (arith, sizes, p.length-is, q.length-is)

      pub both-fit : length d < 2 ^ 64 → a + b < 2 ^ 64
      both-fit t = omega (arith, within)

      pub both-put : Put zs d (a + b) (put_mid a (length d' - a) d' y)
      both-put = put_as (put_next p q within) zs w.whole

      pub both_long : length (put_mid a (length d' - a) d' y) ≡ length d
      both_long = put-long both-put within
