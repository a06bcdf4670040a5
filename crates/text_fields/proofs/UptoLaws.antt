-- A loop of writers over the numbers below n, whose writer puts `piece i`, in a buffer that holds all of the rows.
-- Assumes nothing.
use Prim.Native.Nat.{ℕ, ◌+◌, ◌-◌, ◌<◌, ◌≤◌}
use native.Mathlib.Omega.{arith}
use mathlib.Core.List.{List}
use mathlib.Core.Path.{◌≡◌, refl, sym, subst}
use lib.ListN.{length, take, drop}
use borrow.Rule.Slice.PartMut.{put_mid}
use Rattle.laws.specs.Lists.{joined}
use Rattle.laws.proofs.JoinedLaws.{joined-more}
use Rattle.field_writers.specs.Put.{Put}
use Rattle.field_writers.proofs.PutLaws.{put_as, put-long, put_next, put-nothing}
use Rattle.text_fields.proofs.RoomLaws.{joined-room}

-- the first i rows are put, and they end at `at`
pub record Upto (piece : ℕ → List ℕ) (d d' : List ℕ) (at i : ℕ) : Type 0 where
  pub put : Put (joined piece i) d at d'
  pub long : length d' ≡ length d

pub upto-begin : (piece : ℕ → List ℕ) (d : List ℕ) → Upto piece d d 0 0
unfolding joined
upto-begin piece d = record { put = put-nothing d; long = refl }

-- where all n rows and `spare` bytes more are within the buffer, so are the first i, and the next one
pub upto-room : {piece : ℕ → List ℕ} {d d' : List ℕ} {at i : ℕ} (n spare : ℕ) → Upto piece d d' at i → i < n → length (joined piece n) + spare ≤ length d
    → at + length (piece i) + spare ≤ length d
upto-room {piece} {d} {d'} {at} {i} n spare u l h = omega (arith, u.put.length-is, joined-room piece n i l)

pub upto-more : {piece : ℕ → List ℕ} {d d' e : List ℕ} {at i b : ℕ} (n : ℕ) → Upto piece d d' at i → Put (piece i) (take (length d' - at) (drop at d')) b e
    → i < n → length (joined piece n) ≤ length d → Upto piece d (put_mid at (length d' - at) d' e) (at + b) (i + 1)
upto-more {piece} {d} {d'} {e} {at} {i} {b} n u q l h =
    let fits : at + b ≤ length d = omega (arith, u.put.length-is, q.length-is, joined-room piece n i l) in
    let p = put_as (put_next u.put q fits) (joined piece (i + 1)) (sym (joined-more piece i)) in
    record { put = p; long = put-long p fits }

pub upto_done : {piece : ℕ → List ℕ} {d d' : List ℕ} {at i : ℕ} (n : ℕ) → Upto piece d d' at i → i ≡ n → Put (joined piece n) d at d'
upto_done {piece} {d} {d'} {at} {i} n u e = subst (λ (j : ℕ). Put (joined piece j) d at d') e u.put
