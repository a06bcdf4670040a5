-- A loop of writers over the numbers below n, whose writer puts `piece k`, in a buffer with room for all pieces and 160 bytes more.
-- Assumes nothing.
use Prim.Native.Nat.{ℕ, ◌+◌, ◌-◌, ◌<◌, ◌^◌, ◌≤◌}
use native.Mathlib.Omega.{arith}
use mathlib.Core.List.{List, []}
use mathlib.Core.Path.{◌≡◌, ap}
use lib.ListN.{length, length-drop, take, drop}
use borrow.Rule.Slice.PartMut.{put_mid}
use Rattle.laws.specs.Lists.{joined}
use Rattle.laws.proofs.ListLaws.{from_is}
use Rattle.field_writers.specs.Put.{Put}
use Rattle.field_writers.proofs.PutLaws.{put_as, put-nothing}
use Rattle.text_fields.proofs.UptoLaws.{Upto, upto-begin, upto_done, upto-more, upto-room}

-- the rest that is lent, `&mut out[at..]`, has what is left
pub rest-room : (d : List ℕ) (at k : ℕ) → at + k ≤ length d → k ≤ length (take (length d - at) (drop at d))
rest-room d at k h = omega (arith, ap length (from_is d at), length-drop at d)

-- nothing is put
pub put-none : {xs : List ℕ} (d : List ℕ) → [] ≡ xs → Put xs d 0 d
put-none {xs} d e = put_as (put-nothing d) xs e

-- room for all pieces
abbrev pub Room : (ℕ → List ℕ) → ℕ → List ℕ → Type 0
Room piece n d = length (joined piece n) + 160 ≤ length d

-- the first k pieces are put
pub record Putting (piece : ℕ → List ℕ) (n : ℕ) (d d' : List ℕ) (at k : ℕ) : Type 0 where
  pub below : k ≤ n
  pub upto : Upto piece d d' at k

pub putting-begin : (piece : ℕ → List ℕ) (n : ℕ) (d : List ℕ) → Putting piece n d d 0 0
putting-begin piece n d = record { below = omega arith; upto = upto-begin piece d }

module _ {piece : ℕ → List ℕ} {n m at k : ℕ} {d d' : List ℕ} (p : Putting piece n d d' at k) (e : n ≡ m) where
  room : Room piece m d → k < n → at + length (piece k) + 160 ≤ length d'
  room r h = omega (arith, upto-room m 160 p.upto (omega arith) r, p.upto.long)

  pub putting-at : Room piece m d → k < n → at ≤ length d'
  putting-at r h = omega (arith, room r h)

  pub putting-rest : Room piece m d → k < n → length (piece k) + 160 ≤ length (take (length d' - at) (drop at d'))
  putting-rest r h = rest-room d' at (length (piece k) + 160) (omega (arith, room r h))

  pub putting-spare : Room piece m d → k < n → 160 ≤ length (take (length d' - at) (drop at d'))
  putting-spare r h = rest-room d' at 160 (omega (arith, room r h))

  pub putting-fits : {x y : List ℕ} {b : ℕ} → Room piece m d → k < n → Put (piece k) x b y → length d < 2 ^ 64 → at + b < 2 ^ 64
  putting-fits r h q t = omega (arith, room r h, q.length-is, p.upto.long)

  pub putting-next : {y : List ℕ} {b : ℕ} → Room piece m d → k < n → Put (piece k) (take (length d' - at) (drop at d')) b y
      → Putting piece n d (put_mid at (length d' - at) d' y) (at + b) (k + 1)
  putting-next r h q = record { below = omega arith; upto = upto-more m p.upto q (omega arith) (omega arith) }

  pub putting-done : n ≤ k → Put (joined piece m) d at d'
  putting-done h = upto_done m p.upto (omega (arith, p.below))

pub putting-long : {piece : ℕ → List ℕ} {n at k : ℕ} {d d' : List ℕ} → Putting piece n d d' at k → length d' ≡ length d
putting-long p = p.upto.long
