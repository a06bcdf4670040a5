-- How a list of calls stands in bytes. A call is a code byte and its operands, in this order: a byte, a file (or a text) behind its
-- length, the length of a buffer to lend. A length is four bytes, high byte first.
--   1 load       place, length, file
--   2 clear      place
--   3 judge      place, length, file
--   4 compile    place
--   5 evaluate   place, length, file
--   6 compare    bound
--   7 hand out   length of the buffer to lend
--   8 load text  place, length, text
--   9 convert    length, file, length of the buffer to lend
-- Assumes nothing.
use Rattle.std.specs.Prelude.{ℕ, ◌+◌, ◌*◌, ◌&&◌, cond, List, [], ◌∷◌, eqb, leb, ltb, drop, get_or, length, take, Option, None, Some}
use Rattle.steps.specs.Bench.{Call, Clear, Compare, Compile, Convert, Evaluate, HandOut, Judge, Load, LoadText}
use Rattle.coding.specs.declared.Next.{Next}

pub record Operands : Type 0 where
  pub byte : ℕ
  pub file : List ℕ
  pub buffer : List ℕ

-- which operands a call has, 1 for each and 0 for none, and the call that they make
pub record Shape : Type 0 where
  pub bytes : ℕ
  pub files : ℕ
  pub buffers : ℕ
  pub call : Operands → Call

-- by code; no call has the code 0
abbrev pub codes : List Shape
codes =
    record { bytes = 0; files = 0; buffers = 0; call = λ x. Clear 0 } ∷
    record { bytes = 1; files = 1; buffers = 0; call = λ x. Load x.byte x.file } ∷
    record { bytes = 1; files = 0; buffers = 0; call = λ x. Clear x.byte } ∷
    record { bytes = 1; files = 1; buffers = 0; call = λ x. Judge x.byte x.file } ∷
    record { bytes = 1; files = 0; buffers = 0; call = λ x. Compile x.byte } ∷
    record { bytes = 1; files = 1; buffers = 0; call = λ x. Evaluate x.byte x.file } ∷
    record { bytes = 1; files = 0; buffers = 0; call = λ x. Compare x.byte } ∷
    record { bytes = 0; files = 0; buffers = 1; call = λ x. HandOut x.buffer } ∷
    record { bytes = 1; files = 1; buffers = 0; call = λ x. LoadText x.byte x.file } ∷
    record { bytes = 0; files = 1; buffers = 1; call = λ x. Convert x.file x.buffer } ∷ []

abbrev pub row_at : ℕ → Shape
row_at code = get_or codes code (record { bytes = 0; files = 0; buffers = 0; call = λ x. Clear 0 })

-- ---- operands

-- a length from byte i on
unfoldable pub long_at : List ℕ → ℕ → ℕ
long_at s i = ((get_or s i 0 * 256 + get_or s (i + 1) 0) * 256 + get_or s (i + 2) 0) * 256 + get_or s (i + 3) 0

-- the length at byte i, or 0 where the call has no such operand
unfoldable pub length_at : List ℕ → ℕ → ℕ → ℕ
length_at s many i = cond (eqb many 0) 0 (long_at s i)

-- ---- the call at the front of a list of calls

abbrev pub code_byte : List ℕ → ℕ
code_byte s = get_or s 0 0

-- no call: it is cut off or unknown, or has no room for its reply
abbrev pub no_call : Option Next
no_call = None

-- a call with these operands: its code is one of the table, they end before s does, and a buffer to lend has room behind the reply's
-- first five bytes
unfoldable pub next_by : List ℕ → ℕ → ℕ → ℕ → ℕ → Option Next
next_by s room bytes files buffers =
    let from = 1 + bytes + files * 4 in
    let len = length_at s files (1 + bytes) in
    let lend = length_at s buffers (from + len) in
    let used = from + len + buffers * 4 in
    cond (leb 1 (code_byte s) && ltb (code_byte s) (length codes) && leb used (length s) && leb (buffers * 5 + lend) room)
    (Some (record { code = code_byte s; byte = get_or s 1 0; from = from; len = len; lend = lend; used = used }))
    no_call

-- what stands at the front of s, where there are `room` bytes for replies
unfoldable pub next_of : List ℕ → ℕ → Option Next
next_of s room = let x = row_at (code_byte s) in next_by s room x.bytes x.files x.buffers

-- a call and what follows it, or a halt
pub data Read : Type 0 where
  halt : Read
  call : Call → List ℕ → Read

-- the buffer that is lent is the room behind the reply's first five bytes
abbrev pub operands_of : List ℕ → List ℕ → Next → Operands
operands_of s room n = record { byte = n.byte; file = take n.len (drop n.from s); buffer = take n.lend (drop 5 room) }

unfoldable pub call_of : ℕ → Operands → Call
call_of code x = (row_at code).call x

abbrev pub read_by : List ℕ → List ℕ → Option Next → Read
read_by s room (Some n) = call (call_of n.code (operands_of s room n)) (drop n.used s)
read_by s room None = halt

-- the call at the front of s, whose reply goes to the front of room
unfoldable pub read_call : List ℕ → List ℕ → Read
read_call s room = read_by s room (next_of s (length room))
