-- What the code has read makes the call that stands there, or none.
-- Assumes nothing.
use Prim.Native.Nat.{ℕ, ◌*◌, ◌+◌}
use mathlib.Core.Bool.{Bool, ◌&&◌, false, true}
use lib.Dec.{leb, ltb}
use mathlib.Core.List.{List}
use mathlib.Core.Path.{◌∙◌, ◌≡◌, sym}
use lib.ListN.{get_or, length}
use Rattle.coding.specs.CallBytes.{code_byte, codes, length_at, next_by, next_of, no_call, row_at}
use Rattle.coding.specs.Operands.{IsRow}
use Rattle.std.specs.Prelude.{Option, Some}
use Rattle.coding.specs.declared.Next.{Next}
use Rattle.coding.specs.declared.Row.{Row}

module _ (s : List ℕ) (room : ℕ) {code len lend : ℕ} {r : Row} (is : code ≡ code_byte s) (row : IsRow (row_at code) r)
    (len_is : len ≡ length_at s r.files (1 + r.bytes)) (lend-is : lend ≡ length_at s r.buffers (1 + r.bytes + r.files * 4 + len)) where
  by_row : next_of s room ≡ next_by s room r.bytes r.files r.buffers
  unfolding next_of
  by_row = rw (← is, row.bytes, row.files, row.buffers)

  abbrev used : ℕ
  used = 1 + r.bytes + r.files * 4 + len + r.buffers * 4

  abbrev test : Bool
  test = leb 1 code && ltb code (length codes) && leb used (length s) && leb (r.buffers * 5 + lend) room

  pub next-call : {byte : ℕ} → byte ≡ get_or s 1 0 → test ≡ true
      → ◌≡◌ {A = Option Next} (Some (record { code = code; byte = byte; from = 1 + r.bytes + r.files * 4; len = len; lend = lend; used = used })) (next_of s room)
  unfolding next_by
  next-call e t = sym (by_row ∙ rw (← is, ← len_is, ← lend-is, ← e, t))

  pub next-none : test ≡ false → no_call ≡ next_of s room
  unfolding next_by
  next-none t = sym (by_row ∙ rw (← is, ← len_is, ← lend-is, t))
