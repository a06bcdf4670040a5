-- Which bytes a reply is, as the code puts them.
-- Assumes nothing.
use Prim.Native.Nat.{ℕ, ◌%◌, ◌/◌, ◌<◌}
use native.Mathlib.Omega.{arith}
use mathlib.Core.List.{List, [], ◌∷◌}
use mathlib.Core.Path.{◌≡◌, refl}
use lib.ListN.{length}
use Rattle.std.specs.Prelude.{Option}
use Rattle.steps.specs.Bench as steps
use Rattle.coding.specs.Puts.{Puts}
use Rattle.coding.specs.ReplyBytes.{four, head_bytes, parts_of, reply_bytes}

-- ---- what is put

pub says-head : {out after bytes : List ℕ} {m : Option ℕ} (r : steps.Reply) {st n : ℕ} → st ≡ (parts_of r).status → n ≡ (parts_of r).length
    → bytes ≡ n / 16777216 % 256 ∷ n / 65536 % 256 ∷ n / 256 % 256 ∷ n % 256 ∷ [] → Puts (st ∷ bytes) out m after → Puts (head_bytes r) out m after
unfolding head_bytes four
says-head r es en e p = rw (← es, ← en, ← e) p

-- ---- lengths

pub some_bytes : (r : steps.Reply) → 0 < length (reply_bytes r)
unfolding reply_bytes
some_bytes r = omega arith

pub five-bytes : (r : steps.Reply) → length (head_bytes r) ≡ 5
unfolding head_bytes four
five-bytes r = refl
