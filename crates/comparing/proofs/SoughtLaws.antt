-- One number of objects after the other: where no record of n objects is found either, all have more, and the first that is found
-- has fewest.
-- Assumes nothing.
use Prim.Native.Nat.{◌+◌, ◌<◌, ◌≤◌, suc, ℕ}
use native.Mathlib.Decide.{dec_lt}
use native.Mathlib.Omega.{arith}
use Rattle.std.specs.Prelude.{None, Some}
use mathlib.Core.Path.{subst, sym}
use Rattle.files.specs.Diagram.{Diagram}
use Rattle.files.specs.Record.{Record, object_count}
use Rattle.files.specs.WellFormedRecord.{WfRecord}
use Rattle.records.specs.declared.MemoryRecord.{MemoryRecord}
use Rattle.rules.specs.Judge.{Illegal, Legal}
use Rattle.searching.specs.Answer.{Level}
use Rattle.comparing.specs.Sought.{NoneBelow, Sought}

pub none_first : {old new : Diagram} → NoneBelow old new 0
none_first = record { at_least = λ r w l i. omega arith }

module _ {old new : Diagram} {n : ℕ} (none : NoneBelow old new n) where
  pub none-next : Level old new n None → NoneBelow old new (n + 1)
  none-next level = record { at_least = λ r w l i. go r w l i (dec_lt n (object_count r)) }
    where
      go : (r : Record) → WfRecord r → Legal old r → Illegal new r → Dec (n < object_count r) → n + 1 ≤ object_count r
      go r w l i (yes h) = omega arith
      go r w l i (no h) = let k = none.at_least r w l i in absurd (level.complete r w (omega arith) l i)

  pub sought : {m : MemoryRecord} (most : ℕ) → n ≤ most → Level old new n (Some m) → Sought old new most (Some m)
  sought most b level = record {
    bounded = let c = level.count in omega arith;
    sound = level.sound;
    least = subst (NoneBelow old new) (sym level.count) none;
    complete = tt;
  }

  pub none_found : (most : ℕ) → suc most ≤ n → Sought old new most None
  none_found most h = record { bounded = tt; sound = tt; least = tt; complete = record { at_least = λ r w l i. let k = none.at_least r w l i in omega arith } }
