-- `query_column` meets its contract: it asks of the first object alone, where there is a seed.
-- Assumes nothing.
use Prim.Native.Nat.{ℕ}
use mathlib.Core.Bool.{Bool, true, false, cond, ◌&&◌}
use mathlib.Core.Path.{◌≡◌, ◌∙◌, ap}
use lib.Dec.{eqb}
use mir.Val.{bool_byte}
use Rattle.laws.specs.Bits.{bit}
use Rattle.laws.proofs.BitLaws.{first_bit}
use Rattle.leaves.proofs.objects.Objects.query_column.Goals as goal

byte_bit : (b : Bool) (p : ℕ) → bit p (bool_byte b) ≡ b && eqb p 0
byte_bit true p = first_bit true p
byte_bit false p = first_bit false p

pub returns : goal.returns
returns c =
    let e = c.column.ensures in
    let l = c.args.self.now.q.now.column in
    record {
      slot-is = e.slot-is;
      from-are = e.from-are;
      low = λ p h. e.low p h ∙ ap (λ (b : Bool). cond b l.least 0) (ap (bit p) c.from.ensures ∙ byte_bit _ p);
      high = λ p h. e.high p h ∙ ap (λ (b : Bool). cond b l.most 8) (ap (bit p) c.from.ensures ∙ byte_bit _ p);
    }
