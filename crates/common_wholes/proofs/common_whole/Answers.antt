-- `common_whole` meets its contract: one composition after the other.
-- Assumes nothing.
use mathlib.Core.Path.{ap, subst, sym, ◌∙◌}
use Prim.Native.Nat.{ℕ}
use lib.Bits.{bit_and}
use lib.ListN.{get_or}
use Rattle.std.specs.Prelude.{Option, Some, IfSome}
use Rattle.common_wholes.specs.Common.{Common}
use Rattle.common_wholes.proofs.WholeLaws.{common-more}
use Rattle.common_wholes.proofs.common_whole.Goals as goal
use Rattle.common_wholes.proofs.common_whole.Goals.{then-is_giving, else-is_giving}
use Rattle.worlds.specs.Lined.{column_at}

pub loop-j-preserved : goal.loop-j-preserved
loop-j-preserved c =
    let a = c.args in
    let m = (column_at a.lines.now c.loop-j.j).from in elim c.if-is_giving.branch [
      | then-is_giving w ↦ subst (λ (k : Option ℕ). IfSome k (Common a.lines.now a.t)) (sym (w.known-is ∙ ap (λ (x : ℕ). Some (bit_and x m)) w.unwrap_or.ensures))
          (common-more a.lines.now a.t m c.loop-j.known c.loop-j.invariant (c.is_giving.ensures w.if-is_giving.true))
      | else-is_giving w ↦ subst (λ (k : Option ℕ). IfSome k (Common a.lines.now a.t)) (sym w.known-is) c.loop-j.invariant
    ]
