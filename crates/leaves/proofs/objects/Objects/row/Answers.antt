-- `row` meets its contract: the tables' limits, made tighter in the row that the query asks about.
-- Assumes nothing.
use Prim.Native.Nat.{ℕ, max, min}
use mathlib.Core.Bool.{Bool, cond, ◌&&◌}
use mathlib.Core.Path.{◌∙◌, ap, sym}
use lib.Dec.{eqb, ltb}
use Rattle.leaves.specs.Arrays.{row_by, row_high, row_low}
use Rattle.leaves.proofs.objects.Objects.row.Goals as goal

pub returns-then-self-i : goal.returns-then-self-i
unfolding row_low row_high
returns-then-self-i c =
    let a = c.args.self.now in
    let q = a.q.now in
    let l = row_by c.args.lows.now a.types.now.at a.n 0 c.args.i in
    let h = row_by c.args.highs.now a.types.now.at a.n 8 c.args.i in
    let e = ap (λ (k : ℕ). ltb 0 q.seeds && eqb c.args.i k) (sym c.from.ensures) ∙ c.if-self-i.true in
    record {
      low = c.max.ensures ∙ ap (λ (x : ℕ). max x q.row.low) c.row_by-low.ensures ∙ sym (ap (λ (b : Bool). cond b (max l q.row.low) l) e);
      high = c.min.ensures ∙ ap (λ (x : ℕ). min x q.row.high) c.row_by-high.ensures ∙ sym (ap (λ (b : Bool). cond b (min h q.row.high) h) e);
    }

pub returns : goal.returns
unfolding row_low row_high
returns c =
    let a = c.args.self.now in
    let q = a.q.now in
    let l = row_by c.args.lows.now a.types.now.at a.n 0 c.args.i in
    let h = row_by c.args.highs.now a.types.now.at a.n 8 c.args.i in
    let e = ap (λ (k : ℕ). ltb 0 q.seeds && eqb c.args.i k) (sym c.from.ensures) ∙ c.if-self-i.false in
    record {
      low = c.row_by-low.ensures ∙ sym (ap (λ (b : Bool). cond b (max l q.row.low) l) e);
      high = c.row_by-high.ensures ∙ sym (ap (λ (b : Bool). cond b (min h q.row.high) h) e);
    }
