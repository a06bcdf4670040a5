-- `line_column` meets its contract: it asks of the objects with a type of the association's targets.
-- Assumes nothing.
use mathlib.Core.Bool.{Bool, cond}
use mathlib.Core.Path.{◌∙◌, ap}
use Rattle.worlds.specs.Lined.{column_at}
use Rattle.leaves.proofs.objects.Objects.line_column.Goals as goal

pub returns : goal.returns
returns c =
    let e = c.column.ensures in
    let l = column_at c.args.self.now.lines.now c.args.j in
    record {
      slot-is = e.slot-is;
      from-are = e.from-are;
      low = λ p h. e.low p h ∙ ap (λ (b : Bool). cond b l.low 0) (c.among.ensures p);
      high = λ p h. e.high p h ∙ ap (λ (b : Bool). cond b l.high 8) (c.among.ensures p);
    }
