-- What a diagram asks by associations, all together.
-- Assumes nothing.
use Rattle.growing.specs.World.{World}
use Rattle.worlds.specs.declared.Lines.{Lines}
use Rattle.worlds.specs.Kept.{ColumnsKept, MirrorsKept, WholesKept}

pub record LinesKept (x : Lines) (w : World) : Type 0 where
  pub columns : ColumnsKept x w
  pub mirrors : MirrorsKept x w
  pub wholes : WholesKept x w
