-- `type_at` meets its contract.
-- Assumes nothing.
use Rattle.aims.proofs.rows.type_at.Goals as goal

pub returns : goal.returns
returns c = c.only.ensures
