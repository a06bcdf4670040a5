use mathlib.Core.Path.{refl}
use Rattle.text_rows.proofs.TableLaws.{name-state, no-name-state}
use Rattle.text_rows.proofs.table.is_name_state.Goals as goal

pub returns-in-2 : goal.returns-in-2
returns-in-2 c = name-state c.args.q 0 refl c.in-2.is

pub returns-in-15 : goal.returns-in-15
returns-in-15 c = name-state c.args.q 1 refl c.in-15.is

pub returns-in_default : goal.returns-in_default
returns-in_default c = no-name-state c.ranges.q.fits c.in_default.in_default-own.rest
