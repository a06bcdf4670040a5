use Rattle.weights.proofs.ScaleLaws.{columns-fair, left-fair, right-fair, rows-fair, whole-fair}
use Rattle.weights.proofs.scale_of.Goals as goal

pub returns-in-Rows : goal.returns-in-Rows
returns-in-Rows c = rows-fair _ _ _ _ _ _ _ c.requires.2 c.args.tables.now.slotted (cc) c.rows_scale.ensures

pub returns-in-Columns : goal.returns-in-Columns
returns-in-Columns c = columns-fair _ _ _ _ _ _ _ c.requires.2 c.args.tables.now.slotted (cc) c.columns_scale.ensures

pub returns-in-There : goal.returns-in-There
returns-in-There c = right-fair _ _ _ _ _ _ _ c.requires.2 c.args.tables.now.slotted (cc) c.mirror_scale.ensures

pub returns-in-Back : goal.returns-in-Back
returns-in-Back c = left-fair _ _ _ _ _ _ _ c.requires.2 c.args.tables.now.slotted (cc) c.mirror_scale-in-Back.ensures

pub returns-in-Wholes : goal.returns-in-Wholes
returns-in-Wholes c = whole-fair _ _ _ _ _ _ _ c.args.tables.now.slotted c.requires.0 c.joined-from.ensures c.whole_scale.ensures
