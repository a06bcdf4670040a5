use Rattle.text_checks.proofs.is_kind_in_row.Goals as goal

pub returns : goal.returns
returns c = c.is_kind.ensures _ c.what.ensures
