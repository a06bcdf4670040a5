use Rattle.std.proofs.Common.{◌∙◌}
use Rattle.text_checks.proofs.UnknownLaws.{ends-unknown, no_end}
use borrow.Author.Rules.{rules}
use Rattle.text_checks.proofs.has_unknown_end.Goals as goal

pub returns-then-is_kind_in_row : goal.returns-then-is_kind_in_row
returns-then-is_kind_in_row c = search (rules, ends-unknown)

pub returns-else-is_kind_in_row : goal.returns-else-is_kind_in_row
returns-else-is_kind_in_row c = c.if-is_kind_in_row.false ∙ no_end _ _ _ c.requires c.is_kind_in_row.ensures c.if-is_kind_in_row.false
