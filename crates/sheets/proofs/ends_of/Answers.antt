use borrow.Author.Rules.{rules}
use borrow.Author.Tests.{tests}
use mathlib.Core.Path.{◌≡◌}
use lib.ListN.{get_or}
use Rattle.laws.proofs.ArrayLaws.{made-at}
use Rattle.sheets.proofs.ends_of.Goals as goal

pub returns : goal.returns
returns c = made-at (λ e v. v ≡ get_or c.args.subtypes.now (get_or c.args.types.now e 0) 0) (λ x b q k. search (rules, tests)) c.from_fn.ensures.items
