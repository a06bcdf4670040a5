use borrow.Author.Rules.{rules}
use Rattle.text_parts.proofs.KindLaws.{kind-asked}
use Rattle.text_parts.proofs.is_kind.Goals as goal

pub returns : goal.returns
returns c = kind-asked c.args.kind c.args.what c.is_some_and.ensures (λ x p. search rules)
