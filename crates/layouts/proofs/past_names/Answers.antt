use borrow.Author.Rules.{rules}
use borrow.Author.Tests.{tests}
use mathlib.Core.Path.{◌≡◌, refl}
use Rattle.laws.proofs.RangeLaws.{fold-range}
use Rattle.files.specs.Content.{past_names}
use Rattle.layouts.proofs.NamesLaws.{past-begin, past_next}
use Rattle.layouts.proofs.past_names.Goals as goal

pub returns : goal.returns
returns c = fold-range (λ i r. r.now ≡ past_names i c.args.c.now) c.args.n (λ i a b q l p k. search (rules, tests, past_next)) c.fold.ensures.ran refl (past-begin c.args.c.now)
