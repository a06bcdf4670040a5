use borrow.Author.Rules.{rules}
use borrow.Author.Tests.{tests}
use mathlib.Core.Path.{refl}
use Rattle.laws.proofs.RangeLaws.{fold-range}
use Rattle.laws.specs.Bits.{Marks}
use Rattle.link_rules.proofs.WholeLaws.{wholes-begin, wholes-next}
use Rattle.link_rules.specs.WholesIn.{is_whole_in, whole_among}
use Rattle.link_rules.proofs.Links.whole_mask.Goals as goal

pub returns : goal.returns
unfolding is_whole_in
returns c =
    let v = c.args.self.now in
    fold-range (λ i m. Marks (whole_among v.associations.now v.links.now v.tables.now.masks v.tables.now.slots c.args.p i) v.count m) v.associations.now.count (λ i m r q l f k. search (rules, tests, wholes-next)) c.fold.ensures.ran refl (wholes-begin _ _ _ _ _ _)
