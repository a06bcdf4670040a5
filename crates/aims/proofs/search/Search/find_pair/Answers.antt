-- `find_pair` meets its contract: no type is a whole by one of the two, or none a part by both, or there are no links, or a part of two is searched for.
-- Assumes nothing.
use Rattle.aims.proofs.ChainLaws.{keeps}
use Rattle.aims.proofs.WholeLaws.{pair-empty, pair_found, pair-no-whole, pair-no-whole-too, pair-past, pair-past-too}
use Rattle.aims.proofs.search.Search.find_pair.Goals as goal

pub returns-then-one-eq0 : goal.returns-then-one-eq0
returns-then-one-eq0 c = keeps c.args.self.now _ (pair-no-whole _ _ _ _ c.if-one-eq0.true)

pub returns-then-two-eq0 : goal.returns-then-two-eq0
returns-then-two-eq0 c = keeps c.args.self.now _ (pair-no-whole-too _ _ _ _ c.if-two-eq0.true)

pub returns-then-parts-eq0 : goal.returns-then-parts-eq0
returns-then-parts-eq0 c = keeps c.args.self.now _ (pair-empty _ _ _ _ _ c.common-parts.ensures c.if-parts-eq0.true)

pub returns-then-one-ge32 : goal.returns-then-one-ge32
returns-then-one-ge32 c = keeps c.args.self.now _ (pair-past _ _ _ _ c.if-one-ge32.true)

pub returns-then-two-ge32 : goal.returns-then-two-ge32
returns-then-two-ge32 c = keeps c.args.self.now _ (pair-past-too _ _ _ _ c.if-two-ge32.true)

pub returns : goal.returns
returns c = pair_found _ _ _ _ _ _ _ c.common-parts.ensures c.find_parts.ensures
