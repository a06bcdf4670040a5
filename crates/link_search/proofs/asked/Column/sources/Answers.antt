-- `sources` meets its contract: the mask of a test.
-- Assumes nothing.
use borrow.Author.Rules.{rules}
use borrow.Author.Tests.{tests}
use Rattle.link_search.specs.Nets.{net_of}
use Rattle.link_search.specs.Families.{source}
use Rattle.link_search.proofs.asked.Column.sources.Goals as goal

pub returns : goal.returns
returns c = let a = c.args in c.mask_of.ensures (source a.self.now (net_of a.rows.now) a.p) (λ o b l k. search (rules, tests))
