-- `find_any` meets its contract: where a class is missing, no world is right.
-- Assumes nothing.
use Rattle.laws.proofs.ConnectiveLaws.{true-false}
use Rattle.queries.proofs.BreakLaws.{breaks-last}
use Rattle.aims.proofs.search.Search.find_any.Goals as goal

pub returns-then-missing : goal.returns-then-missing
returns-then-missing c = breaks-last _ _ _ _ _ _ (λ w k. true-false c.if-missing.true k) (λ w h e k. absurd k) c.ask_any.ensures
