-- `ends` meets its contract: no world where the types do not fit or a link that must stand may not, else what the search for links says.
-- Assumes nothing.
use mathlib.Core.Bool.{not}
use mathlib.Core.Path.{ap}
use Rattle.link_search.specs.declared.asked.NetConstraints.{NetConstraints}
use Rattle.laws.proofs.SearchLaws.{by-no, by-yes}
use Rattle.leaves.proofs.EndLaws.{ended-given, ended-links, ended-must, ended-types}
use Rattle.leaves.proofs.ends.Goals as goal

pub returns-then-not-types_fit : goal.returns-then-not-types_fit
returns-then-not-types_fit c =
    let a = c.args in
    ended-types a.usable a.singles a.targets.now a.lows.now a.highs.now a.lines.now a.q.now a.types.at a.n _ (by-no c.types_fit.ensures (ap not c.if-not-types_fit.true))

pub returns-then-not-all_covered : goal.returns-then-not-all_covered
returns-then-not-all_covered c =
    let a = c.args in
    ended-must a.usable a.singles a.targets.now a.lows.now a.highs.now a.lines.now a.q.now a.types.at a.n _ c.mays.result c.mays.ensures
    (by-no c.all_covered.ensures (ap not c.if-not-all_covered.true))

pub returns : goal.returns
returns c =
    let a = c.args in
    let p = c.requires in
    let net : NetConstraints = record { rows = c.rows.result; columns = c.columns.result; mirrors = c.mirrors.result; wholes = c.wholes.result } in
    rw c.then_some.ensures
    (ended-given a.usable a.singles a.targets.now a.lows.now a.highs.now a.lines.now a.q.now a.types.at a.n c.is_ok-ok.result _
    (ended-links a.usable a.singles a.targets.now a.lows.now a.highs.now a.lines.now a.q.now a.types.at a.n c.mays.result net
    (record { mays = c.mays.ensures; rows = c.rows.ensures; columns = c.columns.ensures; mirrors = c.mirrors.ensures; wholes = c.wholes.ensures })
    p.1 p.2 a.types.small (by-yes c.types_fit.ensures (ap not c.if-not-types_fit.false)) (by-yes c.all_covered.ensures (ap not c.if-not-all_covered.false)) c.links.new.bounds.must c.links.new.bounds.may c.is_ok-ok.result
    (rw c.is_ok-ok.ensures.value c.links.ensures)))
