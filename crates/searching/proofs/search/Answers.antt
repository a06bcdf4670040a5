use Prim.Native.Nat.{◌<◌, ℕ}
use mathlib.Core.Path.{subst}
use lib.ListN.{get_or}
use Rattle.diagrams.proofs.ViewLaws.{type-count}
use Rattle.searching.proofs.LevelLaws.{level-found, level-none, site-known}
use Rattle.searching.proofs.search.Goals as goal

pub returns-in_err-site : goal.returns-in_err-site
returns-in_err-site c =
    let by = c.args.by.now.pair in
    rw c.from_residual.ensures (level-none c.args.n by.old.now.held.wf by.new.now.held.wf c.requires.0 c.in_err-site.ensures)

pub with_values-requires : goal.with_values-requires
with_values-requires c = λ o l.
    let by = c.args.by.now.pair in
    subst (λ (k : ℕ). get_or c.in_ok-site.site.types o 0 < k) (type-count by.old.now.stored)
    (site-known c.args.n by.old.now.held.wf by.new.now.held.wf c.requires.0 c.in_ok-site.site c.in_ok-site.ensures o l)

pub returns : goal.returns
returns c =
    let by = c.args.by.now.pair in
    level-found c.args.n by.old.now.held.wf by.new.now.held.wf c.requires.0 c.in_ok-site.site c.in_ok-site.ensures _ c.with_values.ensures
