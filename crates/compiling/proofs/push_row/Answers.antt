use mathlib.Core.Path.{◌≡◌, sym}
use Rattle.diagrams.specs.View.{association_in}
use Rattle.compiling.proofs.TableLaws.{asked-begin, asked-more, asked-whole, sides-known}
use Rattle.entries.proofs.AppendLaws.{appends-as, appends-none, appends-then}
use native.Mathlib.Omega.{arith}
use Rattle.compiling.proofs.push_row.Goals as goal

pub loop-kind-init : goal.loop-kind-init
loop-kind-init c = let b = c.args in (omega arith, appends-as (appends-none b.r.now) (sym (asked-begin b.i (association_in b.a.now b.i) c.from-arrow.result)))

pub bounds-row-arrow : goal.bounds-row-arrow
unfolding association_in
bounds-row-arrow c = omega arith

pub push_asked-requires : goal.push_asked-requires
unfolding association_in
push_asked-requires c = (omega arith, (omega arith, sides-known c.from-arrow.result c.loop-kind.kind-index (omega arith) (omega arith)))

pub loop-kind-preserved : goal.loop-kind-preserved
loop-kind-preserved c = let b = c.args in (omega arith, appends-as (appends-then c.loop-kind.invariant.1 c.push_asked.ensures.0) (sym (asked-more b.i (association_in b.a.now b.i) c.from-arrow.result c.loop-kind.kind-index)))

pub returns : goal.returns
unfolding association_in
returns c = let e : c.loop-kind.kind-index ≡ 3 = omega arith in (
  appends-as c.loop-kind.invariant.1
      (asked-whole c.args.i (association_in c.args.a.now c.args.i) c.from-arrow.result c.loop-kind.kind-index c.from-arrow.ensures e c.requires.1.1),
  omega arith,
)
