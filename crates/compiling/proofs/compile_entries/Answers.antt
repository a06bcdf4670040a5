use mathlib.Core.Path.{◌≡◌, sym, subst}
use native.Mathlib.Omega.{arith}
use Rattle.compiling.specs.Compiled.{Gathered}
use Rattle.compiling.proofs.GatherLaws.{arrow-known, gathered-all, gathered-more, gathered_none}
use Rattle.compiling.proofs.compile_entries.Goals as goal

pub loop-i-init : goal.loop-i-init
loop-i-init c = let a = c.args.d.stored.associations in subst (Gathered a 0) (sym c.none-r.ensures) (gathered_none a)

pub push_association-requires : goal.push_association-requires
push_association-requires c = let l = c.loop-i in (
  omega (arith, l.invariant.most, c.args.d.held.counts.associations),
  (omega (arith, c.args.d.held.counts.associations), arrow-known c.args.d.stored c.args.d.held l.i (omega arith)),
)

pub loop-i-preserved : goal.loop-i-preserved
loop-i-preserved c = let a = c.args.d.stored.associations in gathered-more a c.loop-i.invariant c.push_association.ensures.0 c.push_association.ensures.1

pub returns : goal.returns
returns c = let l = c.loop-i in
    let n : l.i ≡ c.args.d.stored.associations.count = omega arith in
    gathered-all c.args.d.stored c.args.d.held l.i n l.invariant
