-- `seed` meets its contract, by the number of seeds without a type: a law for each way out.
-- Assumes nothing.
use native.Mathlib.Omega.{arith}
use borrow.Author.Rules.{rules}
use mathlib.Core.Path.{◌≡◌, refl}
use Prim.Native.Nat.{◌<◌}
use lib.ListN.{length}
use Rattle.growth.proofs.SeedLaws.{grown-chosen, grown-seeded}
use Rattle.growth.proofs.wanted.Wanted.+seed.Goals as goal

pub returns-then-k-self : goal.returns-then-k-self
returns-then-k-self t c = grown-seeded _ _ _ _ _ _ _ c.if-k-self.true c.grow.ensures

pub returns-in-Some : goal.returns-in-Some
returns-in-Some t c =
    let a = c.args in
    let v = a.self.now in
    let sized : length a.types.at ≡ 8 = search rules in
    -- object k is a seed
    let among : a.k < v.q.now.seeds = omega (arith, c.requires.0, c.if-k-self.false) in
    let room : a.k < length a.types.at = omega (arith, sized, among, c.requires.1, v.few) in
    grown-chosen _ _ _ _ _ c.loop-t.t _ _ room (rw c.put.ensures at c.in-Some.ensures) refl
