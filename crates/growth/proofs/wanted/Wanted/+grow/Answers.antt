-- `grow` meets its contract, by the number of spare places: a law for each way out.
-- Assumes nothing.
use mathlib.Core.Path.{◌≡◌, ap₂, refl, sym, subst, ◌∙◌}
use mathlib.Core.Bool.{Bool, ◌&&◌, not}
use Prim.Native.Nat.{◌+◌, ◌<◌}
use native.Mathlib.Omega.{arith}
use borrow.Author.Rules.{rules}
use lib.ListN.{length}
use Rattle.laws.specs.Bits.{bit}
use Rattle.laws.proofs.ConnectiveLaws.{and_left}
use Rattle.growing.specs.World.{World}
use Rattle.growing.specs.Growth.{Tried}
use Rattle.growing.proofs.GrowthLaws.{blind-later, passed_over, tried-call, tried-skip}
use Rattle.growth.specs.Wanted.{wanted}
use Rattle.worlds.proofs.BlindLaws.{blind-solution}
use Rattle.growth.proofs.wanted.Wanted.+grow.Goals as goal
use Rattle.growth.proofs.wanted.Wanted.+grow.Goals.{then-has+in_default, else-has}

pub loop-t-preserved : goal.loop-t-preserved
loop-t-preserved t c =
    let a = c.args in
    let v = a.self.now in
    -- the worlds that are wanted
    let S : World → Type 0 = wanted v in
    -- the types of which one is demanded
    let g = c.in_ok-g.g in
    let u = c.loop-t.t in
    let f = c.loop-t.f in
    let small : u < 24 = search rules in
    let sized : length a.types.at ≡ 8 = search rules in
    -- a place is spare
    let spare : a.k < v.n = omega (arith, c.requires.1, c.if-k-self.false) in
    let room : a.k < length a.types.at = omega (arith, sized, spare, v.few) in
    let fresh = ap₂ (λ (x y : Bool). x && not y) c.has.ensures c.has-in-loop-t.ensures in
    elim c.if-has.branch [
      | then-has+in_default w ↦ subst (Tried S 24 a.types.at a.k a.forb v.n g (u + 1)) (sym w.f-is)
          (tried-call S 24 a.types.at a.k a.forb v.n g u f w.with-f.result small room
          (blind-later S v.q.now.seeds a.k c.requires.0 (blind-solution _ v.q.now v.n v.sane))
          (and_left (bit u g) (not (bit u f)) (sym fresh ∙ w.if-has.true)) c.loop-t.invariant
          ((rw w.put.ensures at w.in_default.ensures).complete refl) w.with-f.ensures)
      | else-has w ↦ subst (Tried S 24 a.types.at a.k a.forb v.n g (u + 1)) (sym w.f-is)
          (tried-skip S 24 a.types.at a.k a.forb v.n g u f small (passed_over u g f (sym fresh ∙ w.if-has.false)) c.loop-t.invariant)
    ]
