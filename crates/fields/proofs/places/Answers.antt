use native.Mathlib.Omega.{arith}
use Prim.Native.Nat.{◌≤◌, ℕ}
use mathlib.Core.Path.{◌∙◌, ◌≡◌, ap}
use lib.ListN.{length-replicate}
use borrow.Author.Count.{below_none}
use Rattle.fields.specs.Slot.{slot_name, slot_of}
use Rattle.laws.proofs.ListLaws.{set_more, set-each, zeros}
use borrow.Author.Rules.{rules}
use Rattle.fields.proofs.places.Goals as goal

pub loop-i-init : goal.loop-i-init
loop-i-init g c = (length-replicate g.row.N 0, below_none _, λ i. omega (arith, zeros g.row.N i))

pub loop-i-preserved : goal.loop-i-preserved
loop-i-preserved g c = let l = c.loop-i in
    let a = c.args in
    let s = c.slot_of-at in (
      search rules,
      rw c.from.ensures (set_more (λ (j v : ℕ). v ≡ slot_of a.others.now a.k (slot_name a.names.now j)) l.r l.i s.result (omega arith) l.invariant.1 (s.ensures.0 ∙ ap (slot_of a.others.now a.k) c.slot_name.ensures)),
      λ k. set-each (λ (v : ℕ). v ≤ a.k) l.r c.from.result s.result k (omega arith) (l.invariant.2 k) s.ensures.1,
    )

pub returns : goal.returns
returns g c = (λ i h. c.loop-i.invariant.1 i (omega arith), c.loop-i.invariant.2)
