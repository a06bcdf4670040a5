use Prim.Native.Nat.{◌*◌, max, min, ℕ}
use native.Mathlib.Omega.{arith}
use mathlib.Core.Path.{◌∙◌, ap, refl}
use lib.ListN.{get_or, get_or-replicate}
use Rattle.sheets.proofs.GatherLaws.{gathered-begin, gathered-done}
use Rattle.sheets.proofs.PlaceLaws.{stepped-next}
use borrow.Author.Rules.{rules}
use Rattle.laws.proofs.ListLaws.{zeros}
use Rattle.sheets.proofs.places.rows_of.Goals as goal

pub loop-e-init : goal.loop-e-init
loop-e-init c = (
  search rules,
  search rules,
  λ x h. zeros 768 x ∙ gathered-begin _ _ 0,
  λ x h. get_or-replicate 768 x 8 0 h ∙ gathered-begin _ _ 8,
)

pub limit_slot-requires : goal.limit_slot-requires
limit_slot-requires c =
    let l = c.loop-e in (c.args.ends.now.known, l.invariant.0, l.invariant.1)

pub loop-e-preserved : goal.loop-e-preserved
loop-e-preserved c =
    let l = c.loop-e in
    let e = c.args.ends.now in
    let a = e.asked.now in
    let s = c.source_at-set in
    let low = c.capped-low in
    let high = c.capped-high in
    let p = c.limit_slot.ensures in (
      p.0.size,
      p.1.size,
      stepped-next (λ e m. max m (min 9 (get_or a.lows e 0))) (λ x. 0) e.sets a.arrows e.slots e.types l.e l.least c.limit_slot.new.lows (λ m. max m low.result) s.ensures c.from-i.ensures refl
          (λ m. ap (max m) (low.ensures ∙ ap (λ (i : ℕ). min 9 (get_or a.lows i 0)) c.from-i.ensures)) l.invariant.2 p.0,
      stepped-next (λ e m. min m (min 8 (get_or a.ups e 0))) (λ x. 8) e.sets a.arrows e.slots e.types l.e l.most c.limit_slot.new.highs (λ m. min m high.result) s.ensures c.from-i.ensures refl
          (λ m. ap (min m) (high.ensures ∙ ap (λ (i : ℕ). min 8 (get_or a.ups i 0)) c.from-i.ensures)) l.invariant.3 p.1,
    )

pub returns : goal.returns
returns c =
    let l = c.loop-e in
    let n = c.args.ends.now.asked.now.count * 2 in
    record {
      targets = c.targets_of.ensures;
      lows = λ x h. gathered-done _ _ 0 n l.e (omega (arith, c.count-e-end.ensures, l.auto.e-end)) (omega (arith, c.count-e-end.ensures)) (l.invariant.2 x h);
      highs = λ x h. gathered-done _ _ 8 n l.e (omega (arith, c.count-e-end.ensures, l.auto.e-end)) (omega (arith, c.count-e-end.ensures)) (l.invariant.3 x h);
    }
