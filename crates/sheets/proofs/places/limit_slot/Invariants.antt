use Prim.Native.Nat.{max, min}
use Rattle.sheets.specs.RowsBy.{Stepped}
use Rattle.sheets.proofs.places.limit_slot.Given as goal

abbrev pub invariant-loop-t : goal.invariant-loop-t
invariant-loop-t l = Stepped (λ m. max m l.low) l.set l.s l.t l.initial.lows l.lows × Stepped (λ m. min m l.high) l.set l.s l.t l.initial.highs l.highs
