use lib.Bits.{bit_and, bit_or}
use Rattle.sheets.specs.RowsBy.{Stepped}
use Rattle.sheets.proofs.places.mask_slot.Given as goal

abbrev pub invariant-loop-t : goal.invariant-loop-t
invariant-loop-t l = Stepped (λ m. bit_and (bit_or m l.more) l.keep) l.set l.s l.t l.initial.masks l.masks
