use Rattle.laws.specs.Bits.{Marks, bit}
use Rattle.sheets.specs.NamedIn.{is_image}
use Rattle.sheets.proofs.Placed.images_of.Given as goal

abbrev pub invariant-loop-i : goal.invariant-loop-i
invariant-loop-i l = Marks (is_image l.self.images (λ i. bit i l.chosen) l.i) l.self.k l.mask
