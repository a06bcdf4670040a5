-- `number_of` meets its contract: by what is counted.
-- Assumes nothing.
use mathlib.Core.Bool.{not}
use mathlib.Core.Path.{ap}
use Rattle.laws.proofs.SearchLaws.{by-yes, is-no}
use Rattle.weights.specs.Numbers.{in_mask, counted}
use Rattle.weights.specs.declared.Count.TheVariants.{Flat, High, Low, Parts}
use Rattle.weights.proofs.NumberLaws.{number-as, number-none}
use Rattle.weights.proofs.number_of.Goals as goal

pub returns-then-not-has : goal.returns-then-not-has
returns-then-not-has c = number-none _ _ _ _ _ _ _ c.from.ensures (is-no c.has.ensures c.if-not-has.true)

pub returns-in-Low : goal.returns-in-Low
unfolding counted in_mask
returns-in-Low c = number-as _ _ _ _ _ _ _ (Low c.in-Low.to) c.from.ensures c.in-Low.is (by-yes c.has.ensures (ap not c.if-not-has.false)) cc

pub returns-in-High : goal.returns-in-High
unfolding counted in_mask
returns-in-High c = number-as _ _ _ _ _ _ _ High c.from.ensures c.in-High.is (by-yes c.has.ensures (ap not c.if-not-has.false)) cc

pub returns-in-Flat : goal.returns-in-Flat
unfolding counted in_mask
returns-in-Flat c = number-as _ _ _ _ _ _ _ Flat c.from.ensures c.in-Flat.is (by-yes c.has.ensures (ap not c.if-not-has.false)) cc

pub returns-in-Parts : goal.returns-in-Parts
unfolding counted in_mask
returns-in-Parts c = number-as _ _ _ _ _ _ _ Parts c.from.ensures c.in-Parts.is (by-yes c.has.ensures (ap not c.if-not-has.false)) cc
