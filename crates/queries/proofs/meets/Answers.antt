-- `meets` meets its contract: an empty set has no bit.
-- Assumes nothing.
use mathlib.Core.Path.{refl}
use Rattle.laws.proofs.BitLaws.{bit-and, bits-apart}
use Rattle.queries.proofs.meets.Goals as goal

pub returns : goal.returns
returns c = let a = c.args in (refl, λ e. bits-apart a.a a.b _ (λ j. bit-and j a.a a.b) e)
