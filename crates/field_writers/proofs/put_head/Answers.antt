use Rattle.std.proofs.Common.{ℕ, ◌≡◌, ◌++◌, ◌∷◌, [], List, drop, get_or}
use Rattle.files.specs.Field.{two_bytes}
use Rattle.laws.specs.Lists.{over}
use Rattle.field_writers.specs.Put.{Put, head}
use mathlib.Core.Path.{refl}
use Rattle.field_writers.proofs.put_head.Goals as goal

by_bytes : (tag n b : ℕ) (two four out : List ℕ) → two ≡ two_bytes n → four ≡ tag ∷ get_or two 0 0 ∷ get_or two 1 0 ∷ b ∷ []
    → Put (head tag n b) out 4 (four ++ drop 4 out)
unfolding over
by_bytes tag n b two four out e f = record { length-is = refl; bytes = rw (f, e) refl }

pub returns : goal.returns
returns c = by_bytes _ _ _ _ _ _ c.two_bytes.ensures c.copy_from_slice.ensures.after
