use Prim.Native.Nat.{ℕ}
use native.Mathlib.Omega.{arith}
use mathlib.Core.List.{List, [], ◌∷◌}
use mathlib.Core.Path.{◌≡◌, refl, ◌∙◌}
use lib.ListN.{get_or}
use Rattle.files.specs.Field.{two_bytes}
use Rattle.rules.specs.Compile.{Entry, entry_bytes}
use Rattle.entries.specs.View.{entry_in}
use Rattle.compiling.proofs.ByteLaws.{bytes-more}
use Rattle.compiling.proofs.put_entry.Goals as goal

by_numbers : (x : Entry) (low up : List ℕ) → low ≡ two_bytes x.low → up ≡ two_bytes x.up
    → x.kind ∷ x.association ∷ x.side ∷ get_or low 0 0 ∷ get_or low 1 0 ∷ get_or up 0 0 ∷ get_or up 1 0 ∷ [] ≡ entry_bytes x
by_numbers x low up p q = rw (p, q) refl

pub returns : goal.returns
unfolding entry_in
returns c = let a = c.args in
    bytes-more a.e.now a.list.now c.copy_from_slice.new.self a.i _ c.requires.0 (omega arith) c.requires.1
    (c.copy_from_slice.ensures.after ∙ by_numbers (entry_in a.e.now a.i) _ _ c.two_bytes-low.ensures c.two_bytes-up.ensures)
