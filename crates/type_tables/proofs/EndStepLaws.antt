-- The ways out of the functions on ends, one law for each, with the facts as the code has them.
-- Assumes nothing.
use Prim.Native.Nat.{◌%◌, ◌/◌, ℕ}
use mathlib.Core.Bool.{Bool}
use mathlib.Core.List.{List}
use mathlib.Core.Path.{◌∙◌, ◌≡◌, ap, sym}
use lib.ListN.{get_or}
use borrow.Author.Tests.{eq-eqb, ne_eqb}
use Rattle.laws.proofs.ListLaws.{read_at}
use Rattle.rules.specs.Arrow.{carries_left, carries_right}
use Rattle.type_tables.specs.RowsIn.{carried_in}

pub carried-left : (arrows : List ℕ) (e : ℕ) {w b : ℕ} {r : Bool} → w ≡ e / 2 → b ≡ get_or arrows w 0 → e % 2 ≡ 0 → r ≡ carries_left b → r ≡ carried_in arrows e
unfolding carried_in
carried-left arrows e f q z r = r ∙ ap carries_left (read_at arrows (e / 2) f q) ∙ sym (rw (eq-eqb (e % 2) 0 z))

pub carried-right : (arrows : List ℕ) (e : ℕ) {w b : ℕ} {r : Bool} → w ≡ e / 2 → b ≡ get_or arrows w 0 → (e % 2 ≡ 0 → ⊥) → r ≡ carries_right b → r ≡ carried_in arrows e
unfolding carried_in
carried-right arrows e f q z r = r ∙ ap carries_right (read_at arrows (e / 2) f q) ∙ sym (rw (ne_eqb (e % 2) 0 z))

-- for `search`, as `search steps depth 8 fits 20000`
pub ruleset steps = (carried-left, carried-right)
