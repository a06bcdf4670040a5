-- A byte of a name by the library's classes; a list is a valid name by its length and then byte for byte.
-- Assumes nothing.
use Prim.Native.Nat.{ℕ}
use mathlib.Core.Bool.{Bool, true, false, ◌&&◌, ◌||◌}
use mathlib.Core.List.{List}
use mathlib.Core.Path.{◌≡◌, refl, sym, ap, ◌∙◌}
use lib.ListN.{length, get_or}
use lib.Dec.{eqb, leb}
use Rattle.std.specs.Char.{is_ascii_alphanumeric}
use Rattle.laws.specs.Connective.{both, either}
use Rattle.laws.specs.Bounded.{all}
use Rattle.files.specs.Name.{name_byte, valid_name}

either-reordered : (digit upper lower line : Bool) → ((digit || upper) || lower) || line ≡ either upper (either lower (either digit line))
unfolding either
either-reordered true true true line = refl
either-reordered true true false line = refl
either-reordered true false true line = refl
either-reordered true false false line = refl
either-reordered false true true line = refl
either-reordered false true false line = refl
either-reordered false false true line = refl
either-reordered false false false line = refl

-- the library's letters and digits, and the underscore
pub name-byte : (b : ℕ) {r : Bool} → r ≡ is_ascii_alphanumeric b → r || eqb b 95 ≡ name_byte b
unfolding name_byte both
name-byte b e =
    ap (λ (a : Bool). a || eqb b 95) e
    ∙ either-reordered (leb 48 b && leb b 57) (leb 65 b && leb b 90) (leb 97 b && leb b 122) (eqb b 95)

-- with no such length it is none, whatever its bytes
pub name-size : (w : List ℕ) → leb 1 (length w) && leb (length w) 16 ≡ false → leb 1 (length w) && leb (length w) 16 ≡ valid_name w
unfolding valid_name both
name-size w e = e ∙ sym (ap (λ (b : Bool). b && all (λ i. name_byte (get_or w i 0)) (length w)) e)

pub name-by-bytes : (w : List ℕ) {r : Bool} → leb 1 (length w) && leb (length w) 16 ≡ true → r ≡ all (λ i. name_byte (get_or w i 0)) (length w) → r ≡ valid_name w
unfolding valid_name both
name-by-bytes w e f = f ∙ sym (ap (λ (b : Bool). b && all (λ i. name_byte (get_or w i 0)) (length w)) e)
