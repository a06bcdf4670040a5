-- The field at the front of an unread rest, as the reader gives it.
-- Assumes nothing.
use Rattle.std.specs.Prelude.{List, ℕ, ◌≡◌, ◌<◌, length, take, drop, Option, None, Some, Result, Ok, Err}
use Rattle.files.specs.Field.{cut, end, row, rows}
use Rattle.fields.specs.declared.Field.{Field}
use Rattle.fields.specs.declared.Refusal.{Refusal}
use Rattle.fields.specs.declared.Refusal.TheVariants.{Cut}

-- the rest of a file begins with this field, and with what follows it it is a shorter rest
pub record AtFront (s : List ℕ) (f : Field) : Type 0 where
  pub is : rows s ≡ row f.tag f.content.now (rows f.rest.now)
  pub content : f.content.now ≡ take (length f.content.now) (drop 3 s)
  pub rest : f.rest.now ≡ drop (length f.content.now) (drop 3 s)
  pub shorter : length f.rest.now < length s

abbrev pub ReadsField : List ℕ → Result (Option Field) Refusal → Type 0
ReadsField s (Ok None) = rows s ≡ end
ReadsField s (Ok (Some f)) = AtFront s f
ReadsField s (Err r) = (rows s ≡ cut) × (r ≡ Cut)
