-- 02 4/12: the other edition of a diagram file, and what its conversion into a lent buffer gives.
-- Assumes nothing.
use Rattle.std.specs.Prelude.{◌<◌, ◌≤◌, ℕ, Bool, cond, not, true, List, ◌⊎◌, ◌≡◌, leb, length}
use Rattle.laws.specs.Bounded.{all}
use Rattle.laws.specs.Connective.{both}
use Rattle.laws.specs.Lists.{over}
use Rattle.files.specs.Diagram.{Association, Diagram, Limits, Upper, association_at, at_most, no_limit}
use Rattle.files.specs.DiagramBytes.{write_diagram}
use Rattle.files.specs.DiagramFile.{edition_in, read_diagram}
use Rattle.files.specs.EditionFields.{rows_in}
use Rattle.files.specs.Field.{Bytes, rows}
use Rattle.files.specs.Limit.{is_wide}
use Rattle.files.specs.Refusal.{Answer, accepted, and_then, in_buffer, refused}

-- "an edition 1 file as edition 2 and the other way about"
abbrev pub other_edition : ℕ → ℕ
other_edition e = cond (is_wide e) 1 2

-- ---- 25: "a finite limit above 100"

unfoldable pub narrow_upper : Upper → Bool
narrow_upper (at_most n) = leb n 100
narrow_upper no_limit = true

-- low and up are limits both
unfoldable pub narrow_limits : Limits → Bool
narrow_limits l = both (leb l.low 100) (narrow_upper l.up)

unfoldable pub narrow_association : Association → Bool
narrow_association a = both (narrow_limits a.left.limits) (narrow_limits a.right.limits)

-- none of its finite limits is above 100
unfoldable pub narrow : Diagram → Bool
narrow d = all (λ i. narrow_association (association_at d i)) (length d.associations)

-- the same as a proposition: there is such a limit
abbrev pub WideUpper : Upper → Type 0
WideUpper (at_most n) = 100 < n
WideUpper no_limit = ⊥

abbrev pub WideLimits : Limits → Type 0
WideLimits l = (100 < l.low) ⊎ WideUpper l.up

-- it has "a finite limit above 100", at one end or the other of an association
abbrev pub HasWideLimit : Diagram → Type 0
HasWideLimit d = (i : ℕ) × (i < length d.associations) × (WideLimits (association_at d i).left.limits ⊎ WideLimits (association_at d i).right.limits)

-- "an edition 2 file with a finite limit above 100"
abbrev pub TooWide : List ℕ → Type 0
TooWide file = (d : Diagram) × (read_diagram file ≡ accepted d) × (edition_in file ≡ 2) × HasWideLimit d

-- ---- the conversion

-- "an edition 2 file with a finite limit above 100 is to become edition 1"
abbrev pub too_wide : ℕ → Diagram → Bool
too_wide e d = both (is_wide e) (not (narrow d))

-- "25 when" it is, else the diagram of a file of edition e in its other edition
unfoldable pub rewritten : ℕ → Diagram → Answer (List ℕ)
rewritten e d = cond (too_wide e d) (refused 25) (accepted (write_diagram (other_edition e) d))

-- the file in its other edition; 25 comes "after the file's own refusals"
unfoldable pub other_file : List ℕ → Answer (List ℕ)
other_file file = and_then (read_diagram file) (rewritten (edition_in file))

-- "into a lent buffer of at least 4,096 bytes"; "25 .., after the file's own refusals; then 20 for the buffer"
unfoldable pub converted : List ℕ → List ℕ → Answer (List ℕ)
converted file buffer = and_then (other_file file) (λ g. in_buffer 4096 buffer (accepted g))

-- what the buffer holds afterwards: the result at the front, "bytes behind it stay untouched"; after a refusal what it held
unfoldable pub buffer_after : List ℕ → Answer (List ℕ) → List ℕ
buffer_after buffer (refused n) = buffer
buffer_after buffer (accepted g) = over g buffer

-- ---- what is asked of a result

-- the file becomes g
pub record Converts (file g : List ℕ) : Type 0 where
  pub read-back : read_diagram g ≡ read_diagram file  -- "Read back, the result is the diagram that went in, limit for limit"
  pub edition : edition_in g ≡ other_edition (edition_in file)
  pub again : (buffer : List ℕ) → 4096 ≤ length buffer → converted g buffer ≡ accepted file  -- "a second conversion returns the first file's bytes"
  pub fields : rows g ≡ rows_in (edition_in file) (edition_in g) (rows file)  -- each field in the other edition, in the file's order
  pub short : length g ≤ 4000  -- so "a lent buffer of at least 4,096 bytes" has room for it
  pub short-narrow : edition_in g ≡ 1 → length g ≤ 3936  -- the most that edition 1 takes
  pub bytes : Bytes g
