-- 02 3/12: a limit in each edition of the diagram file. "Edition 2 of the diagram file stores each low and up in two bytes, high byte
-- first, range 0 to 4,000, with 65,535 for no upper limit." In edition 1 it is one byte; 01: "Low is 0 to 100; up is 0 to 100 and not
-- below low, or 255, no upper limit."
-- Assumes nothing.
use Rattle.std.specs.Prelude.{◌*◌, ◌+◌, ℕ, Bool, cond, List, [], ◌∷◌, ◌⊎◌, ◌≡◌, eqb, leb, ltb}
use Rattle.laws.specs.Connective.{both, either, imp}
use Rattle.files.specs.Content.{byte}
use Rattle.files.specs.Diagram.{Upper, at_most, no_limit}
use Rattle.files.specs.Field.{two_bytes}

-- the editions of the diagram file
abbrev pub Edition : ℕ → Type 0
Edition e = (e ≡ 1) ⊎ (e ≡ 2)

-- its limits take two bytes each
abbrev pub is_wide : ℕ → Bool
is_wide e = eqb e 2

-- the largest finite limit
abbrev pub most_of : ℕ → ℕ
most_of e = cond (is_wide e) 4000 100

-- the number that says "no upper limit"
abbrev pub none_of : ℕ → ℕ
none_of e = cond (is_wide e) 65535 255

-- behind an end's type stand low, from byte 1 on, and up; behind both the role name
abbrev pub up_start : ℕ → ℕ
up_start e = cond (is_wide e) 3 2

abbrev pub limits_end : ℕ → ℕ
limits_end e = cond (is_wide e) 5 3

-- ---- read

-- the limit that starts at byte i
unfoldable pub limit_at : ℕ → List ℕ → ℕ → ℕ
limit_at e c i = cond (is_wide e) (byte c i * 256 + byte c (i + 1)) (byte c i)

-- its low byte is a byte: a file is read as a list of numbers, and 0, 300 is no writing of 300
unfoldable pub limit_written : ℕ → List ℕ → ℕ → Bool
limit_written e c i = imp (is_wide e) (ltb (byte c (i + 1)) 256)

-- "Low is 0 to 100; up is 0 to 100 and not below low, or 255", and the same with the numbers of edition 2
unfoldable pub limits_laid : ℕ → ℕ → ℕ → Bool
limits_laid e low up = both (leb low (most_of e)) (either (both (leb up (most_of e)) (leb low up)) (eqb up (none_of e)))

-- "their 255 becoming 65,535 and every other limit keeping its number": either number says that there is no upper limit
unfoldable pub upper_of : ℕ → ℕ → Upper
upper_of e up = cond (eqb up (none_of e)) no_limit (at_most up)

-- ---- written

-- "stores each low and up in two bytes, high byte first"
unfoldable pub limit_bytes : ℕ → ℕ → List ℕ
limit_bytes e n = cond (is_wide e) (two_bytes n) (n ∷ [])

-- the number for an upper limit
unfoldable pub upper_number : ℕ → Upper → ℕ
upper_number e (at_most n) = n
upper_number e no_limit = none_of e
