-- Conversions and what they leave in the buffer, through bytes: 02 4/12. The table has one statement that computes.
-- Assumes nothing.
use Rattle.std.specs.Prelude.{◌-◌, ℕ, Bool, ◌&&◌, false, true, List, [], ◌++◌, ◌∷◌, ◌≡◌, refl, eqb, length, replicate}
use Rattle.laws.specs.Lists.{over}
use Rattle.laws.specs.Order.{is_equal, order}
use Rattle.files.specs.Content.{name_bytes}
use Rattle.files.specs.Convert.{buffer_after, converted, narrow, narrow_association, narrow_limits, narrow_upper, other_file, rewritten}
use Rattle.files.specs.DiagramBytes.{association_bytes, attribute_bytes, end_bytes, type_bytes, value_type_bytes, write_diagram}
use Rattle.files.specs.EditionCases.{with_class}
use Rattle.files.specs.Field.{field}
use Rattle.files.specs.FileCases.{diagram_file}
use Rattle.files.specs.Limit.{limit_bytes, upper_number}
use Rattle.files.specs.Refusal.{Answer, accepted, and_then, in_buffer, refused}

-- a file, the size of the buffer, and what comes of it
pub record ConvertCase : Type 0 where
  pub file : List ℕ
  pub room : ℕ
  pub gives : Answer (List ℕ)

-- each buffer holds EE everywhere before
abbrev lent : ℕ → List ℕ
lent n = replicate n 0xEE

-- and afterwards the result in front of them
abbrev left : ℕ → Answer (List ℕ) → List ℕ
left room (refused n) = lent room
left room (accepted g) = g ++ lent (room - length g)

abbrev same_answer : Answer (List ℕ) → Answer (List ℕ) → Bool
same_answer (refused m) (refused n) = eqb m n
same_answer (accepted g) (accepted h) = is_equal (order g h)
same_answer (refused m) (accepted h) = false
same_answer (accepted g) (refused n) = false

unfoldable pub converted_of : List ℕ → List ℕ → Answer (List ℕ)
unfolding diagram_file converted other_file rewritten and_then in_buffer narrow narrow_association narrow_limits narrow_upper write_diagram field value_type_bytes type_bytes attribute_bytes association_bytes end_bytes limit_bytes upper_number name_bytes
converted_of file buffer = converted file buffer

unfoldable pub conversions_right : List ConvertCase → Bool
unfolding converted_of buffer_after over order
conversions_right [] = true
conversions_right (c ∷ cs) =
    same_answer (converted_of c.file (lent c.room)) c.gives
    && is_equal (order (buffer_after (lent c.room) (converted_of c.file (lent c.room))) (left c.room c.gives))
    && conversions_right cs

-- P in each edition
abbrev shelf : List ℕ
shelf = 0x10 ∷ 0 ∷ 1 ∷ 1 ∷ 0x30 ∷ 0 ∷ 8 ∷ 0 ∷ 5 ∷ 0x53 ∷ 0x68 ∷ 0x65 ∷ 0x6C ∷ 0x66 ∷ 0 ∷ 0x30 ∷ 0 ∷ 7 ∷ 0 ∷ 4 ∷ 0x43 ∷ 0x61 ∷ 0x72 ∷ 0x64 ∷ 0 ∷ 0x50 ∷ 0 ∷ 0x14 ∷ 1 ∷ 1 ∷ 0 ∷ 1 ∷ 1 ∷ 5 ∷ 0x73 ∷ 0x68 ∷ 0x65 ∷ 0x6C ∷ 0x66 ∷ 1 ∷ 0 ∷ 4 ∷ 5 ∷ 0x63 ∷ 0x61 ∷ 0x72 ∷ 0x64 ∷ 0x73 ∷ []

abbrev wide_shelf : List ℕ
wide_shelf = 0x10 ∷ 0 ∷ 1 ∷ 2 ∷ 0x30 ∷ 0 ∷ 8 ∷ 0 ∷ 5 ∷ 0x53 ∷ 0x68 ∷ 0x65 ∷ 0x6C ∷ 0x66 ∷ 0 ∷ 0x30 ∷ 0 ∷ 7 ∷ 0 ∷ 4 ∷ 0x43 ∷ 0x61 ∷ 0x72 ∷ 0x64 ∷ 0 ∷ 0x50 ∷ 0 ∷ 0x18 ∷ 1 ∷ 1 ∷ 0 ∷ 0 ∷ 1 ∷ 0 ∷ 1 ∷ 5 ∷ 0x73 ∷ 0x68 ∷ 0x65 ∷ 0x6C ∷ 0x66 ∷ 1 ∷ 0 ∷ 0 ∷ 0 ∷ 4 ∷ 5 ∷ 0x63 ∷ 0x61 ∷ 0x72 ∷ 0x64 ∷ 0x73 ∷ []

-- an edition 2 file with a finite up of 101
abbrev pub up_of_101 : List ℕ
up_of_101 = with_class 2 (0x50 ∷ 0 ∷ 0x10 ∷ 0 ∷ 1 ∷ 0 ∷ 0 ∷ 0 ∷ 0 ∷ 0x65 ∷ 1 ∷ 0x6C ∷ 0 ∷ 0 ∷ 0 ∷ 0 ∷ 0 ∷ 1 ∷ 0x72 ∷ [])

abbrev pub convert_cases : List ConvertCase
convert_cases =
    record { file = (0x10 ∷ 0 ∷ 1 ∷ 1 ∷ []); room = 4096; gives = accepted (0x10 ∷ 0 ∷ 1 ∷ 2 ∷ []) } ∷  -- nothing but the edition
    record { file = (0x10 ∷ 0 ∷ 1 ∷ 2 ∷ []); room = 4096; gives = accepted (0x10 ∷ 0 ∷ 1 ∷ 1 ∷ []) } ∷  -- and the other way about
    record { file = shelf; room = 4096; gives = accepted wide_shelf } ∷  -- P
    record { file = wide_shelf; room = 4096; gives = accepted shelf } ∷  -- P in edition 2
    record { file = (0x10 ∷ 0 ∷ 1 ∷ 1 ∷ 0x30 ∷ 0 ∷ 7 ∷ 3 ∷ 4 ∷ 0x4D ∷ 0x61 ∷ 0x69 ∷ 0x6E ∷ 0 ∷ []); room = 4096; gives = accepted (0x10 ∷ 0 ∷ 1 ∷ 2 ∷ 0x30 ∷ 0 ∷ 7 ∷ 3 ∷ 4 ∷ 0x4D ∷ 0x61 ∷ 0x69 ∷ 0x6E ∷ 0 ∷ []) } ∷  -- a singleton class
    record { file = with_class 1 (0x50 ∷ 0 ∷ 0xC ∷ 0 ∷ 1 ∷ 0 ∷ 0 ∷ 0xFF ∷ 1 ∷ 0x6C ∷ 0 ∷ 0x64 ∷ 0xFF ∷ 1 ∷ 0x72 ∷ []); room = 4096; gives = accepted (with_class 2 (0x50 ∷ 0 ∷ 0x10 ∷ 0 ∷ 1 ∷ 0 ∷ 0 ∷ 0 ∷ 0xFF ∷ 0xFF ∷ 1 ∷ 0x6C ∷ 0 ∷ 0 ∷ 0x64 ∷ 0xFF ∷ 0xFF ∷ 1 ∷ 0x72 ∷ [])) } ∷  -- 0..none and 100..none
    record { file = with_class 2 (0x50 ∷ 0 ∷ 0x10 ∷ 0 ∷ 1 ∷ 0 ∷ 0 ∷ 0 ∷ 0xFF ∷ 0xFF ∷ 1 ∷ 0x6C ∷ 0 ∷ 0 ∷ 0x64 ∷ 0xFF ∷ 0xFF ∷ 1 ∷ 0x72 ∷ []); room = 4096; gives = accepted (with_class 1 (0x50 ∷ 0 ∷ 0xC ∷ 0 ∷ 1 ∷ 0 ∷ 0 ∷ 0xFF ∷ 1 ∷ 0x6C ∷ 0 ∷ 0x64 ∷ 0xFF ∷ 1 ∷ 0x72 ∷ [])) } ∷  -- and the other way about
    record { file = up_of_101; room = 4096; gives = refused 25 } ∷  -- up 101
    record { file = with_class 2 (0x50 ∷ 0 ∷ 0x10 ∷ 0 ∷ 1 ∷ 0 ∷ 0 ∷ 0x65 ∷ 0xFF ∷ 0xFF ∷ 1 ∷ 0x6C ∷ 0 ∷ 0 ∷ 0 ∷ 0 ∷ 0 ∷ 1 ∷ 0x72 ∷ []); room = 4096; gives = refused 25 } ∷  -- low 101, no upper limit
    record { file = with_class 2 (0x50 ∷ 0 ∷ 0x10 ∷ 0 ∷ 1 ∷ 0 ∷ 0 ∷ 0 ∷ 0 ∷ 0 ∷ 1 ∷ 0x6C ∷ 0 ∷ 0 ∷ 0 ∷ 0 ∷ 0xFF ∷ 1 ∷ 0x72 ∷ []); room = 4096; gives = refused 25 } ∷  -- right end, up 255
    record { file = with_class 2 (0x50 ∷ 0 ∷ 0x10 ∷ 0 ∷ 1 ∷ 0 ∷ 0 ∷ 0x64 ∷ 0 ∷ 0x64 ∷ 1 ∷ 0x6C ∷ 0 ∷ 0 ∷ 0 ∷ 0xFF ∷ 0xFF ∷ 1 ∷ 0x72 ∷ []); room = 4096; gives = accepted (with_class 1 (0x50 ∷ 0 ∷ 0xC ∷ 0 ∷ 1 ∷ 0 ∷ 0x64 ∷ 0x64 ∷ 1 ∷ 0x6C ∷ 0 ∷ 0 ∷ 0xFF ∷ 1 ∷ 0x72 ∷ [])) } ∷  -- up 100
    record { file = with_class 2 (0x50 ∷ 0 ∷ 0x10 ∷ 0 ∷ 1 ∷ 0 ∷ 0 ∷ 0 ∷ 1 ∷ 0 ∷ 1 ∷ 0x6C ∷ 0 ∷ 0 ∷ 0 ∷ 0 ∷ 0 ∷ 1 ∷ 0x72 ∷ []); room = 4096; gives = refused 25 } ∷  -- up 256: its low byte is 0
    record { file = up_of_101; room = 10; gives = refused 25 } ∷  -- 25 before 20
    record { file = (0x10 ∷ 0 ∷ 1 ∷ 1 ∷ []); room = 4095; gives = refused 20 } ∷  -- 20 though 4 bytes would do
    record { file = (0x10 ∷ 0 ∷ 1 ∷ 1 ∷ []); room = 0; gives = refused 20 } ∷  -- 20, no buffer
    record { file = (0x10 ∷ 0 ∷ 1 ∷ []); room = 0; gives = refused 1 } ∷  -- 1 before 20
    record { file = with_class 2 (0x50 ∷ 0 ∷ 0x10 ∷ 0 ∷ 1 ∷ 0 ∷ 0 ∷ 0 ∷ 0 ∷ 0x65 ∷ 1 ∷ 0x6C ∷ 0 ∷ 0 ∷ 0 ∷ 0 ∷ 0 ∷ 1 ∷ 0x72 ∷ 0x50 ∷ []); room = 4096; gives = refused 1 } ∷  -- up 101, then a field cut off: 1 before 25
    record { file = (0x10 ∷ 0 ∷ 1 ∷ 3 ∷ []); room = 4096; gives = refused 3 } ∷  -- edition 3
    record { file = []; room = 4096; gives = refused 2 } ∷  -- no file
    record { file = (0x60 ∷ 0 ∷ 1 ∷ 0 ∷ []); room = 4096; gives = refused 2 } ∷  -- a record file
    record { file = with_class 1 (0x50 ∷ 0 ∷ 0xC ∷ 0 ∷ 4 ∷ 0 ∷ 0 ∷ 0xFF ∷ 1 ∷ 0x6C ∷ 0 ∷ 0 ∷ 0xFF ∷ 1 ∷ 0x72 ∷ []); room = 4096; gives = accepted (with_class 2 (0x50 ∷ 0 ∷ 0x10 ∷ 0 ∷ 4 ∷ 0 ∷ 0 ∷ 0 ∷ 0xFF ∷ 0xFF ∷ 1 ∷ 0x6C ∷ 0 ∷ 0 ∷ 0 ∷ 0xFF ∷ 0xFF ∷ 1 ∷ 0x72 ∷ [])) } ∷  -- arrow 4 stays 4
    record { file = with_class 1 (0x50 ∷ 0 ∷ 0xC ∷ 1 ∷ 2 ∷ 0 ∷ 0 ∷ 0xFF ∷ 1 ∷ 0x6C ∷ 0 ∷ 0 ∷ 0xFF ∷ 1 ∷ 0x72 ∷ []); room = 4096; gives = refused 8 } ∷  -- a composition with arrow 2
    record { file = (0x10 ∷ 0 ∷ 1 ∷ 1 ∷ []); room = 5000; gives = accepted (0x10 ∷ 0 ∷ 1 ∷ 2 ∷ []) } ∷  -- a buffer of 5,000
    []

pub conversions-right : conversions_right convert_cases ≡ true
unfolding conversions_right
conversions-right = refl
