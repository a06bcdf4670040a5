-- Files of both editions and their refusals, through bytes: 02 3/12. The table has one statement that computes.
-- Assumes nothing.
use Rattle.std.specs.Prelude.{ℕ, true, List, [], ◌++◌, ◌∷◌, ◌≡◌, refl}
use Rattle.laws.specs.Lists.{joined}
use Rattle.files.specs.FileCases.{FileCase, diagrams_right}

-- edition e, class A, and these fields
abbrev pub with_class : ℕ → List ℕ → List ℕ
with_class e fields = 0x10 ∷ 0 ∷ 1 ∷ e ∷ 0x30 ∷ 0 ∷ 4 ∷ 0 ∷ 1 ∷ 0x41 ∷ 0 ∷ fields

-- 16 associations of edition 2
unfoldable pub sixteen : List ℕ
unfolding joined
sixteen = joined (λ i. 0x50 ∷ 0 ∷ 0x10 ∷ 0 ∷ 1 ∷ 0 ∷ 0 ∷ 0 ∷ 0xFF ∷ 0xFF ∷ 1 ∷ 0x6C ∷ 0 ∷ 0 ∷ 0 ∷ 0xFF ∷ 0xFF ∷ 1 ∷ 0x72 ∷ []) 16

abbrev pub edition_cases : List FileCase
edition_cases =
    record { file = (0x10 ∷ 0 ∷ 1 ∷ 2 ∷ []); refusal = 0 } ∷  -- edition 2, nothing else
    record { file = (0x10 ∷ 0 ∷ 1 ∷ 0 ∷ []); refusal = 3 } ∷  -- edition 0
    record { file = (0x10 ∷ 0 ∷ 1 ∷ 3 ∷ []); refusal = 3 } ∷  -- edition 3
    record { file = (0x10 ∷ 0 ∷ 1 ∷ 0xFF ∷ []); refusal = 3 } ∷  -- edition 255
    record { file = (0x10 ∷ 0 ∷ 2 ∷ 2 ∷ 2 ∷ []); refusal = 3 } ∷  -- edition 2, content long
    record { file = (0x10 ∷ 0 ∷ 2 ∷ 0 ∷ 2 ∷ []); refusal = 3 } ∷  -- edition content 00 02
    record { file = (0x10 ∷ 0 ∷ 0 ∷ []); refusal = 3 } ∷  -- edition empty
    record { file = (0x10 ∷ 0 ∷ 1 ∷ 2 ∷ 0x10 ∷ 0 ∷ 1 ∷ 1 ∷ []); refusal = 2 } ∷  -- a second 0x10 of the other edition
    record { file = (0x10 ∷ 0 ∷ 1 ∷ 2 ∷ 0x10 ∷ 0 ∷ 1 ∷ []); refusal = 1 } ∷  -- the same, cut
    record { file = with_class 2 (0x50 ∷ 0 ∷ 0x10 ∷ 0 ∷ 1 ∷ 0 ∷ 0 ∷ 0 ∷ 0 ∷ 0 ∷ 1 ∷ 0x6C ∷ 0 ∷ 0 ∷ 0 ∷ 0xFF ∷ 0xFF ∷ 1 ∷ 0x72 ∷ []); refusal = 0 } ∷  -- edition 2, 0..0 and 0..none
    record { file = with_class 2 (0x50 ∷ 0 ∷ 0x10 ∷ 0 ∷ 1 ∷ 0 ∷ 0 ∷ 1 ∷ 0 ∷ 1 ∷ 1 ∷ 0x6C ∷ 0 ∷ 0 ∷ 0 ∷ 1 ∷ 0 ∷ 1 ∷ 0x72 ∷ []); refusal = 0 } ∷  -- 0..256 (the group of lines)
    record { file = with_class 2 (0x50 ∷ 0 ∷ 0x10 ∷ 0 ∷ 1 ∷ 0 ∷ 0xF ∷ 0xA0 ∷ 0xF ∷ 0xA0 ∷ 1 ∷ 0x6C ∷ 0 ∷ 0 ∷ 0 ∷ 0 ∷ 0 ∷ 1 ∷ 0x72 ∷ []); refusal = 0 } ∷  -- low 4,000, up 4,000
    record { file = with_class 2 (0x50 ∷ 0 ∷ 0x10 ∷ 0 ∷ 1 ∷ 0 ∷ 0xF ∷ 0xA0 ∷ 0xFF ∷ 0xFF ∷ 1 ∷ 0x6C ∷ 0 ∷ 0 ∷ 0 ∷ 0 ∷ 0 ∷ 1 ∷ 0x72 ∷ []); refusal = 0 } ∷  -- low 4,000, no upper limit
    record { file = with_class 2 (0x50 ∷ 0 ∷ 0x10 ∷ 0 ∷ 1 ∷ 0 ∷ 0xF ∷ 0xA1 ∷ 0xFF ∷ 0xFF ∷ 1 ∷ 0x6C ∷ 0 ∷ 0 ∷ 0 ∷ 0 ∷ 0 ∷ 1 ∷ 0x72 ∷ []); refusal = 3 } ∷  -- low 4,001, no upper limit
    record { file = with_class 2 (0x50 ∷ 0 ∷ 0x10 ∷ 0 ∷ 1 ∷ 0 ∷ 0 ∷ 0 ∷ 0xF ∷ 0xA1 ∷ 1 ∷ 0x6C ∷ 0 ∷ 0 ∷ 0 ∷ 0 ∷ 0 ∷ 1 ∷ 0x72 ∷ []); refusal = 3 } ∷  -- up 4,001
    record { file = with_class 2 (0x50 ∷ 0 ∷ 0x10 ∷ 0 ∷ 1 ∷ 0 ∷ 0 ∷ 0 ∷ 0xFF ∷ 0xFE ∷ 1 ∷ 0x6C ∷ 0 ∷ 0 ∷ 0 ∷ 0 ∷ 0 ∷ 1 ∷ 0x72 ∷ []); refusal = 3 } ∷  -- up 65,534
    record { file = with_class 2 (0x50 ∷ 0 ∷ 0x10 ∷ 0 ∷ 1 ∷ 0 ∷ 0xFF ∷ 0xFF ∷ 0xFF ∷ 0xFF ∷ 1 ∷ 0x6C ∷ 0 ∷ 0 ∷ 0 ∷ 0 ∷ 0 ∷ 1 ∷ 0x72 ∷ []); refusal = 3 } ∷  -- low 65,535, up 65,535
    record { file = with_class 2 (0x50 ∷ 0 ∷ 0x10 ∷ 0 ∷ 1 ∷ 0 ∷ 0 ∷ 0 ∷ 0 ∷ 0xFF ∷ 1 ∷ 0x6C ∷ 0 ∷ 0 ∷ 0 ∷ 0 ∷ 0 ∷ 1 ∷ 0x72 ∷ []); refusal = 0 } ∷  -- up 255: the number 255
    record { file = with_class 2 (0x50 ∷ 0 ∷ 0x10 ∷ 0 ∷ 1 ∷ 0 ∷ 0 ∷ 0xFF ∷ 0 ∷ 0xFE ∷ 1 ∷ 0x6C ∷ 0 ∷ 0 ∷ 0 ∷ 0 ∷ 0 ∷ 1 ∷ 0x72 ∷ []); refusal = 3 } ∷  -- low 255, up 254
    record { file = with_class 2 (0x50 ∷ 0 ∷ 0x10 ∷ 0 ∷ 1 ∷ 0 ∷ 1 ∷ 0 ∷ 0 ∷ 1 ∷ 1 ∷ 0x6C ∷ 0 ∷ 0 ∷ 0 ∷ 0 ∷ 0 ∷ 1 ∷ 0x72 ∷ []); refusal = 3 } ∷  -- low 256, up 1 (01 00 00 01): bytes swapped it would be 1..256
    record { file = with_class 2 (0x50 ∷ 0 ∷ 0x10 ∷ 0 ∷ 1 ∷ 0 ∷ 0 ∷ 1 ∷ 1 ∷ 0 ∷ 1 ∷ 0x6C ∷ 0 ∷ 0 ∷ 0 ∷ 0 ∷ 0 ∷ 1 ∷ 0x72 ∷ []); refusal = 0 } ∷  -- low 1, up 256
    record { file = with_class 2 (0x50 ∷ 0 ∷ 0x10 ∷ 0 ∷ 1 ∷ 0 ∷ 0 ∷ 0 ∷ 0 ∷ 0 ∷ 1 ∷ 0x6C ∷ 0 ∷ 0 ∷ 2 ∷ 0 ∷ 1 ∷ 1 ∷ 0x72 ∷ []); refusal = 3 } ∷  -- right end: low 2, up 1
    record { file = with_class 2 (0x50 ∷ 0 ∷ 0x10 ∷ 0 ∷ 1 ∷ 0 ∷ 0 ∷ 0 ∷ 0 ∷ 0 ∷ 1 ∷ 0x6C ∷ 0 ∷ 0 ∷ 0 ∷ 0xF ∷ 0xA1 ∷ 1 ∷ 0x72 ∷ []); refusal = 3 } ∷  -- right end: up 4,001
    record { file = with_class 2 (0x50 ∷ 0 ∷ 0xC ∷ 0 ∷ 1 ∷ 0 ∷ 0 ∷ 0xFF ∷ 1 ∷ 0x6C ∷ 0 ∷ 0 ∷ 0xFF ∷ 1 ∷ 0x72 ∷ []); refusal = 3 } ∷  -- edition 1 content in an edition 2 file
    record { file = with_class 1 (0x50 ∷ 0 ∷ 0x10 ∷ 0 ∷ 1 ∷ 0 ∷ 0 ∷ 0 ∷ 0 ∷ 0 ∷ 1 ∷ 0x6C ∷ 0 ∷ 0 ∷ 0 ∷ 0xFF ∷ 0xFF ∷ 1 ∷ 0x72 ∷ []); refusal = 3 } ∷  -- edition 2 content in an edition 1 file
    record { file = with_class 2 (0x50 ∷ 0 ∷ 0x11 ∷ 0 ∷ 1 ∷ 0 ∷ 0 ∷ 0 ∷ 0 ∷ 0 ∷ 1 ∷ 0x6C ∷ 0 ∷ 0 ∷ 0 ∷ 0 ∷ 0 ∷ 1 ∷ 0x72 ∷ 0 ∷ []); refusal = 3 } ∷  -- edition 2 content long by one
    record { file = with_class 2 (0x50 ∷ 0 ∷ 0xF ∷ 0 ∷ 1 ∷ 0 ∷ 0 ∷ 0 ∷ 0 ∷ 0 ∷ 1 ∷ 0x6C ∷ 0 ∷ 0 ∷ 0 ∷ 0 ∷ 0 ∷ 1 ∷ []); refusal = 3 } ∷  -- edition 2 content short by one
    record { file = with_class 2 (0x50 ∷ 0 ∷ 0x10 ∷ 0 ∷ 1 ∷ 7 ∷ 0 ∷ 0 ∷ 0xF ∷ 0xA1 ∷ 1 ∷ 0x6C ∷ 0 ∷ 0 ∷ 0 ∷ 0 ∷ 0 ∷ 1 ∷ 0x72 ∷ []); refusal = 3 } ∷  -- up 4,001 and left type missing: 3 before 6
    record { file = with_class 2 (0x50 ∷ 0 ∷ 0x10 ∷ 0 ∷ 1 ∷ 7 ∷ 0 ∷ 0 ∷ 0xF ∷ 0xA0 ∷ 1 ∷ 0x6C ∷ 0 ∷ 0 ∷ 0 ∷ 0 ∷ 0 ∷ 1 ∷ 0x72 ∷ []); refusal = 6 } ∷  -- left type missing
    record { file = with_class 2 (0x50 ∷ 0 ∷ 0x10 ∷ 1 ∷ 2 ∷ 0 ∷ 0 ∷ 2 ∷ 0 ∷ 1 ∷ 1 ∷ 0x6C ∷ 0 ∷ 0 ∷ 0 ∷ 0 ∷ 0 ∷ 1 ∷ 0x72 ∷ []); refusal = 3 } ∷  -- composition with arrow 2, up below low
    record { file = with_class 2 (0x50 ∷ 0 ∷ 0x10 ∷ 1 ∷ 2 ∷ 0 ∷ 0 ∷ 0 ∷ 0 ∷ 0 ∷ 1 ∷ 0x6C ∷ 0 ∷ 0 ∷ 0 ∷ 0 ∷ 0 ∷ 1 ∷ 0x72 ∷ []); refusal = 8 } ∷  -- composition with arrow 2
    record { file = with_class 2 sixteen; refusal = 0 } ∷  -- 16 associations
    record { file = with_class 2 (sixteen ++ (0x50 ∷ 0 ∷ 0 ∷ [])); refusal = 4 } ∷  -- 17th malformed
    record { file = with_class 1 (0x50 ∷ 0 ∷ 0xC ∷ 0 ∷ 1 ∷ 0 ∷ 0 ∷ 0x65 ∷ 1 ∷ 0x6C ∷ 0 ∷ 0 ∷ 0 ∷ 1 ∷ 0x72 ∷ []); refusal = 3 } ∷  -- edition 1: up 101
    record { file = with_class 1 (0x50 ∷ 0 ∷ 0xC ∷ 0 ∷ 1 ∷ 0 ∷ 0x65 ∷ 0xFF ∷ 1 ∷ 0x6C ∷ 0 ∷ 0 ∷ 0 ∷ 1 ∷ 0x72 ∷ []); refusal = 3 } ∷  -- edition 1: low 101, up 255
    record { file = with_class 1 (0x50 ∷ 0 ∷ 0xC ∷ 0 ∷ 1 ∷ 0 ∷ 0x64 ∷ 0xFF ∷ 1 ∷ 0x6C ∷ 0 ∷ 0 ∷ 0 ∷ 1 ∷ 0x72 ∷ []); refusal = 0 } ∷  -- edition 1: low 100, up 255
    []

pub edition-cases-right : diagrams_right edition_cases ≡ true
unfolding diagrams_right sixteen
edition-cases-right = refl
