-- 02 2/12: "From now on arrow 4 mirrors as arrow 3 does. Rule 8 covers both". Cases through bytes, one table, one statement; Marked has
-- the Line and Port case with arrow 4, RuleCases links back to two wholes and rule 7, CompileCases the compiled row.
-- Assumes nothing.
use Rattle.std.specs.Prelude.{ℕ, true, List, [], ◌∷◌, ◌≡◌, refl}
use Rattle.rules.specs.Marked.{Case, cases_right, file_l_p4, one_way}

-- Line and Port with arrow 1
abbrev pub file_l_p1 : List ℕ
file_l_p1 =
    0x10 ∷ 0 ∷ 1 ∷ 1 ∷
    0x30 ∷ 0 ∷ 7 ∷ 0 ∷ 4 ∷ 0x4C ∷ 0x69 ∷ 0x6E ∷ 0x65 ∷ 0 ∷
    0x30 ∷ 0 ∷ 7 ∷ 0 ∷ 4 ∷ 0x50 ∷ 0x6F ∷ 0x72 ∷ 0x74 ∷ 0 ∷
    0x50 ∷ 0 ∷ 0x12 ∷ 0 ∷ 1 ∷ 0 ∷ 0 ∷ 1 ∷ 4 ∷ 0x6C ∷ 0x69 ∷ 0x6E ∷ 0x65 ∷ 1 ∷ 0 ∷ 1 ∷ 4 ∷ 0x70 ∷ 0x6F ∷ 0x72 ∷ 0x74 ∷ []

-- class N; association N [0..*] r -- r [0..*] N
abbrev pub file_n4 : List ℕ
file_n4 =
    0x10 ∷ 0 ∷ 1 ∷ 1 ∷
    0x30 ∷ 0 ∷ 4 ∷ 0 ∷ 1 ∷ 0x4E ∷ 0 ∷
    0x50 ∷ 0 ∷ 0xC ∷ 0 ∷ 4 ∷ 0 ∷ 0 ∷ 0xFF ∷ 1 ∷ 0x72 ∷ 0 ∷ 0 ∷ 0xFF ∷ 1 ∷ 0x72 ∷ []

-- classes W, X; composition W [0..*] w -- x [0..*] X
abbrev pub file_w4 : List ℕ
file_w4 =
    0x10 ∷ 0 ∷ 1 ∷ 1 ∷
    0x30 ∷ 0 ∷ 4 ∷ 0 ∷ 1 ∷ 0x57 ∷ 0 ∷
    0x30 ∷ 0 ∷ 4 ∷ 0 ∷ 1 ∷ 0x58 ∷ 0 ∷
    0x50 ∷ 0 ∷ 0xC ∷ 1 ∷ 4 ∷ 0 ∷ 0 ∷ 0xFF ∷ 1 ∷ 0x77 ∷ 1 ∷ 0 ∷ 0xFF ∷ 1 ∷ 0x78 ∷ []

-- abstract class A, class B; association A [0..*] l -- r [0..*] B
abbrev pub file_a4 : List ℕ
file_a4 =
    0x10 ∷ 0 ∷ 1 ∷ 1 ∷
    0x30 ∷ 0 ∷ 4 ∷ 1 ∷ 1 ∷ 0x41 ∷ 0 ∷
    0x30 ∷ 0 ∷ 4 ∷ 0 ∷ 1 ∷ 0x42 ∷ 0 ∷
    0x50 ∷ 0 ∷ 0xC ∷ 0 ∷ 4 ∷ 0 ∷ 0 ∷ 0xFF ∷ 1 ∷ 0x6C ∷ 1 ∷ 0 ∷ 0xFF ∷ 1 ∷ 0x72 ∷ []

abbrev pub mirror_cases : List Case
mirror_cases =
    -- the line link alone
    record {
      diagram = file_l_p4;
      site = (0x60 ∷ 0 ∷ 1 ∷ 2 ∷ 0x61 ∷ 0 ∷ 5 ∷ 4 ∷ 0x4C ∷ 0x69 ∷ 0x6E ∷ 0x65 ∷ 0x61 ∷ 0 ∷ 5 ∷ 4 ∷ 0x50 ∷ 0x6F ∷ 0x72 ∷ 0x74 ∷ 0x63 ∷ 0 ∷ 7 ∷ 1 ∷ 4 ∷ 0x6C ∷ 0x69 ∷ 0x6E ∷ 0x65 ∷ 0 ∷ []);
      rule = 8;
      first = 2;
    } ∷
    -- both links
    record {
      diagram = file_l_p4;
      site = (0x60 ∷ 0 ∷ 1 ∷ 2 ∷ 0x61 ∷ 0 ∷ 5 ∷ 4 ∷ 0x4C ∷ 0x69 ∷ 0x6E ∷ 0x65 ∷ 0x61 ∷ 0 ∷ 5 ∷ 4 ∷ 0x50 ∷ 0x6F ∷ 0x72 ∷ 0x74 ∷ 0x63 ∷ 0 ∷ 7 ∷ 0 ∷ 4 ∷ 0x70 ∷ 0x6F ∷ 0x72 ∷ 0x74 ∷ 1 ∷ 0x63 ∷ 0 ∷ 7 ∷ 1 ∷ 4 ∷ 0x6C ∷ 0x69 ∷ 0x6E ∷ 0x65 ∷ 0 ∷ []);
      rule = 0;
      first = 3;
    } ∷
    -- no link
    record {
      diagram = file_l_p4;
      site = (0x60 ∷ 0 ∷ 1 ∷ 2 ∷ 0x61 ∷ 0 ∷ 5 ∷ 4 ∷ 0x4C ∷ 0x69 ∷ 0x6E ∷ 0x65 ∷ 0x61 ∷ 0 ∷ 5 ∷ 4 ∷ 0x50 ∷ 0x6F ∷ 0x72 ∷ 0x74 ∷ []);
      rule = 0;
      first = 3;
    } ∷
    -- arrow 1 has no mirror
    record {
      diagram = file_l_p1;
      site = one_way;
      rule = 0;
      first = 2;
    } ∷
    -- one role at both ends, one way
    record {
      diagram = file_n4;
      site = (0x60 ∷ 0 ∷ 1 ∷ 2 ∷ 0x61 ∷ 0 ∷ 2 ∷ 1 ∷ 0x4E ∷ 0x61 ∷ 0 ∷ 2 ∷ 1 ∷ 0x4E ∷ 0x63 ∷ 0 ∷ 4 ∷ 0 ∷ 1 ∷ 0x72 ∷ 1 ∷ []);
      rule = 8;
      first = 2;
    } ∷
    -- both ways
    record {
      diagram = file_n4;
      site = (0x60 ∷ 0 ∷ 1 ∷ 2 ∷ 0x61 ∷ 0 ∷ 2 ∷ 1 ∷ 0x4E ∷ 0x61 ∷ 0 ∷ 2 ∷ 1 ∷ 0x4E ∷ 0x63 ∷ 0 ∷ 4 ∷ 0 ∷ 1 ∷ 0x72 ∷ 1 ∷ 0x63 ∷ 0 ∷ 4 ∷ 1 ∷ 1 ∷ 0x72 ∷ 0 ∷ []);
      rule = 0;
      first = 3;
    } ∷
    -- a link to itself is its own mirror
    record {
      diagram = file_n4;
      site = (0x60 ∷ 0 ∷ 1 ∷ 1 ∷ 0x61 ∷ 0 ∷ 2 ∷ 1 ∷ 0x4E ∷ 0x63 ∷ 0 ∷ 4 ∷ 0 ∷ 1 ∷ 0x72 ∷ 0 ∷ []);
      rule = 0;
      first = 3;
    } ∷
    -- two wholes, every link with its link back
    record {
      diagram = file_w4;
      site = (0x60 ∷ 0 ∷ 1 ∷ 3 ∷ 0x61 ∷ 0 ∷ 2 ∷ 1 ∷ 0x57 ∷ 0x61 ∷ 0 ∷ 2 ∷ 1 ∷ 0x57 ∷ 0x61 ∷ 0 ∷ 2 ∷ 1 ∷ 0x58 ∷ 0x63 ∷ 0 ∷ 4 ∷ 0 ∷ 1 ∷ 0x78 ∷ 2 ∷ 0x63 ∷ 0 ∷ 4 ∷ 1 ∷ 1 ∷ 0x78 ∷ 2 ∷ 0x63 ∷ 0 ∷ 4 ∷ 2 ∷ 1 ∷ 0x77 ∷ 0 ∷ 0x63 ∷ 0 ∷ 4 ∷ 2 ∷ 1 ∷ 0x77 ∷ 1 ∷ []);
      rule = 9;
      first = 3;
    } ∷
    -- two wholes, no link back: 8 before 9
    record {
      diagram = file_w4;
      site = (0x60 ∷ 0 ∷ 1 ∷ 3 ∷ 0x61 ∷ 0 ∷ 2 ∷ 1 ∷ 0x57 ∷ 0x61 ∷ 0 ∷ 2 ∷ 1 ∷ 0x57 ∷ 0x61 ∷ 0 ∷ 2 ∷ 1 ∷ 0x58 ∷ 0x63 ∷ 0 ∷ 4 ∷ 0 ∷ 1 ∷ 0x78 ∷ 2 ∷ 0x63 ∷ 0 ∷ 4 ∷ 1 ∷ 1 ∷ 0x78 ∷ 2 ∷ []);
      rule = 8;
      first = 2;
    } ∷
    -- rule 6 of the r1 links comes first
    record {
      diagram = file_l_p4;
      site = (0x60 ∷ 0 ∷ 1 ∷ 3 ∷ 0x61 ∷ 0 ∷ 5 ∷ 4 ∷ 0x4C ∷ 0x69 ∷ 0x6E ∷ 0x65 ∷ 0x61 ∷ 0 ∷ 5 ∷ 4 ∷ 0x4C ∷ 0x69 ∷ 0x6E ∷ 0x65 ∷ 0x61 ∷ 0 ∷ 5 ∷ 4 ∷ 0x50 ∷ 0x6F ∷ 0x72 ∷ 0x74 ∷ 0x63 ∷ 0 ∷ 7 ∷ 0 ∷ 4 ∷ 0x70 ∷ 0x6F ∷ 0x72 ∷ 0x74 ∷ 2 ∷ 0x63 ∷ 0 ∷ 7 ∷ 1 ∷ 4 ∷ 0x70 ∷ 0x6F ∷ 0x72 ∷ 0x74 ∷ 2 ∷ 0x63 ∷ 0 ∷ 7 ∷ 2 ∷ 4 ∷ 0x6C ∷ 0x69 ∷ 0x6E ∷ 0x65 ∷ 0 ∷ 0x63 ∷ 0 ∷ 7 ∷ 2 ∷ 4 ∷ 0x6C ∷ 0x69 ∷ 0x6E ∷ 0x65 ∷ 1 ∷ []);
      rule = 6;
      first = 1;
    } ∷
    -- an object of unknown type is in no pair
    record {
      diagram = file_l_p4;
      site = (0x60 ∷ 0 ∷ 1 ∷ 2 ∷ 0x61 ∷ 0 ∷ 5 ∷ 4 ∷ 0x4C ∷ 0x69 ∷ 0x6E ∷ 0x65 ∷ 0x61 ∷ 0 ∷ 5 ∷ 4 ∷ 0x4E ∷ 0x6F ∷ 0x70 ∷ 0x65 ∷ 0x63 ∷ 0 ∷ 7 ∷ 1 ∷ 4 ∷ 0x6C ∷ 0x69 ∷ 0x6E ∷ 0x65 ∷ 0 ∷ []);
      rule = 1;
      first = 3;
    } ∷
    -- one of an abstract type is (evaluate)
    record {
      diagram = file_a4;
      site = (0x60 ∷ 0 ∷ 1 ∷ 2 ∷ 0x61 ∷ 0 ∷ 2 ∷ 1 ∷ 0x41 ∷ 0x61 ∷ 0 ∷ 2 ∷ 1 ∷ 0x42 ∷ 0x63 ∷ 0 ∷ 4 ∷ 1 ∷ 1 ∷ 0x6C ∷ 0 ∷ []);
      rule = 1;
      first = 2;
    } ∷
    []

pub mirror-cases-right : cases_right mirror_cases ≡ true
unfolding cases_right
mirror-cases-right = refl
