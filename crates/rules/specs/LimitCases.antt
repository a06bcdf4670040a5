-- 02 3/12: wide limits, through bytes of edition 2 files: judged, evaluated and compiled as the numbers that they are. Each
-- table has one statement.
-- Assumes nothing.
use Rattle.std.specs.Prelude.{ℕ, true, List, [], ◌++◌, ◌∷◌, ◌≡◌, refl}
use Rattle.laws.specs.Bounded.{first}
use Rattle.laws.specs.Lists.{joined}
use Rattle.rules.specs.CompileCases.{CompileCase, compiles_right}
use Rattle.rules.specs.Marked.{Case, cases_right}

-- classes G, L; association G g → l L with these limits, four bytes for each end
abbrev pub line_group : List ℕ → List ℕ → List ℕ
line_group left right =
    0x10 ∷ 0 ∷ 1 ∷ 2 ∷
    0x30 ∷ 0 ∷ 4 ∷ 0 ∷ 1 ∷ 0x47 ∷ 0 ∷
    0x30 ∷ 0 ∷ 4 ∷ 0 ∷ 1 ∷ 0x4C ∷ 0 ∷
    0x50 ∷ 0 ∷ 0x10 ∷ 0 ∷ 1 ∷ 0 ∷ (left ++ (1 ∷ 0x67 ∷ 1 ∷ (right ++ (1 ∷ 0x6C ∷ []))))

-- a G with links to two L
abbrev pub grouped : List ℕ
grouped =
    0x60 ∷ 0 ∷ 1 ∷ 3 ∷
    0x61 ∷ 0 ∷ 2 ∷ 1 ∷ 0x47 ∷
    0x61 ∷ 0 ∷ 2 ∷ 1 ∷ 0x4C ∷
    0x61 ∷ 0 ∷ 2 ∷ 1 ∷ 0x4C ∷
    0x63 ∷ 0 ∷ 4 ∷ 0 ∷ 1 ∷ 0x6C ∷ 1 ∷
    0x63 ∷ 0 ∷ 4 ∷ 0 ∷ 1 ∷ 0x6C ∷ 2 ∷ []

abbrev pub one_group : List ℕ
one_group = 0x60 ∷ 0 ∷ 1 ∷ 1 ∷ 0x61 ∷ 0 ∷ 2 ∷ 1 ∷ 0x47 ∷ []

abbrev pub one_line : List ℕ
one_line = 0x60 ∷ 0 ∷ 1 ∷ 1 ∷ 0x61 ∷ 0 ∷ 2 ∷ 1 ∷ 0x4C ∷ []

abbrev pub limit_cases : List Case
limit_cases =
    -- G [0..*] g → l [0..256] L
    record {
      diagram = line_group (0 ∷ 0 ∷ 0xFF ∷ 0xFF ∷ []) (0 ∷ 0 ∷ 1 ∷ 0 ∷ []);
      site = grouped;
      rule = 0;
      first = 2;
    } ∷
    -- G [0..*] g → l [256..256] L; as a byte it would be 0..0
    record {
      diagram = line_group (0 ∷ 0 ∷ 0xFF ∷ 0xFF ∷ []) (1 ∷ 0 ∷ 1 ∷ 0 ∷ []);
      site = grouped;
      rule = 6;
      first = 0;
    } ∷
    -- G [0..*] g → l [256..256] L
    record {
      diagram = line_group (0 ∷ 0 ∷ 0xFF ∷ 0xFF ∷ []) (1 ∷ 0 ∷ 1 ∷ 0 ∷ []);
      site = one_group;
      rule = 6;
      first = 0;
    } ∷
    -- G [0..*] g → l [256..256] L
    record {
      diagram = line_group (0 ∷ 0 ∷ 0xFF ∷ 0xFF ∷ []) (1 ∷ 0 ∷ 1 ∷ 0 ∷ []);
      site = one_line;
      rule = 0;
      first = 2;
    } ∷
    -- G [0..*] g → l [258..4000] L; as bytes 2..160
    record {
      diagram = line_group (0 ∷ 0 ∷ 0xFF ∷ 0xFF ∷ []) (1 ∷ 2 ∷ 0xF ∷ 0xA0 ∷ []);
      site = grouped;
      rule = 6;
      first = 0;
    } ∷
    -- G [0..*] g → l [0..257] L; as a byte 0..1
    record {
      diagram = line_group (0 ∷ 0 ∷ 0xFF ∷ 0xFF ∷ []) (0 ∷ 0 ∷ 1 ∷ 1 ∷ []);
      site = grouped;
      rule = 0;
      first = 2;
    } ∷
    -- G [0..*] g → l [0..255] L
    record {
      diagram = line_group (0 ∷ 0 ∷ 0xFF ∷ 0xFF ∷ []) (0 ∷ 0 ∷ 0 ∷ 0xFF ∷ []);
      site = grouped;
      rule = 0;
      first = 2;
    } ∷
    -- G [256..256] g → l [0..*] L
    record {
      diagram = line_group (1 ∷ 0 ∷ 1 ∷ 0 ∷ []) (0 ∷ 0 ∷ 0xFF ∷ 0xFF ∷ []);
      site = grouped;
      rule = 7;
      first = 1;
    } ∷
    -- G [0..256] g → l [0..*] L
    record {
      diagram = line_group (0 ∷ 0 ∷ 1 ∷ 0 ∷ []) (0 ∷ 0 ∷ 0xFF ∷ 0xFF ∷ []);
      site = grouped;
      rule = 0;
      first = 2;
    } ∷
    []

pub limit-cases-right : cases_right limit_cases ≡ true
unfolding cases_right first
limit-cases-right = refl

abbrev pub wide_cases : List CompileCase
wide_cases =
    -- A [2..*] l → r [256..4000] B
    record {
      diagram = (0x10 ∷ 0 ∷ 1 ∷ 2 ∷ 0x30 ∷ 0 ∷ 4 ∷ 0 ∷ 1 ∷ 0x41 ∷ 0 ∷ 0x30 ∷ 0 ∷ 4 ∷ 0 ∷ 1 ∷ 0x42 ∷ 0 ∷ 0x50 ∷ 0 ∷ 0x10 ∷ 0 ∷ 1 ∷ 0 ∷ 0 ∷ 2 ∷ 0xFF ∷ 0xFF ∷ 1 ∷ 0x6C ∷ 1 ∷ 1 ∷ 0 ∷ 0xF ∷ 0xA0 ∷ 1 ∷ 0x72 ∷ []);
      entries = (1 ∷ 0 ∷ 0 ∷ 1 ∷ 0 ∷ 0xF ∷ 0xA0 ∷ 4 ∷ 0 ∷ 0 ∷ 0 ∷ 2 ∷ 0 ∷ 0 ∷ []);
    } ∷
    -- A [2..*] l ← r [256..4000] B
    record {
      diagram = (0x10 ∷ 0 ∷ 1 ∷ 2 ∷ 0x30 ∷ 0 ∷ 4 ∷ 0 ∷ 1 ∷ 0x41 ∷ 0 ∷ 0x30 ∷ 0 ∷ 4 ∷ 0 ∷ 1 ∷ 0x42 ∷ 0 ∷ 0x50 ∷ 0 ∷ 0x10 ∷ 0 ∷ 2 ∷ 0 ∷ 0 ∷ 2 ∷ 0xFF ∷ 0xFF ∷ 1 ∷ 0x6C ∷ 1 ∷ 1 ∷ 0 ∷ 0xF ∷ 0xA0 ∷ 1 ∷ 0x72 ∷ []);
      entries = (2 ∷ 0 ∷ 1 ∷ 0 ∷ 2 ∷ 0 ∷ 0 ∷ 3 ∷ 0 ∷ 1 ∷ 1 ∷ 0 ∷ 0xF ∷ 0xA0 ∷ []);
    } ∷
    -- A [300..300] l ↔ r [0..*] B, composition
    record {
      diagram = (0x10 ∷ 0 ∷ 1 ∷ 2 ∷ 0x30 ∷ 0 ∷ 4 ∷ 0 ∷ 1 ∷ 0x41 ∷ 0 ∷ 0x30 ∷ 0 ∷ 4 ∷ 0 ∷ 1 ∷ 0x42 ∷ 0 ∷ 0x50 ∷ 0 ∷ 0x10 ∷ 1 ∷ 3 ∷ 0 ∷ 1 ∷ 0x2C ∷ 1 ∷ 0x2C ∷ 1 ∷ 0x6C ∷ 1 ∷ 0 ∷ 0 ∷ 0xFF ∷ 0xFF ∷ 1 ∷ 0x72 ∷ []);
      entries = (2 ∷ 0 ∷ 0 ∷ 0 ∷ 0 ∷ 0 ∷ 0 ∷ 1 ∷ 0 ∷ 1 ∷ 1 ∷ 0x2C ∷ 1 ∷ 0x2C ∷ 5 ∷ 0 ∷ 0 ∷ 0 ∷ 0 ∷ 0 ∷ 0 ∷ 6 ∷ 0 ∷ 0 ∷ 0 ∷ 0 ∷ 0 ∷ 0 ∷ []);
    } ∷
    -- A [4000..*] l -- r [0..0] B
    record {
      diagram = (0x10 ∷ 0 ∷ 1 ∷ 2 ∷ 0x30 ∷ 0 ∷ 4 ∷ 0 ∷ 1 ∷ 0x41 ∷ 0 ∷ 0x30 ∷ 0 ∷ 4 ∷ 0 ∷ 1 ∷ 0x42 ∷ 0 ∷ 0x50 ∷ 0 ∷ 0x10 ∷ 0 ∷ 4 ∷ 0 ∷ 0xF ∷ 0xA0 ∷ 0xFF ∷ 0xFF ∷ 1 ∷ 0x6C ∷ 1 ∷ 0 ∷ 0 ∷ 0 ∷ 0 ∷ 1 ∷ 0x72 ∷ []);
      entries = (1 ∷ 0 ∷ 0 ∷ 0 ∷ 0 ∷ 0 ∷ 0 ∷ 2 ∷ 0 ∷ 1 ∷ 0xF ∷ 0xA0 ∷ 0 ∷ 0 ∷ 5 ∷ 0 ∷ 0 ∷ 0 ∷ 0 ∷ 0 ∷ 0 ∷ []);
    } ∷
    -- A [0..255] l → r [0..*] B: 255 is a number
    record {
      diagram = (0x10 ∷ 0 ∷ 1 ∷ 2 ∷ 0x30 ∷ 0 ∷ 4 ∷ 0 ∷ 1 ∷ 0x41 ∷ 0 ∷ 0x30 ∷ 0 ∷ 4 ∷ 0 ∷ 1 ∷ 0x42 ∷ 0 ∷ 0x50 ∷ 0 ∷ 0x10 ∷ 0 ∷ 1 ∷ 0 ∷ 0 ∷ 0 ∷ 0 ∷ 0xFF ∷ 1 ∷ 0x6C ∷ 1 ∷ 0 ∷ 0 ∷ 0xFF ∷ 0xFF ∷ 1 ∷ 0x72 ∷ []);
      entries = (2 ∷ 0 ∷ 0 ∷ 0 ∷ 0 ∷ 0 ∷ 0 ∷ 3 ∷ 0 ∷ 0 ∷ 0 ∷ 0 ∷ 0 ∷ 0xFF ∷ []);
    } ∷
    []

pub wide-cases-right : compiles_right wide_cases ≡ true
unfolding compiles_right joined
wide-cases-right = refl
