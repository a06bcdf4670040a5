-- Cases that set neighbouring readings of the rules apart, through bytes: one table, one statement.
-- Assumes nothing.
use Rattle.std.specs.Prelude.{true, List, [], ◌∷◌, ◌≡◌, refl}
use Rattle.rules.specs.Marked.{Case, cases_right, file_l_p3, file_l_p4, file_p, file_z}

abbrev pub rule_cases : List Case
rule_cases =
    -- missing interface attribute
    record {
      diagram = (0x10 ∷ 0 ∷ 1 ∷ 1 ∷ 0x20 ∷ 0 ∷ 3 ∷ 1 ∷ 0x56 ∷ 0 ∷ 0x20 ∷ 0 ∷ 7 ∷ 1 ∷ 0x43 ∷ 2 ∷ 1 ∷ 0x72 ∷ 1 ∷ 0x67 ∷ 0x30 ∷ 0 ∷ 4 ∷ 2 ∷ 1 ∷ 0x49 ∷ 0 ∷ 0x30 ∷ 0 ∷ 5 ∷ 0 ∷ 1 ∷ 0x41 ∷ 1 ∷ 0 ∷ 0x40 ∷ 0 ∷ 4 ∷ 0 ∷ 1 ∷ 0x61 ∷ 0 ∷ 0x40 ∷ 0 ∷ 4 ∷ 1 ∷ 1 ∷ 0x62 ∷ 1 ∷ []);
      site = (0x60 ∷ 0 ∷ 1 ∷ 1 ∷ 0x61 ∷ 0 ∷ 2 ∷ 1 ∷ 0x41 ∷ 0x62 ∷ 0 ∷ 7 ∷ 0 ∷ 1 ∷ 0x62 ∷ 1 ∷ 0x43 ∷ 1 ∷ 0x72 ∷ []);
      rule = 3;
      first = 0;
    } ∷
    -- plain type with a constant
    record {
      diagram = (0x10 ∷ 0 ∷ 1 ∷ 1 ∷ 0x20 ∷ 0 ∷ 3 ∷ 1 ∷ 0x56 ∷ 0 ∷ 0x20 ∷ 0 ∷ 7 ∷ 1 ∷ 0x43 ∷ 2 ∷ 1 ∷ 0x72 ∷ 1 ∷ 0x67 ∷ 0x30 ∷ 0 ∷ 4 ∷ 2 ∷ 1 ∷ 0x49 ∷ 0 ∷ 0x30 ∷ 0 ∷ 5 ∷ 0 ∷ 1 ∷ 0x41 ∷ 1 ∷ 0 ∷ 0x40 ∷ 0 ∷ 4 ∷ 0 ∷ 1 ∷ 0x61 ∷ 0 ∷ 0x40 ∷ 0 ∷ 4 ∷ 1 ∷ 1 ∷ 0x62 ∷ 1 ∷ []);
      site = (0x60 ∷ 0 ∷ 1 ∷ 1 ∷ 0x61 ∷ 0 ∷ 2 ∷ 1 ∷ 0x41 ∷ 0x62 ∷ 0 ∷ 7 ∷ 0 ∷ 1 ∷ 0x61 ∷ 1 ∷ 0x56 ∷ 1 ∷ 0x78 ∷ 0x62 ∷ 0 ∷ 7 ∷ 0 ∷ 1 ∷ 0x62 ∷ 1 ∷ 0x43 ∷ 1 ∷ 0x72 ∷ []);
      rule = 4;
      first = 0;
    } ∷
    -- declarations disagree
    record {
      diagram = (0x10 ∷ 0 ∷ 1 ∷ 1 ∷ 0x20 ∷ 0 ∷ 3 ∷ 1 ∷ 0x56 ∷ 0 ∷ 0x20 ∷ 0 ∷ 7 ∷ 1 ∷ 0x43 ∷ 2 ∷ 1 ∷ 0x72 ∷ 1 ∷ 0x67 ∷ 0x30 ∷ 0 ∷ 4 ∷ 0 ∷ 1 ∷ 0x41 ∷ 0 ∷ 0x40 ∷ 0 ∷ 4 ∷ 0 ∷ 1 ∷ 0x61 ∷ 0 ∷ 0x40 ∷ 0 ∷ 4 ∷ 0 ∷ 1 ∷ 0x61 ∷ 1 ∷ []);
      site = (0x60 ∷ 0 ∷ 1 ∷ 1 ∷ 0x61 ∷ 0 ∷ 2 ∷ 1 ∷ 0x41 ∷ 0x62 ∷ 0 ∷ 6 ∷ 0 ∷ 1 ∷ 0x61 ∷ 1 ∷ 0x56 ∷ 0 ∷ []);
      rule = 4;
      first = 0;
    } ∷
    -- abstract type is an instance (evaluate)
    record {
      diagram = (0x10 ∷ 0 ∷ 1 ∷ 1 ∷ 0x30 ∷ 0 ∷ 4 ∷ 1 ∷ 1 ∷ 0x41 ∷ 0 ∷ 0x30 ∷ 0 ∷ 4 ∷ 0 ∷ 1 ∷ 0x42 ∷ 0 ∷ 0x50 ∷ 0 ∷ 0xC ∷ 0 ∷ 1 ∷ 0 ∷ 0 ∷ 0xFF ∷ 1 ∷ 0x61 ∷ 1 ∷ 1 ∷ 1 ∷ 1 ∷ 0x62 ∷ []);
      site = (0x60 ∷ 0 ∷ 1 ∷ 1 ∷ 0x61 ∷ 0 ∷ 2 ∷ 1 ∷ 0x41 ∷ []);
      rule = 1;
      first = 0;
    } ∷
    -- unknown type is an instance of nothing
    record {
      diagram = (0x10 ∷ 0 ∷ 1 ∷ 1 ∷ 0x30 ∷ 0 ∷ 4 ∷ 1 ∷ 1 ∷ 0x41 ∷ 0 ∷ 0x30 ∷ 0 ∷ 4 ∷ 0 ∷ 1 ∷ 0x42 ∷ 0 ∷ 0x50 ∷ 0 ∷ 0xC ∷ 0 ∷ 1 ∷ 0 ∷ 0 ∷ 0xFF ∷ 1 ∷ 0x61 ∷ 1 ∷ 1 ∷ 1 ∷ 1 ∷ 0x62 ∷ []);
      site = (0x60 ∷ 0 ∷ 1 ∷ 1 ∷ 0x61 ∷ 0 ∷ 2 ∷ 1 ∷ 0x58 ∷ []);
      rule = 1;
      first = 2;
    } ∷
    -- one role, two associations
    record {
      diagram = (0x10 ∷ 0 ∷ 1 ∷ 1 ∷ 0x30 ∷ 0 ∷ 4 ∷ 0 ∷ 1 ∷ 0x4C ∷ 0 ∷ 0x30 ∷ 0 ∷ 4 ∷ 0 ∷ 1 ∷ 0x52 ∷ 0 ∷ 0x30 ∷ 0 ∷ 4 ∷ 0 ∷ 1 ∷ 0x54 ∷ 0 ∷ 0x50 ∷ 0 ∷ 0xC ∷ 0 ∷ 1 ∷ 0 ∷ 0 ∷ 0xFF ∷ 1 ∷ 0x6C ∷ 1 ∷ 0 ∷ 0xFF ∷ 1 ∷ 0x72 ∷ 0x50 ∷ 0 ∷ 0xC ∷ 0 ∷ 1 ∷ 0 ∷ 0 ∷ 0xFF ∷ 1 ∷ 0x6C ∷ 2 ∷ 0 ∷ 0xFF ∷ 1 ∷ 0x72 ∷ []);
      site = (0x60 ∷ 0 ∷ 1 ∷ 2 ∷ 0x61 ∷ 0 ∷ 2 ∷ 1 ∷ 0x4C ∷ 0x61 ∷ 0 ∷ 2 ∷ 1 ∷ 0x52 ∷ 0x63 ∷ 0 ∷ 4 ∷ 0 ∷ 1 ∷ 0x72 ∷ 1 ∷ []);
      rule = 6;
      first = 2;
    } ∷
    -- self whole counts
    record {
      diagram = (0x10 ∷ 0 ∷ 1 ∷ 1 ∷ 0x30 ∷ 0 ∷ 4 ∷ 0 ∷ 1 ∷ 0x4E ∷ 0 ∷ 0x50 ∷ 0 ∷ 0xF ∷ 1 ∷ 1 ∷ 0 ∷ 0 ∷ 0xFF ∷ 2 ∷ 0x75 ∷ 0x70 ∷ 0 ∷ 0 ∷ 0xFF ∷ 3 ∷ 0x73 ∷ 0x75 ∷ 0x62 ∷ []);
      site = (0x60 ∷ 0 ∷ 1 ∷ 2 ∷ 0x61 ∷ 0 ∷ 2 ∷ 1 ∷ 0x4E ∷ 0x61 ∷ 0 ∷ 2 ∷ 1 ∷ 0x4E ∷ 0x63 ∷ 0 ∷ 6 ∷ 0 ∷ 3 ∷ 0x73 ∷ 0x75 ∷ 0x62 ∷ 0 ∷ 0x63 ∷ 0 ∷ 6 ∷ 1 ∷ 3 ∷ 0x73 ∷ 0x75 ∷ 0x62 ∷ 0 ∷ []);
      rule = 9;
      first = 2;
    } ∷
    -- two compositions, two wholes
    record {
      diagram = (0x10 ∷ 0 ∷ 1 ∷ 1 ∷ 0x30 ∷ 0 ∷ 4 ∷ 0 ∷ 1 ∷ 0x46 ∷ 0 ∷ 0x30 ∷ 0 ∷ 4 ∷ 0 ∷ 1 ∷ 0x47 ∷ 0 ∷ 0x30 ∷ 0 ∷ 4 ∷ 0 ∷ 1 ∷ 0x58 ∷ 0 ∷ 0x50 ∷ 0 ∷ 0xC ∷ 1 ∷ 1 ∷ 0 ∷ 0 ∷ 1 ∷ 1 ∷ 0x66 ∷ 2 ∷ 0 ∷ 0xFF ∷ 1 ∷ 0x78 ∷ 0x50 ∷ 0 ∷ 0xC ∷ 1 ∷ 1 ∷ 1 ∷ 0 ∷ 1 ∷ 1 ∷ 0x67 ∷ 2 ∷ 0 ∷ 0xFF ∷ 1 ∷ 0x79 ∷ []);
      site = (0x60 ∷ 0 ∷ 1 ∷ 3 ∷ 0x61 ∷ 0 ∷ 2 ∷ 1 ∷ 0x46 ∷ 0x61 ∷ 0 ∷ 2 ∷ 1 ∷ 0x47 ∷ 0x61 ∷ 0 ∷ 2 ∷ 1 ∷ 0x58 ∷ 0x63 ∷ 0 ∷ 4 ∷ 0 ∷ 1 ∷ 0x78 ∷ 2 ∷ 0x63 ∷ 0 ∷ 4 ∷ 1 ∷ 1 ∷ 0x79 ∷ 2 ∷ []);
      rule = 9;
      first = 2;
    } ∷
    -- two compositions, one whole
    record {
      diagram = (0x10 ∷ 0 ∷ 1 ∷ 1 ∷ 0x30 ∷ 0 ∷ 4 ∷ 0 ∷ 1 ∷ 0x46 ∷ 0 ∷ 0x30 ∷ 0 ∷ 4 ∷ 0 ∷ 1 ∷ 0x58 ∷ 0 ∷ 0x50 ∷ 0 ∷ 0xC ∷ 1 ∷ 1 ∷ 0 ∷ 0 ∷ 1 ∷ 1 ∷ 0x66 ∷ 1 ∷ 0 ∷ 0xFF ∷ 1 ∷ 0x78 ∷ 0x50 ∷ 0 ∷ 0xC ∷ 1 ∷ 1 ∷ 0 ∷ 0 ∷ 1 ∷ 1 ∷ 0x67 ∷ 1 ∷ 0 ∷ 0xFF ∷ 1 ∷ 0x79 ∷ []);
      site = (0x60 ∷ 0 ∷ 1 ∷ 2 ∷ 0x61 ∷ 0 ∷ 2 ∷ 1 ∷ 0x46 ∷ 0x61 ∷ 0 ∷ 2 ∷ 1 ∷ 0x58 ∷ 0x63 ∷ 0 ∷ 4 ∷ 0 ∷ 1 ∷ 0x78 ∷ 1 ∷ 0x63 ∷ 0 ∷ 4 ∷ 0 ∷ 1 ∷ 0x79 ∷ 1 ∷ []);
      rule = 0;
      first = 6;
    } ∷
    -- arrow 2 no link
    record {
      diagram = (0x10 ∷ 0 ∷ 1 ∷ 1 ∷ 0x30 ∷ 0 ∷ 4 ∷ 0 ∷ 1 ∷ 0x4C ∷ 0 ∷ 0x30 ∷ 0 ∷ 4 ∷ 0 ∷ 1 ∷ 0x52 ∷ 0 ∷ 0x50 ∷ 0 ∷ 0xC ∷ 0 ∷ 2 ∷ 0 ∷ 1 ∷ 1 ∷ 1 ∷ 0x6C ∷ 1 ∷ 0 ∷ 1 ∷ 1 ∷ 0x72 ∷ []);
      site = (0x60 ∷ 0 ∷ 1 ∷ 2 ∷ 0x61 ∷ 0 ∷ 2 ∷ 1 ∷ 0x4C ∷ 0x61 ∷ 0 ∷ 2 ∷ 1 ∷ 0x52 ∷ []);
      rule = 6;
      first = 0;
    } ∷
    -- arrow 2, two R on one L
    record {
      diagram = (0x10 ∷ 0 ∷ 1 ∷ 1 ∷ 0x30 ∷ 0 ∷ 4 ∷ 0 ∷ 1 ∷ 0x4C ∷ 0 ∷ 0x30 ∷ 0 ∷ 4 ∷ 0 ∷ 1 ∷ 0x52 ∷ 0 ∷ 0x50 ∷ 0 ∷ 0xC ∷ 0 ∷ 2 ∷ 0 ∷ 1 ∷ 1 ∷ 1 ∷ 0x6C ∷ 1 ∷ 0 ∷ 1 ∷ 1 ∷ 0x72 ∷ []);
      site = (0x60 ∷ 0 ∷ 1 ∷ 3 ∷ 0x61 ∷ 0 ∷ 2 ∷ 1 ∷ 0x4C ∷ 0x61 ∷ 0 ∷ 2 ∷ 1 ∷ 0x52 ∷ 0x61 ∷ 0 ∷ 2 ∷ 1 ∷ 0x52 ∷ 0x63 ∷ 0 ∷ 4 ∷ 1 ∷ 1 ∷ 0x6C ∷ 0 ∷ 0x63 ∷ 0 ∷ 4 ∷ 2 ∷ 1 ∷ 0x6C ∷ 0 ∷ []);
      rule = 7;
      first = 1;
    } ∷
    -- subclass of singleton only
    record {
      diagram = (0x10 ∷ 0 ∷ 1 ∷ 1 ∷ 0x30 ∷ 0 ∷ 4 ∷ 3 ∷ 1 ∷ 0x4D ∷ 0 ∷ 0x30 ∷ 0 ∷ 5 ∷ 0 ∷ 1 ∷ 0x4B ∷ 1 ∷ 0 ∷ []);
      site = (0x60 ∷ 0 ∷ 1 ∷ 1 ∷ 0x61 ∷ 0 ∷ 2 ∷ 1 ∷ 0x4B ∷ []);
      rule = 2;
      first = 0;
    } ∷
    -- arrow 4 composition, links back to two wholes
    record {
      diagram = (0x10 ∷ 0 ∷ 1 ∷ 1 ∷ 0x30 ∷ 0 ∷ 4 ∷ 0 ∷ 1 ∷ 0x57 ∷ 0 ∷ 0x30 ∷ 0 ∷ 4 ∷ 0 ∷ 1 ∷ 0x58 ∷ 0 ∷ 0x50 ∷ 0 ∷ 0xC ∷ 1 ∷ 4 ∷ 0 ∷ 0 ∷ 0xFF ∷ 1 ∷ 0x77 ∷ 1 ∷ 0 ∷ 0xFF ∷ 1 ∷ 0x78 ∷ []);
      site = (0x60 ∷ 0 ∷ 1 ∷ 3 ∷ 0x61 ∷ 0 ∷ 2 ∷ 1 ∷ 0x57 ∷ 0x61 ∷ 0 ∷ 2 ∷ 1 ∷ 0x57 ∷ 0x61 ∷ 0 ∷ 2 ∷ 1 ∷ 0x58 ∷ 0x63 ∷ 0 ∷ 4 ∷ 0 ∷ 1 ∷ 0x78 ∷ 2 ∷ 0x63 ∷ 0 ∷ 4 ∷ 2 ∷ 1 ∷ 0x77 ∷ 0 ∷ 0x63 ∷ 0 ∷ 4 ∷ 2 ∷ 1 ∷ 0x77 ∷ 1 ∷ []);
      rule = 8;
      first = 2;
    } ∷
    -- same role both sides, one way
    record {
      diagram = (0x10 ∷ 0 ∷ 1 ∷ 1 ∷ 0x30 ∷ 0 ∷ 4 ∷ 0 ∷ 1 ∷ 0x4E ∷ 0 ∷ 0x50 ∷ 0 ∷ 0xC ∷ 0 ∷ 3 ∷ 0 ∷ 0 ∷ 0xFF ∷ 1 ∷ 0x72 ∷ 0 ∷ 0 ∷ 0xFF ∷ 1 ∷ 0x72 ∷ []);
      site = (0x60 ∷ 0 ∷ 1 ∷ 2 ∷ 0x61 ∷ 0 ∷ 2 ∷ 1 ∷ 0x4E ∷ 0x61 ∷ 0 ∷ 2 ∷ 1 ∷ 0x4E ∷ 0x63 ∷ 0 ∷ 4 ∷ 0 ∷ 1 ∷ 0x72 ∷ 1 ∷ []);
      rule = 8;
      first = 2;
    } ∷
    -- rule 7 counts instances of L only
    record {
      diagram = (0x10 ∷ 0 ∷ 1 ∷ 1 ∷ 0x30 ∷ 0 ∷ 4 ∷ 0 ∷ 1 ∷ 0x4C ∷ 0 ∷ 0x30 ∷ 0 ∷ 4 ∷ 0 ∷ 1 ∷ 0x52 ∷ 0 ∷ 0x30 ∷ 0 ∷ 4 ∷ 0 ∷ 1 ∷ 0x58 ∷ 0 ∷ 0x50 ∷ 0 ∷ 0xC ∷ 0 ∷ 1 ∷ 0 ∷ 0 ∷ 1 ∷ 1 ∷ 0x6C ∷ 1 ∷ 0 ∷ 0xFF ∷ 1 ∷ 0x72 ∷ 0x50 ∷ 0 ∷ 0xC ∷ 0 ∷ 1 ∷ 2 ∷ 0 ∷ 0xFF ∷ 1 ∷ 0x71 ∷ 1 ∷ 0 ∷ 0xFF ∷ 1 ∷ 0x72 ∷ []);
      site = (0x60 ∷ 0 ∷ 1 ∷ 3 ∷ 0x61 ∷ 0 ∷ 2 ∷ 1 ∷ 0x4C ∷ 0x61 ∷ 0 ∷ 2 ∷ 1 ∷ 0x52 ∷ 0x61 ∷ 0 ∷ 2 ∷ 1 ∷ 0x58 ∷ 0x63 ∷ 0 ∷ 4 ∷ 0 ∷ 1 ∷ 0x72 ∷ 1 ∷ 0x63 ∷ 0 ∷ 4 ∷ 2 ∷ 1 ∷ 0x72 ∷ 1 ∷ []);
      rule = 0;
      first = 4;
    } ∷
    -- rule 9 counts composition ends only
    record {
      diagram = (0x10 ∷ 0 ∷ 1 ∷ 1 ∷ 0x30 ∷ 0 ∷ 4 ∷ 0 ∷ 1 ∷ 0x4C ∷ 0 ∷ 0x30 ∷ 0 ∷ 4 ∷ 0 ∷ 1 ∷ 0x52 ∷ 0 ∷ 0x30 ∷ 0 ∷ 4 ∷ 0 ∷ 1 ∷ 0x58 ∷ 0 ∷ 0x50 ∷ 0 ∷ 0xC ∷ 1 ∷ 1 ∷ 0 ∷ 0 ∷ 0xFF ∷ 1 ∷ 0x6C ∷ 1 ∷ 0 ∷ 0xFF ∷ 1 ∷ 0x72 ∷ 0x50 ∷ 0 ∷ 0xC ∷ 0 ∷ 1 ∷ 2 ∷ 0 ∷ 0xFF ∷ 1 ∷ 0x71 ∷ 1 ∷ 0 ∷ 0xFF ∷ 1 ∷ 0x72 ∷ []);
      site = (0x60 ∷ 0 ∷ 1 ∷ 3 ∷ 0x61 ∷ 0 ∷ 2 ∷ 1 ∷ 0x4C ∷ 0x61 ∷ 0 ∷ 2 ∷ 1 ∷ 0x52 ∷ 0x61 ∷ 0 ∷ 2 ∷ 1 ∷ 0x58 ∷ 0x63 ∷ 0 ∷ 4 ∷ 0 ∷ 1 ∷ 0x72 ∷ 1 ∷ 0x63 ∷ 0 ∷ 4 ∷ 2 ∷ 1 ∷ 0x72 ∷ 1 ∷ []);
      rule = 0;
      first = 5;
    } ∷
    -- lowest rule, not first object (object 0 breaks 7, object 1 breaks 1)
    record {
      diagram = file_p;
      site = (0x60 ∷ 0 ∷ 1 ∷ 2 ∷ 0x61 ∷ 0 ∷ 5 ∷ 4 ∷ 0x43 ∷ 0x61 ∷ 0x72 ∷ 0x64 ∷ 0x61 ∷ 0 ∷ 5 ∷ 4 ∷ 0x4E ∷ 0x6F ∷ 0x70 ∷ 0x65 ∷ []);
      rule = 1;
      first = 1;
    } ∷
    -- role present but not carried (shelf, arrow 1)
    record {
      diagram = file_p;
      site = (0x60 ∷ 0 ∷ 1 ∷ 2 ∷ 0x61 ∷ 0 ∷ 6 ∷ 5 ∷ 0x53 ∷ 0x68 ∷ 0x65 ∷ 0x6C ∷ 0x66 ∷ 0x61 ∷ 0 ∷ 5 ∷ 4 ∷ 0x43 ∷ 0x61 ∷ 0x72 ∷ 0x64 ∷ 0x63 ∷ 0 ∷ 8 ∷ 0 ∷ 5 ∷ 0x63 ∷ 0x61 ∷ 0x72 ∷ 0x64 ∷ 0x73 ∷ 1 ∷ 0x63 ∷ 0 ∷ 8 ∷ 1 ∷ 5 ∷ 0x73 ∷ 0x68 ∷ 0x65 ∷ 0x6C ∷ 0x66 ∷ 0 ∷ []);
      rule = 5;
      first = 3;
    } ∷
    -- arrow 3 has no rule 7
    record {
      diagram = file_l_p3;
      site = (0x60 ∷ 0 ∷ 1 ∷ 3 ∷ 0x61 ∷ 0 ∷ 5 ∷ 4 ∷ 0x4C ∷ 0x69 ∷ 0x6E ∷ 0x65 ∷ 0x61 ∷ 0 ∷ 5 ∷ 4 ∷ 0x4C ∷ 0x69 ∷ 0x6E ∷ 0x65 ∷ 0x61 ∷ 0 ∷ 5 ∷ 4 ∷ 0x50 ∷ 0x6F ∷ 0x72 ∷ 0x74 ∷ 0x63 ∷ 0 ∷ 7 ∷ 0 ∷ 4 ∷ 0x70 ∷ 0x6F ∷ 0x72 ∷ 0x74 ∷ 2 ∷ 0x63 ∷ 0 ∷ 7 ∷ 1 ∷ 4 ∷ 0x70 ∷ 0x6F ∷ 0x72 ∷ 0x74 ∷ 2 ∷ []);
      rule = 8;
      first = 2;
    } ∷
    -- arrow 4 has no rule 7
    record {
      diagram = file_l_p4;
      site = (0x60 ∷ 0 ∷ 1 ∷ 3 ∷ 0x61 ∷ 0 ∷ 5 ∷ 4 ∷ 0x4C ∷ 0x69 ∷ 0x6E ∷ 0x65 ∷ 0x61 ∷ 0 ∷ 5 ∷ 4 ∷ 0x4C ∷ 0x69 ∷ 0x6E ∷ 0x65 ∷ 0x61 ∷ 0 ∷ 5 ∷ 4 ∷ 0x50 ∷ 0x6F ∷ 0x72 ∷ 0x74 ∷ 0x63 ∷ 0 ∷ 7 ∷ 0 ∷ 4 ∷ 0x70 ∷ 0x6F ∷ 0x72 ∷ 0x74 ∷ 2 ∷ 0x63 ∷ 0 ∷ 7 ∷ 1 ∷ 4 ∷ 0x70 ∷ 0x6F ∷ 0x72 ∷ 0x74 ∷ 2 ∷ []);
      rule = 8;
      first = 2;
    } ∷
    -- unnamed value of another plain type
    record {
      diagram = (0x10 ∷ 0 ∷ 1 ∷ 1 ∷ 0x20 ∷ 0 ∷ 3 ∷ 1 ∷ 0x56 ∷ 0 ∷ 0x20 ∷ 0 ∷ 3 ∷ 1 ∷ 0x57 ∷ 0 ∷ 0x30 ∷ 0 ∷ 4 ∷ 0 ∷ 1 ∷ 0x41 ∷ 0 ∷ 0x40 ∷ 0 ∷ 4 ∷ 0 ∷ 1 ∷ 0x61 ∷ 0 ∷ []);
      site = (0x60 ∷ 0 ∷ 1 ∷ 1 ∷ 0x61 ∷ 0 ∷ 2 ∷ 1 ∷ 0x41 ∷ 0x62 ∷ 0 ∷ 6 ∷ 0 ∷ 1 ∷ 0x61 ∷ 1 ∷ 0x57 ∷ 0 ∷ []);
      rule = 4;
      first = 0;
    } ∷
    -- attribute of a grandparent
    record {
      diagram = (0x10 ∷ 0 ∷ 1 ∷ 1 ∷ 0x20 ∷ 0 ∷ 3 ∷ 1 ∷ 0x56 ∷ 0 ∷ 0x30 ∷ 0 ∷ 4 ∷ 2 ∷ 1 ∷ 0x49 ∷ 0 ∷ 0x30 ∷ 0 ∷ 5 ∷ 0 ∷ 1 ∷ 0x42 ∷ 1 ∷ 0 ∷ 0x30 ∷ 0 ∷ 5 ∷ 0 ∷ 1 ∷ 0x43 ∷ 1 ∷ 1 ∷ 0x40 ∷ 0 ∷ 4 ∷ 0 ∷ 1 ∷ 0x61 ∷ 0 ∷ []);
      site = (0x60 ∷ 0 ∷ 1 ∷ 1 ∷ 0x61 ∷ 0 ∷ 2 ∷ 1 ∷ 0x43 ∷ 0x62 ∷ 0 ∷ 6 ∷ 0 ∷ 1 ∷ 0x61 ∷ 1 ∷ 0x56 ∷ 0 ∷ []);
      rule = 0;
      first = 0;
    } ∷
    -- attribute of a grandparent missing
    record {
      diagram = (0x10 ∷ 0 ∷ 1 ∷ 1 ∷ 0x20 ∷ 0 ∷ 3 ∷ 1 ∷ 0x56 ∷ 0 ∷ 0x30 ∷ 0 ∷ 4 ∷ 2 ∷ 1 ∷ 0x49 ∷ 0 ∷ 0x30 ∷ 0 ∷ 5 ∷ 0 ∷ 1 ∷ 0x42 ∷ 1 ∷ 0 ∷ 0x30 ∷ 0 ∷ 5 ∷ 0 ∷ 1 ∷ 0x43 ∷ 1 ∷ 1 ∷ 0x40 ∷ 0 ∷ 4 ∷ 0 ∷ 1 ∷ 0x61 ∷ 0 ∷ []);
      site = (0x60 ∷ 0 ∷ 1 ∷ 1 ∷ 0x61 ∷ 0 ∷ 2 ∷ 1 ∷ 0x43 ∷ []);
      rule = 3;
      first = 0;
    } ∷
    -- 1 before 2
    record {
      diagram = file_z;
      site = (0x60 ∷ 0 ∷ 1 ∷ 1 ∷ 0x61 ∷ 0 ∷ 2 ∷ 1 ∷ 0x58 ∷ []);
      rule = 1;
      first = 0;
    } ∷
    -- 2 before 3
    record {
      diagram = (0x10 ∷ 0 ∷ 1 ∷ 1 ∷ 0x20 ∷ 0 ∷ 3 ∷ 1 ∷ 0x56 ∷ 0 ∷ 0x30 ∷ 0 ∷ 4 ∷ 3 ∷ 1 ∷ 0x4D ∷ 0 ∷ 0x30 ∷ 0 ∷ 4 ∷ 0 ∷ 1 ∷ 0x41 ∷ 0 ∷ 0x40 ∷ 0 ∷ 4 ∷ 1 ∷ 1 ∷ 0x61 ∷ 0 ∷ []);
      site = (0x60 ∷ 0 ∷ 1 ∷ 1 ∷ 0x61 ∷ 0 ∷ 2 ∷ 1 ∷ 0x41 ∷ []);
      rule = 2;
      first = 0;
    } ∷
    -- 3 before 4
    record {
      diagram = (0x10 ∷ 0 ∷ 1 ∷ 1 ∷ 0x20 ∷ 0 ∷ 3 ∷ 1 ∷ 0x56 ∷ 0 ∷ 0x20 ∷ 0 ∷ 3 ∷ 1 ∷ 0x57 ∷ 0 ∷ 0x30 ∷ 0 ∷ 4 ∷ 0 ∷ 1 ∷ 0x41 ∷ 0 ∷ 0x40 ∷ 0 ∷ 4 ∷ 0 ∷ 1 ∷ 0x61 ∷ 0 ∷ 0x40 ∷ 0 ∷ 4 ∷ 0 ∷ 1 ∷ 0x62 ∷ 0 ∷ []);
      site = (0x60 ∷ 0 ∷ 1 ∷ 1 ∷ 0x61 ∷ 0 ∷ 2 ∷ 1 ∷ 0x41 ∷ 0x62 ∷ 0 ∷ 6 ∷ 0 ∷ 1 ∷ 0x61 ∷ 1 ∷ 0x57 ∷ 0 ∷ []);
      rule = 3;
      first = 0;
    } ∷
    -- 4 before 5
    record {
      diagram = (0x10 ∷ 0 ∷ 1 ∷ 1 ∷ 0x20 ∷ 0 ∷ 3 ∷ 1 ∷ 0x56 ∷ 0 ∷ 0x20 ∷ 0 ∷ 3 ∷ 1 ∷ 0x57 ∷ 0 ∷ 0x30 ∷ 0 ∷ 4 ∷ 0 ∷ 1 ∷ 0x41 ∷ 0 ∷ 0x40 ∷ 0 ∷ 4 ∷ 0 ∷ 1 ∷ 0x61 ∷ 0 ∷ []);
      site = (0x60 ∷ 0 ∷ 1 ∷ 1 ∷ 0x61 ∷ 0 ∷ 2 ∷ 1 ∷ 0x41 ∷ 0x62 ∷ 0 ∷ 6 ∷ 0 ∷ 1 ∷ 0x61 ∷ 1 ∷ 0x57 ∷ 0 ∷ 0x63 ∷ 0 ∷ 4 ∷ 0 ∷ 1 ∷ 0x72 ∷ 0 ∷ []);
      rule = 4;
      first = 0;
    } ∷
    -- 5 before 6
    record {
      diagram = (0x10 ∷ 0 ∷ 1 ∷ 1 ∷ 0x30 ∷ 0 ∷ 4 ∷ 0 ∷ 1 ∷ 0x4C ∷ 0 ∷ 0x30 ∷ 0 ∷ 4 ∷ 0 ∷ 1 ∷ 0x52 ∷ 0 ∷ 0x50 ∷ 0 ∷ 0xC ∷ 0 ∷ 1 ∷ 0 ∷ 0 ∷ 0xFF ∷ 1 ∷ 0x6C ∷ 1 ∷ 1 ∷ 1 ∷ 1 ∷ 0x72 ∷ []);
      site = (0x60 ∷ 0 ∷ 1 ∷ 2 ∷ 0x61 ∷ 0 ∷ 2 ∷ 1 ∷ 0x4C ∷ 0x61 ∷ 0 ∷ 2 ∷ 1 ∷ 0x52 ∷ 0x63 ∷ 0 ∷ 4 ∷ 1 ∷ 1 ∷ 0x72 ∷ 0 ∷ []);
      rule = 5;
      first = 0;
    } ∷
    -- 6 before 7
    record {
      diagram = (0x10 ∷ 0 ∷ 1 ∷ 1 ∷ 0x30 ∷ 0 ∷ 4 ∷ 0 ∷ 1 ∷ 0x4C ∷ 0 ∷ 0x30 ∷ 0 ∷ 4 ∷ 0 ∷ 1 ∷ 0x52 ∷ 0 ∷ 0x50 ∷ 0 ∷ 0xC ∷ 0 ∷ 1 ∷ 0 ∷ 1 ∷ 1 ∷ 1 ∷ 0x6C ∷ 1 ∷ 1 ∷ 1 ∷ 1 ∷ 0x72 ∷ []);
      site = (0x60 ∷ 0 ∷ 1 ∷ 2 ∷ 0x61 ∷ 0 ∷ 2 ∷ 1 ∷ 0x4C ∷ 0x61 ∷ 0 ∷ 2 ∷ 1 ∷ 0x52 ∷ []);
      rule = 6;
      first = 0;
    } ∷
    -- 7 before 8
    record {
      diagram = (0x10 ∷ 0 ∷ 1 ∷ 1 ∷ 0x30 ∷ 0 ∷ 4 ∷ 0 ∷ 1 ∷ 0x4C ∷ 0 ∷ 0x30 ∷ 0 ∷ 4 ∷ 0 ∷ 1 ∷ 0x52 ∷ 0 ∷ 0x50 ∷ 0 ∷ 0xC ∷ 0 ∷ 1 ∷ 0 ∷ 1 ∷ 1 ∷ 1 ∷ 0x6C ∷ 1 ∷ 0 ∷ 0xFF ∷ 1 ∷ 0x72 ∷ 0x50 ∷ 0 ∷ 0xC ∷ 0 ∷ 3 ∷ 0 ∷ 0 ∷ 0xFF ∷ 1 ∷ 0x78 ∷ 1 ∷ 0 ∷ 0xFF ∷ 1 ∷ 0x79 ∷ []);
      site = (0x60 ∷ 0 ∷ 1 ∷ 2 ∷ 0x61 ∷ 0 ∷ 2 ∷ 1 ∷ 0x4C ∷ 0x61 ∷ 0 ∷ 2 ∷ 1 ∷ 0x52 ∷ 0x63 ∷ 0 ∷ 4 ∷ 0 ∷ 1 ∷ 0x79 ∷ 1 ∷ []);
      rule = 7;
      first = 1;
    } ∷
    -- 8 before 9
    record {
      diagram = (0x10 ∷ 0 ∷ 1 ∷ 1 ∷ 0x30 ∷ 0 ∷ 4 ∷ 0 ∷ 1 ∷ 0x4C ∷ 0 ∷ 0x30 ∷ 0 ∷ 4 ∷ 0 ∷ 1 ∷ 0x52 ∷ 0 ∷ 0x50 ∷ 0 ∷ 0xC ∷ 1 ∷ 3 ∷ 0 ∷ 0 ∷ 0xFF ∷ 1 ∷ 0x6C ∷ 1 ∷ 0 ∷ 0xFF ∷ 1 ∷ 0x72 ∷ []);
      site = (0x60 ∷ 0 ∷ 1 ∷ 3 ∷ 0x61 ∷ 0 ∷ 2 ∷ 1 ∷ 0x4C ∷ 0x61 ∷ 0 ∷ 2 ∷ 1 ∷ 0x4C ∷ 0x61 ∷ 0 ∷ 2 ∷ 1 ∷ 0x52 ∷ 0x63 ∷ 0 ∷ 4 ∷ 0 ∷ 1 ∷ 0x72 ∷ 2 ∷ 0x63 ∷ 0 ∷ 4 ∷ 1 ∷ 1 ∷ 0x72 ∷ 2 ∷ []);
      rule = 8;
      first = 2;
    } ∷
    -- kind 6 counts wholes over all compositions
    record {
      diagram = (0x10 ∷ 0 ∷ 1 ∷ 1 ∷ 0x30 ∷ 0 ∷ 4 ∷ 0 ∷ 1 ∷ 0x46 ∷ 0 ∷ 0x30 ∷ 0 ∷ 4 ∷ 0 ∷ 1 ∷ 0x47 ∷ 0 ∷ 0x30 ∷ 0 ∷ 4 ∷ 0 ∷ 1 ∷ 0x58 ∷ 0 ∷ 0x50 ∷ 0 ∷ 0xC ∷ 1 ∷ 1 ∷ 0 ∷ 0 ∷ 0xFF ∷ 1 ∷ 0x66 ∷ 2 ∷ 0 ∷ 0xFF ∷ 1 ∷ 0x78 ∷ 0x50 ∷ 0 ∷ 0xC ∷ 1 ∷ 1 ∷ 1 ∷ 0 ∷ 0xFF ∷ 1 ∷ 0x67 ∷ 2 ∷ 0 ∷ 0xFF ∷ 1 ∷ 0x79 ∷ []);
      site = (0x60 ∷ 0 ∷ 1 ∷ 3 ∷ 0x61 ∷ 0 ∷ 2 ∷ 1 ∷ 0x46 ∷ 0x61 ∷ 0 ∷ 2 ∷ 1 ∷ 0x47 ∷ 0x61 ∷ 0 ∷ 2 ∷ 1 ∷ 0x58 ∷ 0x63 ∷ 0 ∷ 4 ∷ 0 ∷ 1 ∷ 0x78 ∷ 2 ∷ 0x63 ∷ 0 ∷ 4 ∷ 1 ∷ 1 ∷ 0x79 ∷ 2 ∷ []);
      rule = 9;
      first = 2;
    } ∷
    -- instance by an interface of an interface
    record {
      diagram = (0x10 ∷ 0 ∷ 1 ∷ 1 ∷ 0x30 ∷ 0 ∷ 4 ∷ 2 ∷ 1 ∷ 0x49 ∷ 0 ∷ 0x30 ∷ 0 ∷ 5 ∷ 2 ∷ 1 ∷ 0x4A ∷ 1 ∷ 0 ∷ 0x30 ∷ 0 ∷ 5 ∷ 0 ∷ 1 ∷ 0x41 ∷ 1 ∷ 1 ∷ 0x50 ∷ 0 ∷ 0xC ∷ 0 ∷ 1 ∷ 0 ∷ 0 ∷ 0xFF ∷ 1 ∷ 0x6C ∷ 0 ∷ 1 ∷ 1 ∷ 1 ∷ 0x72 ∷ []);
      site = (0x60 ∷ 0 ∷ 1 ∷ 1 ∷ 0x61 ∷ 0 ∷ 2 ∷ 1 ∷ 0x41 ∷ []);
      rule = 6;
      first = 0;
    } ∷
    -- wholes by r2 links only: the role back is carried by another association
    record {
      diagram = (0x10 ∷ 0 ∷ 1 ∷ 1 ∷ 0x30 ∷ 0 ∷ 4 ∷ 0 ∷ 1 ∷ 0x4C ∷ 0 ∷ 0x30 ∷ 0 ∷ 4 ∷ 0 ∷ 1 ∷ 0x52 ∷ 0 ∷ 0x50 ∷ 0 ∷ 0xC ∷ 1 ∷ 1 ∷ 0 ∷ 0 ∷ 0xFF ∷ 1 ∷ 0x78 ∷ 1 ∷ 0 ∷ 0xFF ∷ 1 ∷ 0x63 ∷ 0x50 ∷ 0 ∷ 0xC ∷ 0 ∷ 1 ∷ 1 ∷ 0 ∷ 0xFF ∷ 1 ∷ 0x79 ∷ 0 ∷ 0 ∷ 0xFF ∷ 1 ∷ 0x78 ∷ []);
      site = (0x60 ∷ 0 ∷ 1 ∷ 3 ∷ 0x61 ∷ 0 ∷ 2 ∷ 1 ∷ 0x4C ∷ 0x61 ∷ 0 ∷ 2 ∷ 1 ∷ 0x4C ∷ 0x61 ∷ 0 ∷ 2 ∷ 1 ∷ 0x52 ∷ 0x63 ∷ 0 ∷ 4 ∷ 0 ∷ 1 ∷ 0x63 ∷ 2 ∷ 0x63 ∷ 0 ∷ 4 ∷ 2 ∷ 1 ∷ 0x78 ∷ 1 ∷ []);
      rule = 0;
      first = 5;
    } ∷
    -- the same where it is carried by none (evaluate)
    record {
      diagram = file_p;
      site = (0x60 ∷ 0 ∷ 1 ∷ 3 ∷ 0x61 ∷ 0 ∷ 6 ∷ 5 ∷ 0x53 ∷ 0x68 ∷ 0x65 ∷ 0x6C ∷ 0x66 ∷ 0x61 ∷ 0 ∷ 6 ∷ 5 ∷ 0x53 ∷ 0x68 ∷ 0x65 ∷ 0x6C ∷ 0x66 ∷ 0x61 ∷ 0 ∷ 5 ∷ 4 ∷ 0x43 ∷ 0x61 ∷ 0x72 ∷ 0x64 ∷ 0x63 ∷ 0 ∷ 8 ∷ 0 ∷ 5 ∷ 0x63 ∷ 0x61 ∷ 0x72 ∷ 0x64 ∷ 0x73 ∷ 2 ∷ 0x63 ∷ 0 ∷ 8 ∷ 2 ∷ 5 ∷ 0x73 ∷ 0x68 ∷ 0x65 ∷ 0x6C ∷ 0x66 ∷ 0 ∷ 0x63 ∷ 0 ∷ 8 ∷ 2 ∷ 5 ∷ 0x73 ∷ 0x68 ∷ 0x65 ∷ 0x6C ∷ 0x66 ∷ 1 ∷ []);
      rule = 5;
      first = 3;
    } ∷
    []

pub rule-cases-right : cases_right rule_cases ≡ true
unfolding cases_right
rule-cases-right = refl
