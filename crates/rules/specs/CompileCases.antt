-- Compiled records, through bytes: which come, in which order, with which limits.
-- Assumes nothing.
use Rattle.std.specs.Prelude.{ℕ, Bool, ◌&&◌, false, true, List, [], ◌++◌, ◌∷◌, ◌≡◌, refl, eqb, replicate, take}
use Rattle.laws.specs.Lists.{joined}
use Rattle.files.specs.Diagram.{Diagram, is_composition}
use Rattle.files.specs.FileCases.{diagram_file}
use Rattle.files.specs.Refusal.{Answer, accepted, refused}
use Rattle.rules.specs.Compile.{compile, compiled_bytes, entries_of, entry_for, limited, row_of}
use Rattle.rules.specs.Marked.{file_e, file_l_p3, file_l_p4, file_p, file_s}

-- a diagram file and the bytes of its compiled records, without the zeros behind them
pub record CompileCase : Type 0 where
  pub diagram : List ℕ
  pub entries : List ℕ

unfoldable pub same_bytes : List ℕ → List ℕ → Bool
same_bytes [] [] = true
same_bytes [] (y ∷ ys) = false
same_bytes (x ∷ xs) [] = false
same_bytes (x ∷ xs) (y ∷ ys) = eqb x y && same_bytes xs ys

unfoldable pub compiled_of : Answer Diagram → List ℕ
unfolding joined limited entry_for row_of entries_of compile compiled_bytes is_composition
compiled_of (refused n) = []
compiled_of (accepted d) = compiled_bytes d

-- zeros fill the list behind the entries
unfoldable pub compiles_to : Answer Diagram → List ℕ → Bool
unfolding compiled_of same_bytes
compiles_to d entries = same_bytes (compiled_of d) (take 448 (entries ++ replicate 448 0))

unfoldable pub compiles_right : List CompileCase → Bool
unfolding diagram_file compiles_to
compiles_right [] = true
compiles_right (c ∷ cs) = compiles_to (diagram_file c.diagram) c.entries && compiles_right cs

abbrev pub compile_cases : List CompileCase
compile_cases =
    -- P
    record {
      diagram = file_p;
      entries = (1 ∷ 0 ∷ 0 ∷ 0 ∷ 0 ∷ 0 ∷ 4 ∷ 3 ∷ 0 ∷ 0 ∷ 0 ∷ 1 ∷ 0 ∷ 1 ∷ 6 ∷ 0 ∷ 0 ∷ 0 ∷ 0 ∷ 0 ∷ 0 ∷ []);
    } ∷
    -- S
    record {
      diagram = file_s;
      entries = (1 ∷ 0 ∷ 0 ∷ 0 ∷ 0 ∷ 0 ∷ 4 ∷ 3 ∷ 0 ∷ 0 ∷ 0 ∷ 0 ∷ 0 ∷ 1 ∷ 6 ∷ 0 ∷ 0 ∷ 0 ∷ 0 ∷ 0 ∷ 0 ∷ []);
    } ∷
    -- E
    record {
      diagram = file_e;
      entries = [];
    } ∷
    -- Line and Port, ↔
    record {
      diagram = file_l_p3;
      entries = (1 ∷ 0 ∷ 0 ∷ 0 ∷ 0 ∷ 0 ∷ 1 ∷ 1 ∷ 0 ∷ 1 ∷ 0 ∷ 0 ∷ 0 ∷ 1 ∷ 5 ∷ 0 ∷ 0 ∷ 0 ∷ 0 ∷ 0 ∷ 0 ∷ []);
    } ∷
    -- Line and Port, no arrowhead
    record {
      diagram = file_l_p4;
      entries = (1 ∷ 0 ∷ 0 ∷ 0 ∷ 0 ∷ 0 ∷ 1 ∷ 1 ∷ 0 ∷ 1 ∷ 0 ∷ 0 ∷ 0 ∷ 1 ∷ 5 ∷ 0 ∷ 0 ∷ 0 ∷ 0 ∷ 0 ∷ 0 ∷ []);
    } ∷
    -- A [2..*] l → r [3..4] B
    record {
      diagram = (0x10 ∷ 0 ∷ 1 ∷ 1 ∷ 0x30 ∷ 0 ∷ 4 ∷ 0 ∷ 1 ∷ 0x41 ∷ 0 ∷ 0x30 ∷ 0 ∷ 4 ∷ 0 ∷ 1 ∷ 0x42 ∷ 0 ∷ 0x50 ∷ 0 ∷ 0xC ∷ 0 ∷ 1 ∷ 0 ∷ 2 ∷ 0xFF ∷ 1 ∷ 0x6C ∷ 1 ∷ 3 ∷ 4 ∷ 1 ∷ 0x72 ∷ []);
      entries = (1 ∷ 0 ∷ 0 ∷ 0 ∷ 3 ∷ 0 ∷ 4 ∷ 4 ∷ 0 ∷ 0 ∷ 0 ∷ 2 ∷ 0 ∷ 0 ∷ []);
    } ∷
    -- A [2..*] l ← r [3..4] B
    record {
      diagram = (0x10 ∷ 0 ∷ 1 ∷ 1 ∷ 0x30 ∷ 0 ∷ 4 ∷ 0 ∷ 1 ∷ 0x41 ∷ 0 ∷ 0x30 ∷ 0 ∷ 4 ∷ 0 ∷ 1 ∷ 0x42 ∷ 0 ∷ 0x50 ∷ 0 ∷ 0xC ∷ 0 ∷ 2 ∷ 0 ∷ 2 ∷ 0xFF ∷ 1 ∷ 0x6C ∷ 1 ∷ 3 ∷ 4 ∷ 1 ∷ 0x72 ∷ []);
      entries = (2 ∷ 0 ∷ 1 ∷ 0 ∷ 2 ∷ 0 ∷ 0 ∷ 3 ∷ 0 ∷ 1 ∷ 0 ∷ 3 ∷ 0 ∷ 4 ∷ []);
    } ∷
    -- A [2..*] l ↔ r [3..4] B
    record {
      diagram = (0x10 ∷ 0 ∷ 1 ∷ 1 ∷ 0x30 ∷ 0 ∷ 4 ∷ 0 ∷ 1 ∷ 0x41 ∷ 0 ∷ 0x30 ∷ 0 ∷ 4 ∷ 0 ∷ 1 ∷ 0x42 ∷ 0 ∷ 0x50 ∷ 0 ∷ 0xC ∷ 0 ∷ 3 ∷ 0 ∷ 2 ∷ 0xFF ∷ 1 ∷ 0x6C ∷ 1 ∷ 3 ∷ 4 ∷ 1 ∷ 0x72 ∷ []);
      entries = (1 ∷ 0 ∷ 0 ∷ 0 ∷ 3 ∷ 0 ∷ 4 ∷ 2 ∷ 0 ∷ 1 ∷ 0 ∷ 2 ∷ 0 ∷ 0 ∷ 5 ∷ 0 ∷ 0 ∷ 0 ∷ 0 ∷ 0 ∷ 0 ∷ []);
    } ∷
    -- A [1..1] l ↔ r [0..*] B, composition
    record {
      diagram = (0x10 ∷ 0 ∷ 1 ∷ 1 ∷ 0x30 ∷ 0 ∷ 4 ∷ 0 ∷ 1 ∷ 0x41 ∷ 0 ∷ 0x30 ∷ 0 ∷ 4 ∷ 0 ∷ 1 ∷ 0x42 ∷ 0 ∷ 0x50 ∷ 0 ∷ 0xC ∷ 1 ∷ 3 ∷ 0 ∷ 1 ∷ 1 ∷ 1 ∷ 0x6C ∷ 1 ∷ 0 ∷ 0xFF ∷ 1 ∷ 0x72 ∷ []);
      entries = (2 ∷ 0 ∷ 0 ∷ 0 ∷ 0 ∷ 0 ∷ 0 ∷ 1 ∷ 0 ∷ 1 ∷ 0 ∷ 1 ∷ 0 ∷ 1 ∷ 5 ∷ 0 ∷ 0 ∷ 0 ∷ 0 ∷ 0 ∷ 0 ∷ 6 ∷ 0 ∷ 0 ∷ 0 ∷ 0 ∷ 0 ∷ 0 ∷ []);
    } ∷
    -- A [2..*] l -- r [3..4] B
    record {
      diagram = (0x10 ∷ 0 ∷ 1 ∷ 1 ∷ 0x30 ∷ 0 ∷ 4 ∷ 0 ∷ 1 ∷ 0x41 ∷ 0 ∷ 0x30 ∷ 0 ∷ 4 ∷ 0 ∷ 1 ∷ 0x42 ∷ 0 ∷ 0x50 ∷ 0 ∷ 0xC ∷ 0 ∷ 4 ∷ 0 ∷ 2 ∷ 0xFF ∷ 1 ∷ 0x6C ∷ 1 ∷ 3 ∷ 4 ∷ 1 ∷ 0x72 ∷ []);
      entries = (1 ∷ 0 ∷ 0 ∷ 0 ∷ 3 ∷ 0 ∷ 4 ∷ 2 ∷ 0 ∷ 1 ∷ 0 ∷ 2 ∷ 0 ∷ 0 ∷ 5 ∷ 0 ∷ 0 ∷ 0 ∷ 0 ∷ 0 ∷ 0 ∷ []);
    } ∷
    -- A [1..1] l -- r [0..*] B, composition
    record {
      diagram = (0x10 ∷ 0 ∷ 1 ∷ 1 ∷ 0x30 ∷ 0 ∷ 4 ∷ 0 ∷ 1 ∷ 0x41 ∷ 0 ∷ 0x30 ∷ 0 ∷ 4 ∷ 0 ∷ 1 ∷ 0x42 ∷ 0 ∷ 0x50 ∷ 0 ∷ 0xC ∷ 1 ∷ 4 ∷ 0 ∷ 1 ∷ 1 ∷ 1 ∷ 0x6C ∷ 1 ∷ 0 ∷ 0xFF ∷ 1 ∷ 0x72 ∷ []);
      entries = (2 ∷ 0 ∷ 0 ∷ 0 ∷ 0 ∷ 0 ∷ 0 ∷ 1 ∷ 0 ∷ 1 ∷ 0 ∷ 1 ∷ 0 ∷ 1 ∷ 5 ∷ 0 ∷ 0 ∷ 0 ∷ 0 ∷ 0 ∷ 0 ∷ 6 ∷ 0 ∷ 0 ∷ 0 ∷ 0 ∷ 0 ∷ 0 ∷ []);
    } ∷
    -- class A, sixteen compositions A [0..*] l -- r [0..*] A: all 64 entries
    record {
      diagram = 0x10 ∷ 0 ∷ 1 ∷ 1 ∷ 0x30 ∷ 0 ∷ 4 ∷ 0 ∷ 1 ∷ 0x41 ∷ 0 ∷
          joined (λ a. 0x50 ∷ 0 ∷ 0xC ∷ 1 ∷ 4 ∷ 0 ∷ 0 ∷ 0xFF ∷ 1 ∷ 0x6C ∷ 0 ∷ 0 ∷ 0xFF ∷ 1 ∷ 0x72 ∷ []) 16;
      entries = joined (λ a. 2 ∷ a ∷ 0 ∷ 0 ∷ 0 ∷ 0 ∷ 0 ∷ 2 ∷ a ∷ 1 ∷ 0 ∷ 0 ∷ 0 ∷ 0 ∷ 5 ∷ a ∷ 0 ∷ 0 ∷ 0 ∷ 0 ∷ 0 ∷ 6 ∷ a ∷ 0 ∷ 0 ∷ 0 ∷ 0 ∷ 0 ∷ []) 16;
    } ∷
    -- A [0..*] l → r [0..*] B
    record {
      diagram = (0x10 ∷ 0 ∷ 1 ∷ 1 ∷ 0x30 ∷ 0 ∷ 4 ∷ 0 ∷ 1 ∷ 0x41 ∷ 0 ∷ 0x30 ∷ 0 ∷ 4 ∷ 0 ∷ 1 ∷ 0x42 ∷ 0 ∷ 0x50 ∷ 0 ∷ 0xC ∷ 0 ∷ 1 ∷ 0 ∷ 0 ∷ 0xFF ∷ 1 ∷ 0x6C ∷ 1 ∷ 0 ∷ 0xFF ∷ 1 ∷ 0x72 ∷ []);
      entries = (2 ∷ 0 ∷ 0 ∷ 0 ∷ 0 ∷ 0 ∷ 0 ∷ 4 ∷ 0 ∷ 0 ∷ 0 ∷ 0 ∷ 0 ∷ 0 ∷ []);
    } ∷
    -- A [0..0] l → r [0..*] B
    record {
      diagram = (0x10 ∷ 0 ∷ 1 ∷ 1 ∷ 0x30 ∷ 0 ∷ 4 ∷ 0 ∷ 1 ∷ 0x41 ∷ 0 ∷ 0x30 ∷ 0 ∷ 4 ∷ 0 ∷ 1 ∷ 0x42 ∷ 0 ∷ 0x50 ∷ 0 ∷ 0xC ∷ 0 ∷ 1 ∷ 0 ∷ 0 ∷ 0 ∷ 1 ∷ 0x6C ∷ 1 ∷ 0 ∷ 0xFF ∷ 1 ∷ 0x72 ∷ []);
      entries = (2 ∷ 0 ∷ 0 ∷ 0 ∷ 0 ∷ 0 ∷ 0 ∷ 3 ∷ 0 ∷ 0 ∷ 0 ∷ 0 ∷ 0 ∷ 0 ∷ []);
    } ∷
    []

pub compile-cases-right : compiles_right compile_cases ≡ true
unfolding compiles_right joined
compile-cases-right = refl
