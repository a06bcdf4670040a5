-- 01 "Shelf and card": the marked cases (*), through bytes, as one table and one statement that computes. The last is as 02 has it:
-- "the Line and Port case with arrow 4 becomes 8".
-- Assumes nothing.
use Rattle.std.specs.Prelude.{ℕ, Bool, ◌&&◌, false, true, List, [], ◌∷◌, ◌≡◌, refl, eqb}
use Rattle.laws.specs.Bounded.{all, any, first, first_not, tally}
use Rattle.laws.specs.Connective.{both, either, imp, same, unless}
use Rattle.laws.specs.Lists.{joined}
use Rattle.laws.specs.Order.{order}
use Rattle.files.specs.Ancestor.{reaches, reaches_by}
use Rattle.files.specs.Diagram.{Diagram, is_composition, is_concrete, is_singleton}
use Rattle.files.specs.FileCases.{diagram_file, record_file}
use Rattle.files.specs.Membership.{has_link, has_value}
use Rattle.files.specs.Name.{key, same_name}
use Rattle.files.specs.Record.{Record, object_count}
use Rattle.files.specs.Refusal.{Answer, accepted, refused}
use Rattle.rules.specs.Arrow.{carries_left, carries_right, counted_left, counted_right, mirrors, not_above, within}
use Rattle.rules.specs.Compile.{compile, entries_of, entry_for, limited, row_of}
use Rattle.rules.specs.Evaluate.{evaluate, first_failing, holds, one_whole, sources_hold, targets_hold}
use Rattle.rules.specs.Instance.{has_type, is_instance}
use Rattle.rules.specs.Judge.{judge, lowest_broken}
use Rattle.rules.specs.LinkRules.{incoming, mirror_at, mirrored, permits, rule5, rule5_at, rule6, rule6_for, rule7, rule7_for, rule8, rule8_for, sources, sources_at, targets, targets_at}
use Rattle.rules.specs.Site.{site_of}
use Rattle.rules.specs.TypeRules.{rule1, rule1_at, rule2, rule2_at}
use Rattle.rules.specs.ValueRules.{belongs, declared, declares, rule3, rule3_at, rule3_for, rule4, rule4_at}
use Rattle.rules.specs.WholeRule.{is_whole, rule9, rule9_at, whole_by}

-- ---- from bytes to verdicts

-- the rule broken, and the first compiled record that does not hold
pub record Verdict : Type 0 where
  pub rule : ℕ
  pub first : ℕ

unfoldable pub verdict : Answer Diagram → Answer Record → Answer Verdict
unfolding any all tally both either imp same unless order key same_name first_not joined object_count has_value has_link site_of is_concrete is_singleton is_composition reaches_by reaches has_type is_instance carries_right carries_left counted_right counted_left mirrors not_above within rule1_at rule1 rule2_at rule2 declares declared rule3_for rule3_at rule3 belongs rule4_at rule4 permits rule5_at rule5 targets_at targets rule6_for rule6 incoming sources_at sources rule7_for rule7 mirror_at mirrored rule8_for rule8 whole_by is_whole rule9_at rule9 lowest_broken judge limited entry_for row_of entries_of compile targets_hold sources_hold one_whole holds first_failing evaluate
verdict (refused n) site = refused n
verdict (accepted d) (refused n) = refused n
verdict (accepted d) (accepted r) = accepted (record { rule = judge d r; first = evaluate d r })

-- a diagram file, a record file, judge's reply and evaluate's
pub record Case : Type 0 where
  pub diagram : List ℕ
  pub site : List ℕ
  pub rule : ℕ
  pub first : ℕ

unfoldable pub is_verdict : Answer Verdict → ℕ → ℕ → Bool
is_verdict (refused n) rule first = false
is_verdict (accepted v) rule first = eqb v.rule rule && eqb v.first first

unfoldable pub cases_right : List Case → Bool
unfolding diagram_file record_file verdict is_verdict
cases_right [] = true
cases_right (c ∷ cs) = is_verdict (verdict (diagram_file c.diagram) (record_file c.site)) c.rule c.first && cases_right cs

-- ---- the files

-- P: classes Shelf, Card; composition Shelf [1] shelf → cards [0..4] Card
abbrev pub file_p : List ℕ
file_p =
    0x10 ∷ 0 ∷ 1 ∷ 1 ∷
    0x30 ∷ 0 ∷ 8 ∷ 0 ∷ 5 ∷ 0x53 ∷ 0x68 ∷ 0x65 ∷ 0x6C ∷ 0x66 ∷ 0 ∷
    0x30 ∷ 0 ∷ 7 ∷ 0 ∷ 4 ∷ 0x43 ∷ 0x61 ∷ 0x72 ∷ 0x64 ∷ 0 ∷
    0x50 ∷ 0 ∷ 0x14 ∷ 1 ∷ 1 ∷ 0 ∷ 1 ∷ 1 ∷ 5 ∷ 0x73 ∷ 0x68 ∷ 0x65 ∷ 0x6C ∷ 0x66 ∷ 1 ∷ 0 ∷ 4 ∷ 5 ∷ 0x63 ∷ 0x61 ∷ 0x72 ∷ 0x64 ∷ 0x73 ∷ []

-- Q: as P, [0..2]
abbrev pub file_q : List ℕ
file_q =
    0x10 ∷ 0 ∷ 1 ∷ 1 ∷
    0x30 ∷ 0 ∷ 8 ∷ 0 ∷ 5 ∷ 0x53 ∷ 0x68 ∷ 0x65 ∷ 0x6C ∷ 0x66 ∷ 0 ∷
    0x30 ∷ 0 ∷ 7 ∷ 0 ∷ 4 ∷ 0x43 ∷ 0x61 ∷ 0x72 ∷ 0x64 ∷ 0 ∷
    0x50 ∷ 0 ∷ 0x14 ∷ 1 ∷ 1 ∷ 0 ∷ 1 ∷ 1 ∷ 5 ∷ 0x73 ∷ 0x68 ∷ 0x65 ∷ 0x6C ∷ 0x66 ∷ 1 ∷ 0 ∷ 2 ∷ 5 ∷ 0x63 ∷ 0x61 ∷ 0x72 ∷ 0x64 ∷ 0x73 ∷ []

-- S: as P, left [0..1]
abbrev pub file_s : List ℕ
file_s =
    0x10 ∷ 0 ∷ 1 ∷ 1 ∷
    0x30 ∷ 0 ∷ 8 ∷ 0 ∷ 5 ∷ 0x53 ∷ 0x68 ∷ 0x65 ∷ 0x6C ∷ 0x66 ∷ 0 ∷
    0x30 ∷ 0 ∷ 7 ∷ 0 ∷ 4 ∷ 0x43 ∷ 0x61 ∷ 0x72 ∷ 0x64 ∷ 0 ∷
    0x50 ∷ 0 ∷ 0x14 ∷ 1 ∷ 1 ∷ 0 ∷ 0 ∷ 1 ∷ 5 ∷ 0x73 ∷ 0x68 ∷ 0x65 ∷ 0x6C ∷ 0x66 ∷ 1 ∷ 0 ∷ 4 ∷ 5 ∷ 0x63 ∷ 0x61 ∷ 0x72 ∷ 0x64 ∷ 0x73 ∷ []

-- E: bytes 10 00 01 01
abbrev pub file_e : List ℕ
file_e =
    0x10 ∷ 0 ∷ 1 ∷ 1 ∷ []

-- Z: one singleton class, Main
abbrev pub file_z : List ℕ
file_z =
    0x10 ∷ 0 ∷ 1 ∷ 1 ∷
    0x30 ∷ 0 ∷ 7 ∷ 3 ∷ 4 ∷ 0x4D ∷ 0x61 ∷ 0x69 ∷ 0x6E ∷ 0 ∷ []

-- classes Line, Port; association Line [0..1] line ↔ port [0..1] Port
abbrev pub file_l_p3 : List ℕ
file_l_p3 =
    0x10 ∷ 0 ∷ 1 ∷ 1 ∷
    0x30 ∷ 0 ∷ 7 ∷ 0 ∷ 4 ∷ 0x4C ∷ 0x69 ∷ 0x6E ∷ 0x65 ∷ 0 ∷
    0x30 ∷ 0 ∷ 7 ∷ 0 ∷ 4 ∷ 0x50 ∷ 0x6F ∷ 0x72 ∷ 0x74 ∷ 0 ∷
    0x50 ∷ 0 ∷ 0x12 ∷ 0 ∷ 3 ∷ 0 ∷ 0 ∷ 1 ∷ 4 ∷ 0x6C ∷ 0x69 ∷ 0x6E ∷ 0x65 ∷ 1 ∷ 0 ∷ 1 ∷ 4 ∷ 0x70 ∷ 0x6F ∷ 0x72 ∷ 0x74 ∷ []

-- with arrow 4
abbrev pub file_l_p4 : List ℕ
file_l_p4 =
    0x10 ∷ 0 ∷ 1 ∷ 1 ∷
    0x30 ∷ 0 ∷ 7 ∷ 0 ∷ 4 ∷ 0x4C ∷ 0x69 ∷ 0x6E ∷ 0x65 ∷ 0 ∷
    0x30 ∷ 0 ∷ 7 ∷ 0 ∷ 4 ∷ 0x50 ∷ 0x6F ∷ 0x72 ∷ 0x74 ∷ 0 ∷
    0x50 ∷ 0 ∷ 0x12 ∷ 0 ∷ 4 ∷ 0 ∷ 0 ∷ 1 ∷ 4 ∷ 0x6C ∷ 0x69 ∷ 0x6E ∷ 0x65 ∷ 1 ∷ 0 ∷ 1 ∷ 4 ∷ 0x70 ∷ 0x6F ∷ 0x72 ∷ 0x74 ∷ []

-- a Shelf with three linked Cards
abbrev pub shelf_of_three : List ℕ
shelf_of_three =
    0x60 ∷ 0 ∷ 1 ∷ 4 ∷
    0x61 ∷ 0 ∷ 6 ∷ 5 ∷ 0x53 ∷ 0x68 ∷ 0x65 ∷ 0x6C ∷ 0x66 ∷
    0x61 ∷ 0 ∷ 5 ∷ 4 ∷ 0x43 ∷ 0x61 ∷ 0x72 ∷ 0x64 ∷
    0x61 ∷ 0 ∷ 5 ∷ 4 ∷ 0x43 ∷ 0x61 ∷ 0x72 ∷ 0x64 ∷
    0x61 ∷ 0 ∷ 5 ∷ 4 ∷ 0x43 ∷ 0x61 ∷ 0x72 ∷ 0x64 ∷
    0x63 ∷ 0 ∷ 8 ∷ 0 ∷ 5 ∷ 0x63 ∷ 0x61 ∷ 0x72 ∷ 0x64 ∷ 0x73 ∷ 1 ∷
    0x63 ∷ 0 ∷ 8 ∷ 0 ∷ 5 ∷ 0x63 ∷ 0x61 ∷ 0x72 ∷ 0x64 ∷ 0x73 ∷ 2 ∷
    0x63 ∷ 0 ∷ 8 ∷ 0 ∷ 5 ∷ 0x63 ∷ 0x61 ∷ 0x72 ∷ 0x64 ∷ 0x73 ∷ 3 ∷ []

-- a Shelf with five linked cards
abbrev pub shelf_of_five : List ℕ
shelf_of_five =
    0x60 ∷ 0 ∷ 1 ∷ 6 ∷
    0x61 ∷ 0 ∷ 6 ∷ 5 ∷ 0x53 ∷ 0x68 ∷ 0x65 ∷ 0x6C ∷ 0x66 ∷
    0x61 ∷ 0 ∷ 5 ∷ 4 ∷ 0x43 ∷ 0x61 ∷ 0x72 ∷ 0x64 ∷
    0x61 ∷ 0 ∷ 5 ∷ 4 ∷ 0x43 ∷ 0x61 ∷ 0x72 ∷ 0x64 ∷
    0x61 ∷ 0 ∷ 5 ∷ 4 ∷ 0x43 ∷ 0x61 ∷ 0x72 ∷ 0x64 ∷
    0x61 ∷ 0 ∷ 5 ∷ 4 ∷ 0x43 ∷ 0x61 ∷ 0x72 ∷ 0x64 ∷
    0x61 ∷ 0 ∷ 5 ∷ 4 ∷ 0x43 ∷ 0x61 ∷ 0x72 ∷ 0x64 ∷
    0x63 ∷ 0 ∷ 8 ∷ 0 ∷ 5 ∷ 0x63 ∷ 0x61 ∷ 0x72 ∷ 0x64 ∷ 0x73 ∷ 1 ∷
    0x63 ∷ 0 ∷ 8 ∷ 0 ∷ 5 ∷ 0x63 ∷ 0x61 ∷ 0x72 ∷ 0x64 ∷ 0x73 ∷ 2 ∷
    0x63 ∷ 0 ∷ 8 ∷ 0 ∷ 5 ∷ 0x63 ∷ 0x61 ∷ 0x72 ∷ 0x64 ∷ 0x73 ∷ 3 ∷
    0x63 ∷ 0 ∷ 8 ∷ 0 ∷ 5 ∷ 0x63 ∷ 0x61 ∷ 0x72 ∷ 0x64 ∷ 0x73 ∷ 4 ∷
    0x63 ∷ 0 ∷ 8 ∷ 0 ∷ 5 ∷ 0x63 ∷ 0x61 ∷ 0x72 ∷ 0x64 ∷ 0x73 ∷ 5 ∷ []

-- a Card
abbrev pub card : List ℕ
card =
    0x60 ∷ 0 ∷ 1 ∷ 1 ∷
    0x61 ∷ 0 ∷ 5 ∷ 4 ∷ 0x43 ∷ 0x61 ∷ 0x72 ∷ 0x64 ∷ []

-- 60 00 01 00
abbrev pub nothing : List ℕ
nothing =
    0x60 ∷ 0 ∷ 1 ∷ 0 ∷ []

-- one Main
abbrev pub main : List ℕ
main =
    0x60 ∷ 0 ∷ 1 ∷ 1 ∷
    0x61 ∷ 0 ∷ 5 ∷ 4 ∷ 0x4D ∷ 0x61 ∷ 0x69 ∷ 0x6E ∷ []

-- one Shelf and one Card with a cards link from the Card to the Shelf
abbrev pub backwards : List ℕ
backwards =
    0x60 ∷ 0 ∷ 1 ∷ 2 ∷
    0x61 ∷ 0 ∷ 6 ∷ 5 ∷ 0x53 ∷ 0x68 ∷ 0x65 ∷ 0x6C ∷ 0x66 ∷
    0x61 ∷ 0 ∷ 5 ∷ 4 ∷ 0x43 ∷ 0x61 ∷ 0x72 ∷ 0x64 ∷
    0x63 ∷ 0 ∷ 8 ∷ 1 ∷ 5 ∷ 0x63 ∷ 0x61 ∷ 0x72 ∷ 0x64 ∷ 0x73 ∷ 0 ∷ []

-- one object of each, a port link and no line link
abbrev pub one_way : List ℕ
one_way =
    0x60 ∷ 0 ∷ 1 ∷ 2 ∷
    0x61 ∷ 0 ∷ 5 ∷ 4 ∷ 0x4C ∷ 0x69 ∷ 0x6E ∷ 0x65 ∷
    0x61 ∷ 0 ∷ 5 ∷ 4 ∷ 0x50 ∷ 0x6F ∷ 0x72 ∷ 0x74 ∷
    0x63 ∷ 0 ∷ 7 ∷ 0 ∷ 4 ∷ 0x70 ∷ 0x6F ∷ 0x72 ∷ 0x74 ∷ 1 ∷ []

-- ---- the table, with what evaluate is_verdict beside

abbrev pub marked : List Case
marked =
    record { diagram = file_p; site = shelf_of_three; rule = 0; first = 3 } ∷
    record { diagram = file_q; site = shelf_of_three; rule = 6; first = 0 } ∷
    record { diagram = file_s; site = card; rule = 0; first = 3 } ∷
    record { diagram = file_p; site = card; rule = 7; first = 1 } ∷
    record { diagram = file_p; site = nothing; rule = 0; first = 3 } ∷
    record { diagram = file_z; site = nothing; rule = 2; first = 0 } ∷
    record { diagram = file_e; site = main; rule = 1; first = 0 } ∷
    record { diagram = file_p; site = shelf_of_five; rule = 6; first = 0 } ∷
    record { diagram = file_p; site = backwards; rule = 5; first = 1 } ∷
    record { diagram = file_l_p3; site = one_way; rule = 8; first = 2 } ∷
    record { diagram = file_l_p4; site = one_way; rule = 8; first = 2 } ∷
    []

pub marked-right : cases_right marked ≡ true
unfolding cases_right
marked-right = refl
