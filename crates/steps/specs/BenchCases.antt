-- Calls on a bench, through bytes: the order of refusals, what drops the witness, and what hand out leaves in the buffer.
-- Compare's free choice is handed in.
-- Assumes nothing.
use Rattle.std.specs.Prelude.{ℕ, true, List, [], ◌++◌, ◌∷◌, map, ◌≡◌, refl, replicate, take}
use Rattle.std.proofs.Math.Option.{Option, none, some}
use Rattle.laws.specs.Lists.{over}
use Rattle.files.specs.Content.{name_bytes}
use Rattle.files.specs.ConvertCases.{converted_of, up_of_101}
use Rattle.files.specs.Field.{field}
use Rattle.files.specs.FileCases.{diagram_file, record_file}
use Rattle.files.specs.Record.{Record}
use Rattle.files.specs.RecordBytes.{link_bytes, value_bytes, write_record}
use Rattle.files.specs.Refusal.{Answer, accepted, and_then, in_buffer, refused}
use Rattle.rules.specs.CompileCases.{compiled_of, same_bytes}
use Rattle.rules.specs.Marked.{card, file_e, file_p, file_q, shelf_of_three, verdict}
use Rattle.steps.specs.Bench.{Bench, Outcome, Reply, done, first_false, fresh, place_of, records, refusal, rule, settle, with_witness, written}
use Rattle.steps.specs.Step.{asking, clear, compiled, diagram_at, evaluated, handed_out, in_place, judged, load, load_text, needed, on_record, placed, settling, witnessing, writing}

abbrev pub held : Answer Record → Option Record
held (refused n) = none
held (accepted r) = some r

abbrev pub loaded : Bench → ℕ → List ℕ → Outcome
loaded b p file = settling b p (load p file)

abbrev pub handed : Bench → List ℕ → Outcome
handed b buffer = writing b buffer (handed_out b.witness buffer)

abbrev pub converted_on : Bench → List ℕ → List ℕ → Outcome
converted_on b file buffer = writing b buffer (converted_of file buffer)

-- P and Q are loaded, then compare found the Shelf with three Cards
abbrev pub loaded_p : Bench
loaded_p = (loaded fresh 0 file_p).bench

-- a refused load leaves it
abbrev pub refused_p : Bench
refused_p = (loaded loaded_p 0 (0x10 ∷ 0 ∷ 1 ∷ 3 ∷ [])).bench

abbrev pub loaded_p_q : Bench
loaded_p_q = (loaded loaded_p 1 file_q).bench

abbrev pub behind_difference : Bench
behind_difference = with_witness (held (record_file shelf_of_three)) loaded_p_q

-- a reply, and the outcome that has it
abbrev pub outcomes : List (Reply × Outcome)
outcomes =
    -- B1: from the fresh bench
    (refusal 22, handed fresh []) ∷
    (done, settling fresh 0 (clear 0)) ∷
    (done, settling fresh 1 (clear 1)) ∷
    (refusal 10, settling fresh 2 (clear 2)) ∷
    (refusal 21, asking fresh (compiled fresh 0)) ∷
    (refusal 10, asking fresh (compiled fresh 2)) ∷
    (refusal 21, asking fresh (judged fresh 0 [])) ∷
    (refusal 10, asking fresh (judged fresh 2 [])) ∷
    (refusal 21, asking fresh (evaluated fresh 1 card)) ∷
    (refusal 10, loaded fresh 2 file_e) ∷
    (refusal 10, loaded fresh 2 []) ∷
    (refusal 10, settling fresh 2 (load_text 2 [])) ∷
    (refusal 2, loaded fresh 0 []) ∷
    -- B2, B11
    (rule 0, asking loaded_p (judged loaded_p 0 shelf_of_three)) ∷
    (refusal 21, asking loaded_p (judged loaded_p 1 shelf_of_three)) ∷
    (rule 6, asking loaded_p_q (judged loaded_p_q 1 shelf_of_three)) ∷
    (rule 0, asking refused_p (judged refused_p 0 shelf_of_three)) ∷
    -- B3, B4: behind "difference"
    (refusal 20, handed behind_difference []) ∷
    (refusal 20, handed behind_difference (replicate 59999 7)) ∷
    (written 70, handed behind_difference (replicate 60000 7)) ∷
    (refusal 1, loaded behind_difference 0 (0x10 ∷ 0 ∷ 1 ∷ [])) ∷
    (refusal 3, asking behind_difference (judged behind_difference 0 (0x60 ∷ 0 ∷ 1 ∷ 9 ∷ []))) ∷
    (records 3 (compiled_of (diagram_file file_p)), asking behind_difference (compiled behind_difference 0)) ∷
    (first_false 0, asking behind_difference (evaluated behind_difference 1 shelf_of_three)) ∷
    -- B6, B7: cleared, loaded again with the same bytes: no witness
    (refusal 22, handed (settling behind_difference 0 (clear 0)).bench (replicate 60000 7)) ∷
    (refusal 22, handed (settling behind_difference 1 (clear 1)).bench (replicate 60000 7)) ∷
    (refusal 22, handed (loaded behind_difference 1 file_q).bench (replicate 60000 7)) ∷
    -- 02 4/12: from the fresh bench, then behind "difference", where the witness stays
    (written 4, converted_on fresh file_e (replicate 4096 7)) ∷
    (refusal 20, converted_on fresh file_e (replicate 4095 7)) ∷
    (written 52, converted_on behind_difference file_p (replicate 4096 7)) ∷
    (refusal 1, converted_on behind_difference (0x10 ∷ 0 ∷ 1 ∷ []) (replicate 4096 7)) ∷
    (refusal 25, converted_on behind_difference up_of_101 (replicate 10 7)) ∷
    (written 70, handed (converted_on behind_difference file_p (replicate 4096 7)).bench (replicate 60000 7)) ∷
    []

pub outcomes-right : map (λ x. x.1.reply) outcomes ≡ map (λ x. x.0) outcomes
unfolding asking settling writing placed clear on_record compiled handed_out in_place needed diagram_at and_then witnessing in_buffer settle with_witness place_of over diagram_file record_file converted_of verdict compiled_of write_record value_bytes link_bytes name_bytes field
outcomes-right = refl

-- hand out writes the file itself at the front, and leaves the rest
pub handed-right : same_bytes (take 73 (handed behind_difference (replicate 60000 7)).buffer) (shelf_of_three ++ (7 ∷ 7 ∷ 7 ∷ [])) ≡ true
unfolding settling writing placed handed_out in_place and_then witnessing in_buffer settle with_witness over diagram_file record_file same_bytes write_record value_bytes link_bytes name_bytes field
handed-right = refl
