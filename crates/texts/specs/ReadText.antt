-- 02 1/12: what reading a text gives, by the table of the grammar; that it is what Grammar.antt and TextChecks.antt say is a theorem
-- (proofs/ReadTextLaws).
-- Assumes nothing.
use Rattle.std.specs.Prelude.{ℕ, not, List, map, drop}
use Rattle.laws.specs.Connective.{either, refuse}
use Rattle.files.specs.Diagram.{Diagram}
use Rattle.files.specs.Refusal.{Answer, accepted, or_refused}
use Rattle.texts.specs.Declaration.{Declaration}
use Rattle.texts.specs.Declared.{declared}
use Rattle.texts.specs.Table.{accepts, declaration_in, has_long_from, rows_from}
use Rattle.texts.specs.TextChecks.{declared_refusal, has_forbidden}
use Rattle.texts.specs.Token.{Token, tokens}

-- the declarations behind the first row, "classdiagram" Name "{"
unfoldable pub declarations_in : List Token → List Declaration
declarations_in ts = map declaration_in (drop 1 (rows_from 0 ts))

unfoldable pub tokens_refusal : List Token → ℕ
tokens_refusal ts =
    refuse (either (not (accepts 0 ts)) (either (has_long_from 0 ts) (has_forbidden (declarations_in ts)))) 23 (declared_refusal (declarations_in ts))

unfoldable pub read_text : List ℕ → Answer Diagram
read_text s = or_refused (tokens_refusal (tokens s)) (accepted (declared (declarations_in (tokens s))))
