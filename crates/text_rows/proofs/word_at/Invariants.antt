use Rattle.std.proofs.Common.{◌≡◌, ◌≤◌, [], get_or, length}
use Rattle.texts.specs.Table.{row_from, words_for}
use Rattle.texts.specs.Token.{tokens}
use Rattle.text_rows.specs.RowAt.{row_at}
use Rattle.text_rows.proofs.EndLaws.{Behind}
use Rattle.text_rows.proofs.word_at.Given as goal

abbrev pub invariant-loop-token : goal.invariant-loop-token
invariant-loop-token l =
    (l.state.0 ≤ 46) × (Behind l.s l.rest × (get_or (words_for l.a l.b l.c (row_at l.s)) l.i [] ≡ get_or (words_for l.a l.b l.c (row_from l.state.0 (tokens l.rest))) l.left []))

abbrev pub decreases-loop-token : goal.decreases-loop-token
decreases-loop-token l = length l.rest
