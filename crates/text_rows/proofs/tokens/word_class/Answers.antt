use Rattle.std.proofs.Common.{refl}
use Rattle.text_rows.proofs.tokens.word_class.Goals as goal

pub returns-in-Some : goal.returns-in-Some
returns-in-Some c = (c.in-Some.ensures.0, c.in-Some.ensures.1 _ refl)
