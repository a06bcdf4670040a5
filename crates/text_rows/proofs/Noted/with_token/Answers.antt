use Rattle.std.proofs.Common.{◌∙◌, ◌≡◌, ap, arith}
use Rattle.laws.specs.Bounded.{one}
use Rattle.text_rows.specs.Noted.{is_word_class, noted}
use Rattle.text_rows.proofs.NotedLaws.{one-from}
use Rattle.text_rows.proofs.Noted.with_token.Goals as goal

pub overflow_add-result : goal.overflow_add-result
overflow_add-result c = let e : c.from.result ≡ one (is_word_class c.args.class) = c.from.ensures ∙ one-from _ ∙ ap one c.is_word_class-word.ensures in omega arith

pub returns : goal.returns
unfolding noted
returns c =
    rw (c.or.ensures, c.from.ensures ∙ one-from _ ∙ ap one c.is_word_class-word.ensures, c.or-2.ensures, c.then_some.ensures, c.is_word_class-word.ensures)
