use Rattle.std.proofs.Common.{◌∙◌, ◌≡◌, false, length, refl, rules, sym, true}
use Rattle.std.proofs.lemmas.Iterator.{IsFirst-from_position, YieldsList-from_slice, index_from_first}
use Rattle.files.specs.Name.{name_byte}
use Rattle.texts.specs.Token.{run}
use Rattle.text_rows.proofs.BlankLaws.{run-more, run-stop}
use Rattle.text_rows.proofs.tokens.run_size.Goals as goal

pub returns : goal.returns
unfolding run
returns c =
    let s = c.args.s.now in
    let first = IsFirst-from_position _ _ _ (λ b. name_byte b ≡ false) (λ b. name_byte b ≡ true) c.position.ensures.ran (YieldsList-from_slice s cc) (λ x q k. search rules) (λ x q k. search rules) in
    c.unwrap_or.ensures ∙ sym (index_from_first (λ t. length (run t)) (λ b. name_byte b ≡ false) (λ b. name_byte b ≡ true) refl run-stop run-more s _ first)
