use Rattle.std.proofs.Common.{◌∙◌, ◌-◌, ◌≡◌, ap, drop, false, length, refl, rules, sym, true}
use Rattle.std.proofs.lemmas.Iterator.{IsFirst-from_position, YieldsList-from_slice, index_from_first}
use Rattle.texts.specs.Token.{is_blank}
use Rattle.text_rows.specs.Front.{unblank}
use Rattle.text_rows.proofs.BlankLaws.{blanks-more, blanks-stop}
use Rattle.text_rows.proofs.EndLaws.{behind-is, unblank-behind}
use Rattle.text_rows.proofs.tokens.unblanked.Goals as goal

pub returns : goal.returns
unfolding unblank
returns c =
    let s = c.args.s.now in
    let first = IsFirst-from_position _ _ _ (λ b. is_blank b ≡ false) (λ b. is_blank b ≡ true) c.position.ensures.ran (YieldsList-from_slice s cc) (λ x q k. search rules) (λ x q k. search rules) in
    let count = index_from_first (λ t. length t - length (unblank t)) (λ b. is_blank b ≡ false) (λ b. is_blank b ≡ true) refl blanks-stop blanks-more s _ first in
    c.past.ensures ∙ ap (λ i. drop i s) (c.unwrap_or-blanks.ensures ∙ sym count) ∙ sym (behind-is s (unblank s) (unblank-behind s)).1
