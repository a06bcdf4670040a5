use Rattle.text_rows.proofs.WordLaws.{class-asked, class-asked-most, class-unknown}
use Rattle.text_rows.proofs.tokens.known_class.Goals as goal

pub returns-in_err-k : goal.returns-in_err-k
returns-in_err-k c = rw c.from_residual.ensures (class-unknown _ c.in_err-k.ensures, λ k e. cc)

pub returns : goal.returns
returns c =
    let w = c.args.w.now in
    rw c.then_some.ensures (class-asked w c.in_ok-k.k c.in_ok-k.ensures c.is_word.ensures, class-asked-most w c.in_ok-k.k c.in_ok-k.ensures c.is_word.ensures)
