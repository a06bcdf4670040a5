use mathlib.Core.Path.{◌∙◌, refl, sym}
use borrow.Author.Tests.{eq-eqb, ne_eqb}
use Rattle.files.specs.Limit.{none_of, upper_number, upper_of}
use Rattle.converting.proofs.other_upper.Goals as goal

pub returns-then-up-none_of : goal.returns-then-up-none_of
unfolding upper_of upper_number
returns-then-up-none_of c = rw (eq-eqb c.args.up (none_of c.args.from) (c.if-up-none_of.true ∙ c.none_of.ensures)) c.none_of-then-up-none_of.ensures

pub returns-else-up-none_of : goal.returns-else-up-none_of
unfolding upper_of upper_number
returns-else-up-none_of c = rw (ne_eqb c.args.up (none_of c.args.from) (λ q. c.if-up-none_of.false (q ∙ sym c.none_of.ensures))) refl
