use mathlib.Core.Path.{refl}
use Rattle.laws.specs.Bounded.{all}
use Rattle.laws.specs.Connective.{both, either}
use Rattle.text_rows.proofs.CandidateLaws.{by_front, by_length, by-no-length}
use Rattle.text_rows.proofs.tokens.candidate.Goals as goal

pub returns-in-4 : goal.returns-in-4
unfolding all both either
returns-in-4 c = by_length c.in-4.is 5 refl

pub returns-in-5 : goal.returns-in-5
unfolding all both either
returns-in-5 c = by_length c.in-5.is 1 refl

pub returns-in-7 : goal.returns-in-7
unfolding all both either
returns-in-7 c = by_length c.in-7.is 2 refl

pub returns-in-8 : goal.returns-in-8
unfolding all both either
returns-in-8 c = by_length c.in-8.is 8 refl

pub returns-in-9 : goal.returns-in-9
unfolding all both either
returns-in-9 c = by_front c.in-9.is 0x69 4 9 refl refl c.by_byte.ensures

pub returns-in-10 : goal.returns-in-10
unfolding all both either
returns-in-10 c = by_length c.in-10.is 3 refl

pub returns-in-11 : goal.returns-in-11
unfolding all both either
returns-in-11 c = by_front c.in-11.is 0x61 6 7 refl refl c.by_byte-in-11.ensures

pub returns-in-12 : goal.returns-in-12
unfolding all both either
returns-in-12 c = by_length c.in-12.is 0 refl

pub returns-in_default : goal.returns-in_default
unfolding all both either
returns-in_default c = by-no-length c.args.w.now c.in_default.in_default-own.rest
