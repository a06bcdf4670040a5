use mathlib.Core.Path.{◌∙◌, ap, sym}
use lib.Bits.{bit_or}
use borrow.Author.Tests.{eqb-true}
use Rattle.laws.specs.Bits.{bit}
use Rattle.laws.proofs.BitLaws.{bit-or}
use Rattle.laws.proofs.ConnectiveLaws.{or_left}
use Rattle.type_tables.proofs.is_inside.Goals as goal

pub returns : goal.returns
returns c =
    let a = c.args in
    λ e k h. sym (ap (bit k) (eqb-true (bit_or a.a a.b) a.b (sym c.is_inside.ensures ∙ e))) ∙ bit-or k a.a a.b ∙ or_left (bit k a.a) (bit k a.b) h
