use Rattle.std.proofs.Common.{◌∙◌, ap, refl, rules}
use Rattle.laws.specs.Bounded.{any}
use Rattle.laws.proofs.RangeLaws.{any-range}
use Rattle.text_rows.specs.RowAt.{declaration_by, declarations_by}
use Rattle.text_parts.specs.declared.Kind.TheVariants.{Classes}
use Rattle.text_checks.specs.Kinds.{unknown_in}
use Rattle.text_checks.proofs.UnknownLaws.{unknown_at, not-declared}
use Rattle.text_checks.proofs.has_unknown_class.Goals as goal

pub returns : goal.returns
unfolding unknown_in
returns c =
    let a = c.args in
    let p = unknown_at Classes (declarations_by a.o.now.body.now) a.k (declaration_by a.row.now.rest.now).superclasses in
    any-range p _ c.any.ensures.ran refl (λ x b q k. search (rules, not-declared)) ∙ ap (any p) c.superclass_count-count.ensures.0
