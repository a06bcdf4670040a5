use Rattle.masks.specs.Masks.{limits_of, link_in, row_at_fits}
use lib.Bits.{bit_and}
use mathlib.Core.Path.{◌∙◌}
use Rattle.masks.proofs.MaskRuleLaws.{row-narrow, row-among}
use Rattle.laws.proofs.SearchLaws.{imp-yes, is-yes}
use borrow.Author.Rules.{rules}
use Rattle.masks.proofs.Role.row_at_fits.Goals as goal

pub returns-else-not-has : goal.returns-else-not-has
unfolding row_at_fits
returns-else-not-has c =
    let a = c.args in
    let row = c.row in
    let among = c.objects in
    let links = link_in a.self.now.links.now a.self.now.slot a.o in
    imp-yes (is-yes c.has.ensures c.if-not-has.false)
    (c.row_fits.ensures
    ∙ row-narrow links (bit_and row.result among.result) a.self.now.to (limits_of a.limits) a.self.now.count (search rules)
    (λ p. row-among links row.result among.result a.self.now.count p row.ensures among.ensures))
