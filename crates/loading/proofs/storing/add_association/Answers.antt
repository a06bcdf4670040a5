use mathlib.Core.Path.{◌≡◌, refl}
use Rattle.loading.proofs.AssociationLaws.{left_laid, right-laid, association-stored}
use lib.ListN.{length}
use borrow.Author.Rules.{rules}
use Rattle.loading.proofs.storing.add_association.Goals as goal

pub store_end-requires : goal.store_end-requires
store_end-requires c = (search rules, search left_laid)

pub store_end-requires-2 : goal.store_end-requires-2
store_end-requires-2 c = (search rules, search right-laid)

pub returns : goal.returns
returns c = let forms : length c.args.a.now.forms ≡ 16 = search rules in
    let arrows : length c.args.a.now.arrows ≡ 16 = search rules in
    association-stored c.args.edition c.args.a.now _ _ _ c.args.c.now c.requires forms arrows c.past-left.ensures c.past_end-right.ensures c.store_end.ensures c.store_end-2.ensures c.byte.ensures c.byte-2.ensures refl refl refl refl refl refl refl
