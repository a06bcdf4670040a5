use lib.ListN.{length}
use mathlib.Core.Path.{◌≡◌, refl}
use native.Mathlib.Omega.{arith}
use Rattle.loading.proofs.TypeLaws.{type-name-short, parents-few, parents-known, type-stored}
use borrow.Author.Rules.{rules}
use Rattle.loading.proofs.storing.add_type.Goals as goal

pub store_name-requires : goal.store_name-requires
store_name-requires c = let long : length c.args.t.now.names ≡ 408 = search rules in
    (omega arith, search type-name-short)

pub store_parents-requires : goal.store_parents-requires
store_parents-requires c = (search rules, search parents-few)

pub ancestor_set-requires : goal.ancestor_set-requires
ancestor_set-requires c = (search rules, search parents-known)

pub returns : goal.returns
returns c = let kinds : length c.args.t.now.kinds ≡ 24 = search rules in
    let sizes : length c.args.t.now.sizes ≡ 24 = search rules in
    let sets : length c.args.t.now.sets ≡ 24 = search rules in
    type-stored c.args.t.now _ c.args.c.now _ c.requires kinds sizes sets c.past-name.ensures c.past_name-rest.ensures c.past-ps.ensures c.name_in.ensures
    c.byte.ensures c.byte-2.ensures refl refl c.store_name.ensures refl c.store_parents.ensures refl c.ancestor_set.ensures
