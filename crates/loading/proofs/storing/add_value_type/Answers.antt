use Rattle.loading.proofs.StoredLaws.{value-name-short, constants-few, constants-named, value-type-stored}
use lib.ListN.{length}
use mathlib.Core.Path.{◌≡◌}
use native.Mathlib.Omega.{arith}
use borrow.Author.Rules.{rules}
use Rattle.loading.proofs.storing.add_value_type.Goals as goal

pub store_name-requires : goal.store_name-requires
store_name-requires c = let long : length c.args.v.now.names ≡ 204 = search rules in
    (omega arith, search value-name-short)

pub store_constants-requires : goal.store_constants-requires
store_constants-requires c = (search rules, (search constants-few, constants-named c.args.v.now c.args.c.now c.requires c.past_name-rest.ensures c.byte-n.ensures c.past.ensures))

pub returns : goal.returns
returns c = let long : length c.args.v.now.sizes ≡ 12 = search rules in
    search value-type-stored
