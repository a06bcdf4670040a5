use Rattle.loading.proofs.AssociationLaws.{attribute-name-short, attribute-stored}
use lib.ListN.{length}
use mathlib.Core.Path.{◌≡◌}
use native.Mathlib.Omega.{arith}
use borrow.Author.Rules.{rules}
use Rattle.loading.proofs.storing.add_attribute.Goals as goal

pub store_name-requires : goal.store_name-requires
store_name-requires c = let long : length c.args.a.now.names ≡ 544 = search rules in
    (omega arith, search attribute-name-short)

pub returns : goal.returns
returns c = let owners : length c.args.a.now.owners ≡ 32 = search rules in
    let types : length c.args.a.now.types ≡ 32 = search rules in
    search attribute-stored
