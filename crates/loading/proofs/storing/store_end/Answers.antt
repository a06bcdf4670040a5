use mathlib.Core.Path.{◌≡◌, refl}
use Rattle.loading.proofs.AssociationLaws.{role-short, up_fits, end-stored}
use lib.ListN.{length}
use native.Mathlib.Omega.{arith}
use borrow.Author.Rules.{rules}
use Rattle.loading.proofs.storing.store_end.Goals as goal

pub upper-requires : goal.upper-requires
upper-requires c = search up_fits

pub store_name-requires : goal.store_name-requires
store_name-requires c = let long : length c.args.a.now.roles ≡ 544 = search rules in
    (omega arith, search role-short)

pub returns : goal.returns
returns c = let types : length c.args.a.now.types ≡ 32 = search rules in
    let lows : length c.args.a.now.lows ≡ 32 = search rules in
    let ups : length c.args.a.now.ups ≡ 32 = search rules in
    end-stored c.args.edition c.args.a.now _ c.args.e c.args.c.now _ c.requires.0 types lows ups c.byte.ensures c.low_of.ensures.0 c.up_of.ensures.0
    c.role_of.ensures c.name_in.ensures refl refl refl refl refl refl c.upper.ensures c.store_name.ensures
