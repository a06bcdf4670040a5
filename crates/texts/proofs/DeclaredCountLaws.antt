-- The counts of the diagram that declarations declare, and of declarations that pass check 4.
-- Assumes nothing.
use Prim.Native.Nat.{◌<◌, ◌≤◌, ℕ}
use mathlib.Core.Bool.{false}
use mathlib.Core.List.{List}
use mathlib.Core.Path.{◌≡◌, refl}
use lib.ListN.{length}
use borrow.Author.Tests.{ltb-false}
use Rattle.laws.specs.Bounded.{tally}
use Rattle.texts.specs.Declaration.{Declaration, declaration_at, is_association, is_type}
use Rattle.texts.specs.Declared.{association_of, declared, parent_names, type_def_of, types_before, used_types, value_types_of}
use Rattle.texts.specs.TextChecks.{is_overfull}
use Rattle.laws.proofs.BoundedLaws.{any-no}
use Rattle.laws.proofs.ConnectiveLaws.{either-neither}
use Rattle.laws.proofs.PickedLaws.{length-picked}

module _ (ds : List Declaration) where
  pub value-types-counted : length (declared ds).value_types ≡ length (value_types_of ds)
  unfolding declared
  value-types-counted = refl

  pub types-counted : length (declared ds).types ≡ types_before ds (length ds)
  unfolding declared types_before
  types-counted = length-picked (λ k. is_type (declaration_at ds k)) (type_def_of ds) (length ds)

  pub associations-counted : length (declared ds).associations ≡ tally (λ k. is_association (declaration_at ds k)) (length ds)
  unfolding declared
  associations-counted = length-picked (λ k. is_association (declaration_at ds k)) (association_of ds) (length ds)

pub record Few (ds : List Declaration) : Type 0 where
  pub value-types : length (value_types_of ds) ≤ 12
  pub types : types_before ds (length ds) ≤ 24
  pub uses : length (used_types ds) ≤ 32
  pub associations : tally (λ k. is_association (declaration_at ds k)) (length ds) ≤ 16
  pub constants : (k : ℕ) → k < length ds → length (declaration_at ds k).constants ≤ 8
  pub parents : (k : ℕ) → k < length ds → length (parent_names (declaration_at ds k)) ≤ 4

pub few : (ds : List Declaration) → is_overfull ds ≡ false → Few ds
unfolding is_overfull
few ds e =
    let a = either-neither _ _ e in
    let b = either-neither _ _ a.1 in
    let c = either-neither _ _ b.1 in
    let d = either-neither _ _ c.1 in
    record {
      value-types = ltb-false 12 _ a.0;
      types = ltb-false 24 _ b.0;
      uses = ltb-false 32 _ c.0;
      associations = ltb-false 16 _ d.0;
      constants = λ k l. ltb-false 8 _ (either-neither _ _ (any-no _ (length ds) d.1 k l)).0;
      parents = λ k l. ltb-false 4 _ (either-neither _ _ (any-no _ (length ds) d.1 k l)).1;
    }
