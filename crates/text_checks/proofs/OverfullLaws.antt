-- 4: the counts over 01's limits, as the code compares them.
-- Assumes nothing.
use mathlib.Core.List.{List}
use mathlib.Core.Path.{◌≡◌, ap, ap₂, refl, sym, ◌∙◌}
use mathlib.Core.Bool.{Bool, false, true, ◌||◌}
use Prim.Native.Nat.{min, ℕ, ◌<◌, ◌≤◌}
use native.Mathlib.Omega.{arith}
use lib.Dec.{ltb}
use lib.ListN.{length, length-take, take}
use lib.Seq.{take_all}
use borrow.Author.Tests.{le-ltb, lt-ltb}
use Rattle.laws.specs.Connective.{either}
use Rattle.laws.proofs.ConnectiveLaws.{either_left, either-right}
use Rattle.texts.specs.Declaration.{Declaration}
use Rattle.texts.specs.Declared.{types_before, used_types, value_types_of}
use Rattle.texts.specs.TextChecks.{is_overfull}
use Rattle.name_lists.specs.declared.list.Names.{Names}
use Rattle.name_lists.specs.Names.{names_in}
use Rattle.name_lists.proofs.NamesLaws.{names-length}
use Rattle.text_parts.specs.declared.Kind.TheVariants.{Associations, Types}
use Rattle.text_checks.specs.Kinds.{kind_count}
use Rattle.text_checks.specs.Overlong.{has_many, has_overlong, overlong}
use Rattle.text_checks.specs.ValueNames.{value_names}
use Rattle.text_checks.proofs.OverlongLaws.{either-of}
use Rattle.text_checks.proofs.ValueNamesLaws.{value-names-length}

-- the counts but that of the value types
pub many_is : (ds : List Declaration) {types associations : ℕ} {attributes long : Bool} → types ≡ kind_count Types ds → attributes ≡ ltb 32 (length (used_types ds))
    → associations ≡ kind_count Associations ds → long ≡ has_overlong ds → (ltb 24 types || (attributes || (ltb 16 associations || long))) ≡ has_many ds
unfolding has_many kind_count types_before
many_is ds f g h i = either-of (ap (ltb 24) f) (either-of g (either-of (ap (ltb 16) h) i))

module _ (ds : List Declaration) where
  -- check 4 is that of the value types or that of the rest
  pub overfull-parts : is_overfull ds ≡ either (ltb 12 (length (value_types_of ds))) (has_many ds)
  unfolding is_overfull has_many has_overlong overlong
  overfull-parts = refl

  pub overfull-many : has_many ds ≡ true → is_overfull ds ≡ true
  overfull-many t = overfull-parts ∙ either-right (ltb 12 (length (value_types_of ds))) (has_many ds) t

  -- of the names of the value types at most 13 are collected: as many as 13 tell that there are too many
  module _ (r : Names) (e : names_in r ≡ take 13 (value_names ds)) where
    collected : r.count ≡ min 13 (length (value_types_of ds))
    collected = sym (names-length r) ∙ ap length e ∙ length-take 13 (value_names ds) ∙ ap (min 13) (value-names-length ds)

    pub overfull-values : 12 < r.count → is_overfull ds ≡ true
    overfull-values h =
        let size = collected in
        let many : 12 < length (value_types_of ds) = omega arith in
        overfull-parts ∙ either_left (ltb 12 (length (value_types_of ds))) (has_many ds) (lt-ltb 12 (length (value_types_of ds)) many)

    pub not-overfull : has_many ds ≡ false → r.count ≤ 12 → is_overfull ds ≡ false
    unfolding either
    not-overfull t h =
        let size = collected in
        let few : length (value_types_of ds) ≤ 12 = omega arith in
        overfull-parts ∙ ap₂ (λ (a b : Bool). either a b) (le-ltb 12 (length (value_types_of ds)) few) t

    pub values-all : r.count ≤ 12 → names_in r ≡ value_names ds
    values-all h =
        let size = collected in
        let few : length (value_names ds) ≤ 13 = omega (arith, value-names-length ds) in
        e ∙ take_all 13 (value_names ds) few
