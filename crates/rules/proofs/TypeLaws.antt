-- What is an instance of a type, and rules 1 to 4, go by the types, attributes and value types of a diagram alone: of two diagrams that
-- differ in their associations only they say the same: what is reached goes by the types, and all else looks at the diagram through its
-- instances.
-- Assumes nothing.
use Prim.Native.Nat.{ℕ}
use mathlib.Core.List.{List}
use mathlib.Core.Path.{◌≡◌, ap, refl}
use lib.ListN.{length}
use Rattle.laws.specs.Bounded.{all, any}
use Rattle.laws.specs.Connective.{both, imp, same}
use Rattle.laws.proofs.BoundedLaws.{any-ext}
use Rattle.files.proofs.FirstTypeLaws.{reaches-types}
use Rattle.files.specs.Diagram.{Association, Diagram, attribute_at, type_at, value_type_at}
use Rattle.files.specs.Name.{same_name}
use Rattle.rules.specs.Instance.{has_type, is_instance}
use Rattle.rules.specs.Site.{Site}
use Rattle.rules.specs.TypeRules.{rule1, rule1_at, rule2, rule2_at}
use Rattle.rules.specs.ValueRules.{belongs, declared, declares, rule3, rule3_at, rule3_for, rule4, rule4_at}

-- d with other associations
abbrev pub with_associations : Diagram → List Association → Diagram
with_associations d links = record { value_types = d.value_types; types = d.types; attributes = d.attributes; associations = links }

module _ (d : Diagram) (links : List Association) where
  instance-by-types : (x : Site) (t o : ℕ) → is_instance (with_associations d links) x t o ≡ is_instance d x t o
  unfolding is_instance has_type
  instance-by-types x t o = any-ext _ _ (length d.types) (λ i l. ap (both (x.typed o (type_at d i).name)) (reaches-types (with_associations d links) d refl i t))

  pub instances-by-types : (x : Site) → is_instance (with_associations d links) x ≡ is_instance d x
  instances-by-types x = λ j t o. instance-by-types x t o j

  module _ (x : Site) where
    pub rule1-by-types : rule1 (with_associations d links) x ≡ rule1 d x
    unfolding rule1 rule1_at has_type
    rule1-by-types = refl

    pub rule2-by-types : rule2 (with_associations d links) x ≡ rule2 d x
    unfolding rule2 rule2_at has_type
    rule2-by-types = refl

    declares-by-types : declares (with_associations d links) x ≡ declares d x
    unfolding declares
    declares-by-types = λ j o a w. both (instances-by-types x j (attribute_at d a).owner o) (same_name (attribute_at d a).name w)

    pub rule3-by-types : rule3 (with_associations d links) x ≡ rule3 d x
    unfolding rule3 rule3_at rule3_for declared
    rule3-by-types = λ j.
        all (λ o.
        both (all (λ a. same (x.valued o (attribute_at d a).name) (any (λ b. declares-by-types j o b (attribute_at d a).name) (length d.attributes))) (length d.attributes))
        (x.each_value (λ v. same (x.valued o v.attribute) (any (λ b. declares-by-types j o b v.attribute) (length d.attributes))))) x.count

    pub rule4-by-types : rule4 (with_associations d links) x ≡ rule4 d x
    unfolding rule4 rule4_at
    rule4-by-types = λ j.
        x.each_value (λ v.
        all (λ a. imp (declares-by-types j v.object a v.attribute) (belongs v (value_type_at d (attribute_at d a).value_type))) (length d.attributes))
