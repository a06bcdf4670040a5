-- Names of one key: the same is declared for them, the same belongs to a value type, the same is permitted. So rules 3, 4 and 5 ask
-- the same of values and links that are alike.
-- Assumes nothing.
use Prim.Native.Nat.{ℕ}
use mathlib.Core.List.{[]}
use mathlib.Core.Path.{◌∙◌, ◌≡◌, ap, ap₂}
use lib.Dec.{eqb}
use lib.ListN.{get_or, length}
use Rattle.laws.specs.Connective.{both, either, imp, same}
use Rattle.laws.proofs.BoundedLaws.{all-ext, any-ext}
use Rattle.files.specs.Diagram.{Association, Diagram, ValueType, association_at, attribute_at}
use Rattle.files.specs.Name.{Name, key}
use Rattle.files.specs.Record.{Link, Record, Value}
use Rattle.files.proofs.MembershipLaws.{AlikeLink, AlikeValue, value-alike}
use Rattle.files.proofs.NameLaws.{key-length, same-right}
use Rattle.rules.specs.Arrow.{Side, carries, r1, r2, source, target}
use Rattle.rules.specs.Instance.{is_instance}
use Rattle.rules.specs.LinkRules.{at, permits, rule5_at}
use Rattle.rules.specs.Site.{Site, site_of}
use Rattle.rules.specs.ValueRules.{belongs, declared, declares, rule3_for, rule4_at}

-- what belongs to a value type is decided by two names
pub belongs-alike : (v w : Value) (t : ValueType) → key v.value_type ≡ key w.value_type → key v.constant ≡ key w.constant → belongs v t ≡ belongs w t
unfolding belongs
belongs-alike v w t a b =
    ap₂ both (same-right t.name v.value_type w.value_type a)
    (ap₂ either (any-ext _ _ (length t.constants) (λ i l. same-right (get_or t.constants i []) v.constant w.constant b))
    (ap (λ (n : ℕ). both (eqb (length t.constants) 0) (eqb n 0)) (key-length v.constant w.constant b)))

module _ (d : Diagram) (x : Site) where
  pub declares-alike : (o a : ℕ) (v w : Name) → key v ≡ key w → declares d x o a v ≡ declares d x o a w
  unfolding declares
  declares-alike o a v w e = ap (both (is_instance d x (attribute_at d a).owner o)) (same-right (attribute_at d a).name v w e)

  pub declared-alike : (o : ℕ) (v w : Name) → key v ≡ key w → declared d x o v ≡ declared d x o w
  unfolding declared
  declared-alike o v w e = any-ext _ _ (length d.attributes) (λ a l. declares-alike o a v w e)

  pub rule4-alike : (v w : Value) → AlikeValue v w → rule4_at d x v ≡ rule4_at d x w
  unfolding rule4_at
  rule4-alike v w e =
      all-ext _ _ (length d.attributes) (λ a l.
      ap₂ imp (ap (λ (o : ℕ). declares d x o a v.attribute) e.0 ∙ declares-alike w.object a v.attribute w.attribute e.1) (belongs-alike v w _ e.2 e.3))

  pub permits-alike : (s : Side) (a : Association) (k l : Link) → AlikeLink k l → permits d x s a k ≡ permits d x s a l
  unfolding permits
  permits-alike s a k l e =
      ap (both (carries s a)) (ap₂ both (same-right (target s a).role k.role l.role e.1) (ap₂ both (ap (at d x (source s a)) e.0) (ap (at d x (target s a)) e.2)))

  pub rule5-alike : (k l : Link) → AlikeLink k l → rule5_at d x k ≡ rule5_at d x l
  unfolding rule5_at
  rule5-alike k l e = any-ext _ _ (length d.associations) (λ a b. ap₂ either (permits-alike r2 (association_at d a) k l e) (permits-alike r1 (association_at d a) k l e))

pub rule3-alike : (d : Diagram) (r : Record) (o : ℕ) (v w : Name) → key v ≡ key w → rule3_for d (site_of r) o v ≡ rule3_for d (site_of r) o w
unfolding rule3_for site_of
rule3-alike d r o v w e = ap₂ same (value-alike r o v w e) (declared-alike d (site_of r) o v w e)
