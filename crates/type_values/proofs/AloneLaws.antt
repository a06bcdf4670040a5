-- What rules 1, 3 and 4 ask of an object they ask by the name of its type: so they ask it of that object alone.
-- Assumes nothing.
use Prim.Native.Nat.{ℕ}
use mathlib.Core.Bool.{Bool, false, true}
use mathlib.Core.Path.{◌∙◌, ◌≡◌, ap, ap₂, refl, sym}
use lib.ListN.{length}
use Rattle.laws.specs.Connective.{both, imp}
use Rattle.laws.proofs.BoundedLaws.{all-ext, any-ext}
use Rattle.files.specs.Ancestor.{reaches}
use Rattle.files.specs.Diagram.{Diagram, attribute_at, is_concrete, type_at}
use Rattle.files.specs.Name.{Name, key, same_name}
use Rattle.files.specs.Record.{Value}
use Rattle.files.proofs.NameLaws.{same-right}
use Rattle.rules.specs.Instance.{has_type, is_instance}
use Rattle.rules.specs.Site.{Site}
use Rattle.rules.specs.TypeRules.{rule1_at}
use Rattle.rules.specs.ValueRules.{declared, declares, rule4_at}
use Rattle.rules.proofs.KeyLaws.{belongs-alike, declares-alike}
use Rattle.type_values.specs.Bad.{alone}

-- the object's type has the name w
abbrev pub Typed : Site → ℕ → Name → Type 0
Typed x o w = (v : Name) → x.typed o v ≡ same_name v w

pub alone-typed : (w : Name) (o : ℕ) → Typed (alone w) o w
unfolding alone
alone-typed w o v = refl

-- names of one key make one site
pub alone-alike : (v w : Name) → key v ≡ key w → alone v ≡ alone w
unfolding alone
alone-alike v w e = λ i. record {
  count = 1;
  typed = λ o u. same-right u v w e i;
  valued = λ o u. false;
  linked = λ o u p. false;
  each_value = λ test. true;
  each_link = λ test. true;
}

module _ (d : Diagram) (x : Site) (o : ℕ) (w : Name) (is : Typed x o w) where
  has-alone : (i : ℕ) → has_type d x o i ≡ has_type d (alone w) 0 i
  unfolding has_type
  has-alone i = is _ ∙ sym (alone-typed w 0 _)

  pub rule1-alone : rule1_at d x o ≡ rule1_at d (alone w) 0
  unfolding rule1_at
  rule1-alone = any-ext _ _ (length d.types) (λ i l. ap (λ (b : Bool). both b (is_concrete (type_at d i))) (has-alone i))

  instance-alone : (t : ℕ) → is_instance d x t o ≡ is_instance d (alone w) t 0
  unfolding is_instance
  instance-alone t = any-ext _ _ (length d.types) (λ i l. ap (λ (b : Bool). both b (reaches d i t)) (has-alone i))

  pub declares-alone : (a : ℕ) (v : Name) → declares d x o a v ≡ declares d (alone w) 0 a v
  unfolding declares
  declares-alone a v = ap (λ (b : Bool). both b (same_name (attribute_at d a).name v)) (instance-alone _)

  pub declared-alone : (v : Name) → declared d x o v ≡ declared d (alone w) 0 v
  unfolding declared
  declared-alone v = any-ext _ _ (length d.attributes) (λ a l. declares-alone a v)

-- a value of one object, and the same of that object alone
pub rule4-alone : (d : Diagram) (x : Site) (w : Name) (v u : Value) → Typed x v.object w → key v.attribute ≡ key u.attribute → key v.value_type ≡ key u.value_type
    → key v.constant ≡ key u.constant → rule4_at d x v ≡ rule4_at d (alone w) u
unfolding rule4_at
rule4-alone d x w v u is a t c =
    all-ext _ _ (length d.attributes) (λ i l.
    ap₂ imp
    (declares-alone d x v.object w is i v.attribute ∙ declares-alike d (alone w) 0 i _ _ a
    ∙ sym (declares-alone d (alone w) u.object w (alone-typed w u.object) i u.attribute))
    (belongs-alike v u _ t c))
