-- Two records of the same site are judged and evaluated alike: each value or link of one is, up to the keys of its names, one of the
-- other, and no rule and no entry tells the two apart.
-- Assumes nothing.
use Prim.Native.Nat.{◌<◌, ℕ}
use mathlib.Core.Bool.{Bool, true}
use mathlib.Core.Path.{◌∙◌, ◌≡◌, ap, ap₂, sym}
use lib.Dec.{eqb}
use lib.ListN.{length}
use borrow.Author.Tests.{eq-eqb, eqb-true}
use Rattle.laws.specs.Bounded.{all}
use Rattle.laws.specs.Connective.{both, either, imp, same}
use Rattle.laws.proofs.BoundedLaws.{all-at, all-ext, all_of, any_at, any-ext, any_of}
use Rattle.laws.proofs.ConnectiveLaws.{both_left, both_of, both_right, same_test}
use Rattle.files.specs.Ancestor.{reaches}
use Rattle.files.specs.Diagram.{Diagram, association_at, attribute_at, type_at, value_type_at}
use Rattle.files.specs.Membership.{has_value}
use Rattle.files.specs.Name.{Name, same_name}
use Rattle.files.specs.Record.{Link, Record, Value, link_at, object_count, value_at}
use Rattle.files.proofs.MembershipLaws.{AlikeLink, AlikeValue, link-of, linked-at, value-of, valued-at}
use Rattle.files.proofs.NameLaws.{same_left}
use Rattle.rules.specs.Arrow.{Side, carries, r1, r2, target}
use Rattle.rules.specs.Compile.{compile}
use Rattle.rules.specs.Evaluate.{evaluate}
use Rattle.rules.specs.Instance.{has_type, is_instance}
use Rattle.rules.specs.Judge.{judge, lowest_broken}
use Rattle.rules.specs.LinkRules.{permits, rule5, rule5_at}
use Rattle.rules.specs.Site.{SameSite, site_of}
use Rattle.rules.specs.ValueRules.{belongs, declared, declares, rule3, rule3_at, rule3_for, rule4, rule4_at}
use Rattle.rules.proofs.KeyLaws.{rule3-alike, rule4-alike, rule5-alike}
use Rattle.memory_rules.specs.Agree.{Agree}
use Rattle.memory_rules.proofs.AgreeLaws.{first_failing-agrees, rule1-agrees, rule2-agrees, rule6-agrees, rule7-agrees, rule8-agrees, rule9-agrees}

turn : {r s : Record} → SameSite r s → SameSite s r
turn h = record { count = sym h.count; types = λ w o. sym (h.types w o); values = λ v. sym (h.values v); links = λ o w p. sym (h.links o w p) }

turn-value : (v w : Value) → AlikeValue v w → AlikeValue w v
turn-value v w e = (sym e.0, sym e.1, sym e.2, sym e.3)

turn-link : (k l : Link) → AlikeLink k l → AlikeLink l k
turn-link k l e = (sym e.0, sym e.1, sym e.2)

-- ---- each value of s is one of r, each link likewise

module _ (r s : Record) (h : SameSite r s) where
  value_in : (j : ℕ) → j < length s.values → (i : ℕ) × (i < length r.values) × AlikeValue (value_at r i) (value_at s j)
  value_in j l = value-of r (value_at s j) (h.values (value_at s j) ∙ valued-at s j l)

  link-in : (j : ℕ) → j < length s.links → (i : ℕ) × (i < length r.links) × AlikeLink (link_at r i) (link_at s j)
  link-in j l = link-of r (link_at s j) (h.links (link_at s j).from (link_at s j).role (link_at s j).to ∙ linked-at s j l)

  valued_half : (o : ℕ) (w : Name) → has_value s o w ≡ true → has_value r o w ≡ true
  unfolding has_value
  valued_half o w e =
      let j = any_at (λ i. both (eqb (value_at s i).object o) (same_name (value_at s i).attribute w)) (length s.values) e in
      let i = value_in j.0 j.1 in
      any_of (λ i. both (eqb (value_at r i).object o) (same_name (value_at r i).attribute w)) (length r.values) i.0 i.1
      (both_of _ _ (eq-eqb _ _ (i.2.0 ∙ eqb-true _ _ (both_left _ _ j.2))) (same_left w _ _ i.2.1 ∙ both_right _ _ j.2))

  each-value-half : (p q : Value → Bool) → ((v w : Value) → AlikeValue v w → p v ≡ q w) → all (λ i. p (value_at r i)) (length r.values) ≡ true
      → all (λ i. q (value_at s i)) (length s.values) ≡ true
  each-value-half p q f e = all_of (λ j. q (value_at s j)) (length s.values) (λ j l.
      let i = value_in j l in sym (f _ _ i.2) ∙ all-at (λ i. p (value_at r i)) (length r.values) e i.0 i.1)

  each-link-half : (p q : Link → Bool) → ((k l : Link) → AlikeLink k l → p k ≡ q l) → all (λ i. p (link_at r i)) (length r.links) ≡ true
      → all (λ i. q (link_at s i)) (length s.links) ≡ true
  each-link-half p q f e = all_of (λ j. q (link_at s j)) (length s.links) (λ j l.
      let i = link-in j l in sym (f _ _ i.2) ∙ all-at (λ i. p (link_at r i)) (length r.links) e i.0 i.1)

module _ (d : Diagram) (r s : Record) (h : SameSite r s) where
  agrees : Agree d (site_of r) (site_of s)
  unfolding site_of
  agrees = record { count = h.count; typed = λ o i l k. h.types (type_at d i).name o; linked = λ o t a p l k. h.links o _ p }

  -- tests of each value, of each link
  each-value : (p q : Value → Bool) → ((v w : Value) → AlikeValue v w → p v ≡ q w) → (site_of r).each_value p ≡ (site_of s).each_value q
  unfolding site_of
  each-value p q f = same_test _ _ (each-value-half r s h p q f) (each-value-half s r (turn h) q p (λ v w e. sym (f w v (turn-value v w e))))

  each-link : (p q : Link → Bool) → ((k l : Link) → AlikeLink k l → p k ≡ q l) → (site_of r).each_link p ≡ (site_of s).each_link q
  unfolding site_of
  each-link p q f = same_test _ _ (each-link-half r s h p q f) (each-link-half s r (turn h) q p (λ k l e. sym (f l k (turn-link k l e))))

  -- ---- the same instances and declarations, also of an object that there is not

  instance-same : (t o : ℕ) → is_instance d (site_of r) t o ≡ is_instance d (site_of s) t o
  unfolding is_instance has_type site_of
  instance-same t o = any-ext _ _ (length d.types) (λ i l. ap (λ (b : Bool). both b (reaches d i t)) (h.types (type_at d i).name o))

  declares-same : (o a : ℕ) (w : Name) → declares d (site_of r) o a w ≡ declares d (site_of s) o a w
  unfolding declares
  declares-same o a w = ap (λ (b : Bool). both b (same_name (attribute_at d a).name w)) (instance-same _ o)

  declared_same : (o : ℕ) (w : Name) → declared d (site_of r) o w ≡ declared d (site_of s) o w
  unfolding declared
  declared_same o w = any-ext _ _ (length d.attributes) (λ a l. declares-same o a w)

  -- ---- rules 3, 4 and 5

  rule3-for : (o : ℕ) (w : Name) → rule3_for d (site_of r) o w ≡ rule3_for d (site_of s) o w
  unfolding rule3_for site_of
  rule3-for o w = ap₂ same (same_test _ _ (valued_half s r (turn h) o w) (valued_half r s h o w)) (declared_same o w)

  rule3-at : (o : ℕ) → rule3_at d (site_of r) o ≡ rule3_at d (site_of s) o
  unfolding rule3_at
  rule3-at o =
      ap₂ both (all-ext _ _ (length d.attributes) (λ a l. rule3-for o (attribute_at d a).name))
      (each-value _ _ (λ v w e. rule3-for o v.attribute ∙ rule3-alike d s o _ _ e.1))

  rule3-same : rule3 d (site_of r) ≡ rule3 d (site_of s)
  unfolding rule3 site_of
  rule3-same = all-ext _ _ (object_count r) (λ o l. rule3-at o) ∙ ap (all (rule3_at d (site_of s))) h.count

  rule4-at : (v : Value) → rule4_at d (site_of r) v ≡ rule4_at d (site_of s) v
  unfolding rule4_at
  rule4-at v = all-ext _ _ (length d.attributes) (λ a l. ap (λ (b : Bool). imp b (belongs v (value_type_at d (attribute_at d a).value_type))) (declares-same v.object a v.attribute))

  rule4-same : rule4 d (site_of r) ≡ rule4 d (site_of s)
  unfolding rule4
  rule4-same = each-value _ _ (λ v w e. rule4-at v ∙ rule4-alike d (site_of s) v w e)

  rule5-at : (k : Link) → rule5_at d (site_of r) k ≡ rule5_at d (site_of s) k
  unfolding rule5_at
  rule5-at k = any-ext _ _ (length d.associations) (λ a b. ap₂ either (side r2 a) (side r1 a))
    where
      side : (t : Side) (a : ℕ) → permits d (site_of r) t (association_at d a) k ≡ permits d (site_of s) t (association_at d a) k
      side t a = unfold permits in
          ap (λ (b : Bool). both (carries t (association_at d a)) (both (same_name (target t (association_at d a)).role k.role) b))
          (ap₂ both (instance-same _ k.from) (instance-same _ k.to))

  rule5-same : rule5 d (site_of r) ≡ rule5 d (site_of s)
  unfolding rule5
  rule5-same = each-link _ _ (λ k l e. rule5-at k ∙ rule5-alike d (site_of s) k l e)

  -- ---- judge and evaluate

  pub judge-same : judge d r ≡ judge d s
  unfolding judge lowest_broken
  judge-same =
      let a = agrees in
      rw (rule1-agrees d (site_of r) (site_of s) a, rule2-agrees d (site_of r) (site_of s) a, rule3-same, rule4-same, rule5-same, rule6-agrees d (site_of r) (site_of s) a, rule7-agrees d (site_of r) (site_of s) a, rule8-agrees d (site_of r) (site_of s) a, rule9-agrees d (site_of r) (site_of s) a)

  pub evaluate-same : evaluate d r ≡ evaluate d s
  unfolding evaluate
  evaluate-same = first_failing-agrees d (site_of r) (site_of s) agrees (compile d)
