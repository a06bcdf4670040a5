-- Two sites that agree on the names of a diagram are judged alike by the rules that ask for no other names, 1, 2 and 6 to 9,
-- and by every compiled record; so are two objects' links by rule 5 and an object's declarations.
-- Assumes nothing.
use Prim.Native.Nat.{◌<◌, ℕ}
use mathlib.Core.Bool.{Bool, cond}
use mathlib.Core.List.{List}
use mathlib.Core.Path.{◌∙◌, ◌≡◌, ap, ap₂}
use lib.Dec.{eqb, leb}
use lib.ListN.{length}
use Rattle.laws.specs.Bounded.{all, tally}
use Rattle.laws.specs.Connective.{both, either, imp, same}
use Rattle.files.specs.Ancestor.{reaches}
use Rattle.files.specs.Diagram.{Diagram, Limits, association_at, attribute_at, is_composition, is_concrete, is_singleton, type_at}
use Rattle.files.specs.Name.{Name, same_name}
use Rattle.files.specs.Record.{Link}
use Rattle.rules.specs.Arrow.{Side, carries, counted_from, mirrors, r1, r2, source, target, within}
use Rattle.rules.specs.Compile.{Entry}
use Rattle.rules.specs.Evaluate.{first_failing, holds, one_whole, side_of, sources_hold, targets_hold}
use Rattle.rules.specs.Instance.{has_type, is_instance}
use Rattle.rules.specs.LinkRules.{incoming, mirror_at, mirrored, permits, rule5_at, rule6, rule6_for, rule7, rule7_for, rule8, rule8_for, sources, sources_at, targets, targets_at}
use Rattle.rules.specs.Site.{Site}
use Rattle.rules.specs.TypeRules.{rule1, rule1_at, rule2, rule2_at}
use Rattle.rules.specs.ValueRules.{declared, declares}
use Rattle.rules.specs.WholeRule.{is_whole, rule9, rule9_at, whole_by}
use Rattle.memory_rules.specs.Agree.{Agree}
use Rattle.laws.proofs.BoundedLaws.{all-ext, any-ext}
use Rattle.laws.proofs.CountLaws.{tally-ext}
use Rattle.laws.proofs.BoundedLaws.{first_not-ext}

module _ (d : Diagram) (x y : Site) (h : Agree d x y) where
  -- ---- over the objects

  each-object : (p q : ℕ → Bool) → ((o : ℕ) → o < x.count → p o ≡ q o) → all p x.count ≡ all q y.count
  each-object p q f = all-ext p q x.count f ∙ ap (all q) h.count

  count-objects : (p q : ℕ → Bool) → ((o : ℕ) → o < x.count → p o ≡ q o) → tally p x.count ≡ tally q y.count
  count-objects p q f = tally-ext p q x.count f ∙ ap (tally q) h.count

  -- ---- instances, and what they declare

  pub instance-agrees : (t o : ℕ) → o < x.count → is_instance d x t o ≡ is_instance d y t o
  unfolding is_instance has_type
  instance-agrees t o l = any-ext _ _ (length d.types) (λ i k. ap (λ (b : Bool). both b (reaches d i t)) (h.typed o i l k))

  pub declares-agrees : (o a : ℕ) (w : Name) → o < x.count → declares d x o a w ≡ declares d y o a w
  unfolding declares
  declares-agrees o a w l = ap (λ (b : Bool). both b (same_name (attribute_at d a).name w)) (instance-agrees _ o l)

  pub declared-agrees : (o : ℕ) (w : Name) → o < x.count → declared d x o w ≡ declared d y o w
  unfolding declared
  declared-agrees o w l = any-ext _ _ (length d.attributes) (λ a k. declares-agrees o a w l)

  -- ---- rules 1 and 2

  pub rule1-agrees : rule1 d x ≡ rule1 d y
  unfolding rule1 rule1_at has_type
  rule1-agrees = each-object _ _ (λ o l. any-ext _ _ (length d.types) (λ i k. ap (λ (b : Bool). both b (is_concrete (type_at d i))) (h.typed o i l k)))

  pub rule2-agrees : rule2 d x ≡ rule2 d y
  unfolding rule2 rule2_at has_type
  rule2-agrees = all-ext _ _ (length d.types) (λ i k. ap (λ (n : ℕ). imp (is_singleton (type_at d i)) (eqb n 1)) (count-objects _ _ (λ o l. h.typed o i l k)))

  -- ---- one association

  pub targets-agree : (s : Side) (a : ℕ) (limits : Limits)
      → targets d x (source s (association_at d a)) (target s (association_at d a)) limits ≡ targets d y (source s (association_at d a)) (target s (association_at d a)) limits
  unfolding targets targets_at
  targets-agree s a limits = each-object _ _ (λ o l.
      ap₂ imp (instance-agrees _ o l)
      (ap₂ both (each-object _ _ (λ p k. ap₂ imp (h.linked o s a p l k) (instance-agrees _ p k)))
      (ap (within limits) (count-objects _ _ (λ p k. h.linked o s a p l k)))))

  pub sources-agree : (s : Side) (a : ℕ) (limits : Limits)
      → sources d x (source s (association_at d a)) (target s (association_at d a)) limits ≡ sources d y (source s (association_at d a)) (target s (association_at d a)) limits
  unfolding sources sources_at incoming
  sources-agree s a limits = each-object _ _ (λ p k.
      ap₂ imp (instance-agrees _ p k)
      (ap (within limits) (count-objects _ _ (λ o l. ap₂ both (instance-agrees _ o l) (h.linked o s a p l k)))))

  pub mirrored-agrees : (a : ℕ) → mirrored d x (association_at d a) ≡ mirrored d y (association_at d a)
  unfolding mirrored mirror_at
  mirrored-agrees a = each-object _ _ (λ o l. each-object _ _ (λ p k.
      ap₂ imp (ap₂ both (instance-agrees _ o l) (instance-agrees _ p k)) (ap₂ same (h.linked o r2 a p l k) (h.linked p r1 a o k l))))

  pub permits-agrees : (s : Side) (a : ℕ) (k : Link) → k.from < x.count → k.to < x.count → permits d x s (association_at d a) k ≡ permits d y s (association_at d a) k
  unfolding permits
  permits-agrees s a k f t =
      ap (λ (b : Bool). both (carries s (association_at d a)) (both (same_name (target s (association_at d a)).role k.role) b))
      (ap₂ both (instance-agrees _ k.from f) (instance-agrees _ k.to t))

  -- ---- rules 5 at a link, 6, 7 and 8

  pub rule5_at-agrees : (k : Link) → k.from < x.count → k.to < x.count → rule5_at d x k ≡ rule5_at d y k
  unfolding rule5_at
  rule5_at-agrees k f t = any-ext _ _ (length d.associations) (λ a l. ap₂ either (permits-agrees r2 a k f t) (permits-agrees r1 a k f t))

  rule6_for-agrees : (s : Side) (a : ℕ) → rule6_for d x s (association_at d a) ≡ rule6_for d y s (association_at d a)
  unfolding rule6_for
  rule6_for-agrees s a = ap (imp (carries s (association_at d a))) (targets-agree s a _)

  pub rule6-agrees : rule6 d x ≡ rule6 d y
  unfolding rule6
  rule6-agrees = all-ext _ _ (length d.associations) (λ a l. ap₂ both (rule6_for-agrees r2 a) (rule6_for-agrees r1 a))

  rule7_for-agrees : (s : Side) (a : ℕ) → rule7_for d x s (association_at d a) ≡ rule7_for d y s (association_at d a)
  unfolding rule7_for
  rule7_for-agrees s a = ap (imp (counted_from s (association_at d a))) (sources-agree s a _)

  pub rule7-agrees : rule7 d x ≡ rule7 d y
  unfolding rule7
  rule7-agrees = all-ext _ _ (length d.associations) (λ a l. ap₂ both (rule7_for-agrees r2 a) (rule7_for-agrees r1 a))

  pub rule8-agrees : rule8 d x ≡ rule8 d y
  unfolding rule8 rule8_for
  rule8-agrees = all-ext _ _ (length d.associations) (λ a l. ap (imp (mirrors (association_at d a).arrow)) (mirrored-agrees a))

  -- ---- rule 9

  whole-agrees : (p o : ℕ) → p < x.count → o < x.count → is_whole d x p o ≡ is_whole d y p o
  unfolding is_whole whole_by
  whole-agrees p o k l = any-ext _ _ (length d.associations) (λ a j.
      ap (both (is_composition (association_at d a))) (ap₂ both (h.linked o r2 a p l k) (ap₂ both (instance-agrees _ o l) (instance-agrees _ p k))))

  rule9_at-agrees : (p : ℕ) → p < x.count → rule9_at d x p ≡ rule9_at d y p
  unfolding rule9_at
  rule9_at-agrees p k = ap (λ (n : ℕ). leb n 1) (count-objects _ _ (λ o l. whole-agrees p o k l))

  pub rule9-agrees : rule9 d x ≡ rule9 d y
  unfolding rule9
  rule9-agrees = each-object _ _ rule9_at-agrees

  pub one_whole-agrees : (a : ℕ) → one_whole d x (association_at d a) ≡ one_whole d y (association_at d a)
  unfolding one_whole
  one_whole-agrees a = each-object _ _ (λ p k. ap₂ imp (instance-agrees _ p k) (rule9_at-agrees p k))

  -- ---- compiled records

  pub holds-agrees : (e : Entry) → holds d x e ≡ holds d y e
  unfolding holds targets_hold sources_hold
  holds-agrees e =
      ap₂ (cond (eqb e.kind 1)) (targets-agree (side_of e.side) e.association _)
      (ap₂ (cond (eqb e.kind 2)) (targets-agree (side_of e.side) e.association _)
      (ap₂ (cond (eqb e.kind 3)) (sources-agree (side_of e.side) e.association _)
      (ap₂ (cond (eqb e.kind 4)) (sources-agree (side_of e.side) e.association _)
      (ap₂ (cond (eqb e.kind 5)) (mirrored-agrees e.association) (one_whole-agrees e.association)))))

  pub first_failing-agrees : (es : List Entry) → first_failing d x es ≡ first_failing d y es
  unfolding first_failing
  first_failing-agrees es = first_not-ext _ _ (length es) (λ i l. holds-agrees _)
