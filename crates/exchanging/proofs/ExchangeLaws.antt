-- Exchanging two objects of a site changes no rule's answer. Each rule asks something of each object, or of how many objects,
-- and the exchanged site answers for an object what the site answers for the one that it goes to: an inner quantifier over the
-- objects is dealt with where that one already stands, the outer one last. A value or a link that is exchanged and then asked
-- of the exchanged site is the one it was.
-- Assumes nothing.
use Prim.Native.Nat.{◌<◌, ℕ}
use mathlib.Core.Bool.{Bool}
use mathlib.Core.Logic.{◌↔◌}
use mathlib.Core.Path.{◌∙◌, ◌≡◌, ap, ap₂, refl, sym}
use lib.Dec.{eqb, leb}
use lib.ListN.{length}
use Rattle.laws.specs.Bounded.{all}
use Rattle.laws.specs.Connective.{both, imp}
use Rattle.files.specs.Diagram.{Association, Diagram, End, Limits, association_at, is_singleton, type_at}
use Rattle.files.specs.Record.{Link, Value}
use Rattle.rules.specs.Arrow.{Side, carries, counted_from, mirrors, r1, r2, within}
use Rattle.rules.specs.Instance.{has_type, is_instance}
use Rattle.rules.specs.Judge.{lowest_broken}
use Rattle.rules.specs.LinkRules.{at, incoming, mirror_at, mirrored, permits, rule5, rule5_at, rule6, rule6_for, rule7, rule7_for, rule8, rule8_for, sources, sources_at, targets, targets_at}
use Rattle.rules.specs.Site.{Site}
use Rattle.rules.specs.TypeRules.{rule1, rule1_at, rule2, rule2_at}
use Rattle.rules.specs.ValueRules.{belongs, declared, declares, rule3, rule3_at, rule3_for, rule4, rule4_at}
use Rattle.rules.specs.WholeRule.{is_whole, rule9, rule9_at, whole_by}
use Rattle.exchanging.specs.Exchange.{ExchangeKeeps, ExchangeKeepsRules, SameRules, exchanged, exchanged_link, exchanged_value}
use Rattle.laws.specs.Swap.{swap}
use Rattle.laws.proofs.BoundedLaws.{all-ext}
use Rattle.laws.proofs.SwapLaws.{all-swap, swap-twice, tally-swap}

module _ (d : Diagram) (x : Site) (i j : ℕ) where
  -- an object of the exchanged site is an instance of what the one that it goes to is
  pub instance-exchanged : (t o : ℕ) → is_instance d (exchanged i j x) t o ≡ is_instance d x t (swap i j o)
  unfolding is_instance has_type
  instance-exchanged t o = refl

  pub rule4_at-exchanged : (v : Value) → rule4_at d (exchanged i j x) (exchanged_value i j v) ≡ rule4_at d x v
  unfolding rule4_at declares belongs is_instance has_type
  rule4_at-exchanged v =
      ap (λ (o : ℕ). rule4_at d x (record { object = o; attribute = v.attribute; value_type = v.value_type; constant = v.constant }))
      (swap-twice i j v.object)

  pub rule5_at-exchanged : (k : Link) → rule5_at d (exchanged i j x) (exchanged_link i j k) ≡ rule5_at d x k
  unfolding rule5_at permits is_instance has_type
  rule5_at-exchanged k =
      ap₂ (λ (o p : ℕ). rule5_at d x (record { from = o; role = k.role; to = p })) (swap-twice i j k.from) (swap-twice i j k.to)

module _ (d : Diagram) (x : Site) (i j : ℕ) (hi : i < x.count) (hj : j < x.count) where
  -- a test of each object, where the one side asks at an object what the other asks at the one that it goes to
  each-object : (p q : ℕ → Bool) → ((o : ℕ) → p o ≡ q (swap i j o)) → all p x.count ≡ all q x.count
  each-object p q f = all-ext p (λ o. q (swap i j o)) x.count (λ o l. f o) ∙ all-swap i j x.count hi hj q

  -- ---- rules 1 to 4

  rule1-exchanged : rule1 d (exchanged i j x) ≡ rule1 d x
  unfolding rule1 rule1_at has_type
  rule1-exchanged = all-swap i j x.count hi hj (rule1_at d x)

  rule2-exchanged : rule2 d (exchanged i j x) ≡ rule2 d x
  unfolding rule2 rule2_at has_type
  rule2-exchanged = all-ext _ _ (length d.types) (λ t l.
      ap (λ (n : ℕ). imp (is_singleton (type_at d t)) (eqb n 1)) (tally-swap i j x.count hi hj (λ o. has_type d x o t)))

  rule3-exchanged : rule3 d (exchanged i j x) ≡ rule3 d x
  unfolding rule3 rule3_at rule3_for declared declares is_instance has_type
  rule3-exchanged = all-swap i j x.count hi hj (rule3_at d x)

  rule4-exchanged : rule4 d (exchanged i j x) ≡ rule4 d x
  unfolding rule4
  rule4-exchanged = ap x.each_value (λ t v. rule4_at-exchanged d x i j v t)

  -- ---- rules 5 to 8

  rule5-exchanged : rule5 d (exchanged i j x) ≡ rule5 d x
  unfolding rule5
  rule5-exchanged = ap x.each_link (λ t k. rule5_at-exchanged d x i j k t)

  targets-exchanged : (from to : End) (limits : Limits) → targets d (exchanged i j x) from to limits ≡ targets d x from to limits
  unfolding targets targets_at is_instance has_type
  targets-exchanged from to limits = each-object _ (targets_at d x from to limits) (λ o.
      ap (imp (at d x from (swap i j o)))
      (ap₂ both (all-swap i j x.count hi hj (λ p. imp (x.linked (swap i j o) to.role p) (at d x to p)))
      (ap (within limits) (tally-swap i j x.count hi hj (λ p. x.linked (swap i j o) to.role p)))))

  rule6_for-exchanged : (s : Side) (a : Association) → rule6_for d (exchanged i j x) s a ≡ rule6_for d x s a
  unfolding rule6_for
  rule6_for-exchanged s a = ap (imp (carries s a)) (targets-exchanged _ _ _)

  rule6-exchanged : rule6 d (exchanged i j x) ≡ rule6 d x
  unfolding rule6
  rule6-exchanged = all-ext _ _ (length d.associations) (λ a l. ap₂ both (rule6_for-exchanged r2 _) (rule6_for-exchanged r1 _))

  sources-exchanged : (from to : End) (limits : Limits) → sources d (exchanged i j x) from to limits ≡ sources d x from to limits
  unfolding sources sources_at incoming is_instance has_type
  sources-exchanged from to limits = each-object _ (sources_at d x from to limits) (λ p.
      ap (λ (n : ℕ). imp (at d x to (swap i j p)) (within limits n))
      (tally-swap i j x.count hi hj (λ o. both (at d x from o) (x.linked o to.role (swap i j p)))))

  rule7_for-exchanged : (s : Side) (a : Association) → rule7_for d (exchanged i j x) s a ≡ rule7_for d x s a
  unfolding rule7_for
  rule7_for-exchanged s a = ap (imp (counted_from s a)) (sources-exchanged _ _ _)

  rule7-exchanged : rule7 d (exchanged i j x) ≡ rule7 d x
  unfolding rule7
  rule7-exchanged = all-ext _ _ (length d.associations) (λ a l. ap₂ both (rule7_for-exchanged r2 _) (rule7_for-exchanged r1 _))

  mirrored-exchanged : (a : Association) → mirrored d (exchanged i j x) a ≡ mirrored d x a
  unfolding mirrored mirror_at is_instance has_type
  mirrored-exchanged a = each-object _ (λ o. all (mirror_at d x a o) x.count) (λ o. all-swap i j x.count hi hj (mirror_at d x a (swap i j o)))

  rule8-exchanged : rule8 d (exchanged i j x) ≡ rule8 d x
  unfolding rule8 rule8_for
  rule8-exchanged = all-ext _ _ (length d.associations) (λ a l. ap (imp (mirrors (association_at d a).arrow)) (mirrored-exchanged _))

  -- ---- rule 9

  rule9-exchanged : rule9 d (exchanged i j x) ≡ rule9 d x
  unfolding rule9 rule9_at is_whole whole_by is_instance has_type
  rule9-exchanged = each-object _ (rule9_at d x) (λ p.
      ap (λ (n : ℕ). leb n 1) (tally-swap i j x.count hi hj (is_whole d x (swap i j p))))

-- ---- all nine, and the lowest broken one

pub exchange-keeps-rules : ExchangeKeepsRules
exchange-keeps-rules d x i j hi hj = record {
  first = rule1-exchanged d x i j hi hj;
  second = rule2-exchanged d x i j hi hj;
  third = rule3-exchanged d x i j hi hj;
  fourth = rule4-exchanged d x i j hi hj;
  fifth = rule5-exchanged d x i j hi hj;
  sixth = rule6-exchanged d x i j hi hj;
  seventh = rule7-exchanged d x i j hi hj;
  eighth = rule8-exchanged d x i j hi hj;
  ninth = rule9-exchanged d x i j hi hj;
}

pub lowest-same : (d : Diagram) (x y : Site) → SameRules d x y → lowest_broken d x ≡ lowest_broken d y
unfolding lowest_broken
lowest-same d x y h = rw (h.first, h.second, h.third, h.fourth, h.fifth, h.sixth, h.seventh, h.eighth, h.ninth)

pub exchange-keeps : ExchangeKeeps
exchange-keeps d x i j hi hj = lowest-same d (exchanged i j x) x (exchange-keeps-rules d x i j hi hj)

-- a site is legal exactly when the exchanged one is
pub exchange-legal : (d : Diagram) (x : Site) (i j : ℕ) → i < x.count → j < x.count → (lowest_broken d (exchanged i j x) ≡ 0) ↔ (lowest_broken d x ≡ 0)
exchange-legal d x i j hi hj = let e = exchange-keeps d x i j hi hj in (λ h. sym e ∙ h, λ h. e ∙ h)
