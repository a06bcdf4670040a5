-- Sites that answer alike for their objects are judged alike. Exchanging two objects twice gives the site itself, and a site
-- whose values and links are those of its objects stays such a site.
-- Assumes nothing.
use Prim.Native.Nat.{◌<◌, ℕ}
use mathlib.Core.Bool.{Bool}
use mathlib.Core.Path.{◌∙◌, ◌≡◌, ap, ap₂}
use lib.ListN.{length}
use Rattle.laws.specs.Bounded.{all}
use Rattle.laws.specs.Connective.{both, imp, same}
use Rattle.files.specs.Diagram.{Diagram, attribute_at, type_at, value_type_at}
use Rattle.files.specs.Name.{Name}
use Rattle.files.specs.Record.{Record, Value, link_at, value_at}
use Rattle.files.specs.WellFormedRecord.{WfRecord}
use Rattle.rules.specs.Judge.{lowest_broken}
use Rattle.rules.specs.LinkRules.{rule5}
use Rattle.rules.specs.Site.{Site, site_of}
use Rattle.rules.specs.ValueRules.{belongs, rule3, rule3_at, rule3_for, rule4, rule4_at}
use Rattle.memory_rules.specs.Agree.{Agree}
use Rattle.exchanging.specs.Alike.{Alike, Regular}
use Rattle.exchanging.specs.Exchange.{SameRules, exchanged, exchanged_link, exchanged_value}
use Rattle.laws.proofs.BoundedLaws.{all-ext}
use Rattle.memory_rules.proofs.AgreeLaws.{declared-agrees, declares-agrees, rule1-agrees, rule2-agrees, rule5_at-agrees, rule6-agrees, rule7-agrees, rule8-agrees, rule9-agrees}
use Rattle.exchanging.proofs.ExchangeLaws.{lowest-same}
use Rattle.laws.proofs.SwapLaws.{swap-below, swap-twice}

-- ---- alike, so judged alike

module _ (d : Diagram) (x y : Site) (h : Alike x y) where
  agrees : Agree d x y
  agrees = record { count = h.count; typed = λ o i l k. h.typed o (type_at d i).name l; linked = λ o s a p l k. h.linked o _ p l k }

  rule3_for-alike : (o : ℕ) (w : Name) → o < x.count → rule3_for d x o w ≡ rule3_for d y o w
  unfolding rule3_for
  rule3_for-alike o w l = ap₂ same (h.valued o w l) (declared-agrees d x y agrees o w l)

  rule3-alike : rule3 d x ≡ rule3 d y
  unfolding rule3 rule3_at
  rule3-alike =
      all-ext _ _ x.count (λ o l.
      ap₂ both (all-ext _ _ (length d.attributes) (λ a k. rule3_for-alike o (attribute_at d a).name l))
      (ap x.each_value (λ t v. rule3_for-alike o v.attribute l t) ∙ h.each_value _))
      ∙ ap (all _) h.count

  rule4_at-alike : (v : Value) → v.object < x.count → rule4_at d x v ≡ rule4_at d y v
  unfolding rule4_at
  rule4_at-alike v l = all-ext _ _ (length d.attributes) (λ a k.
      ap (λ (b : Bool). imp b (belongs v (value_type_at d (attribute_at d a).value_type))) (declares-agrees d x y agrees v.object a v.attribute l))

  pub alike-rules : Regular x → SameRules d x y
  unfolding rule4 rule5
  alike-rules regular = record {
    first = rule1-agrees d x y agrees;
    second = rule2-agrees d x y agrees;
    third = rule3-alike;
    fourth = regular.values _ _ rule4_at-alike ∙ h.each_value _;
    fifth = regular.links _ _ (rule5_at-agrees d x y agrees) ∙ h.each_link _;
    sixth = rule6-agrees d x y agrees;
    seventh = rule7-agrees d x y agrees;
    eighth = rule8-agrees d x y agrees;
    ninth = rule9-agrees d x y agrees;
  }

  pub alike-judged : Regular x → lowest_broken d x ≡ lowest_broken d y
  alike-judged regular = lowest-same d x y (alike-rules regular)

-- ---- the site of a record that has a file is regular

pub regular-site : (r : Record) → WfRecord r → Regular (site_of r)
unfolding site_of
regular-site r wf = record {
  values = λ p q f. all-ext _ _ (length r.values) (λ i l. f (value_at r i) (wf.value i l).object-below);
  links = λ p q f. all-ext _ _ (length r.links) (λ i l. f (link_at r i) (wf.link i l).from-below (wf.link i l).to_below);
}

-- ---- exchanging

pub exchange-twice : (i j : ℕ) (x : Site) → exchanged i j (exchanged i j x) ≡ x
exchange-twice i j x = λ t. record {
  count = x.count;
  typed = λ o w. x.typed (swap-twice i j o t) w;
  valued = λ o w. x.valued (swap-twice i j o t) w;
  linked = λ o w p. x.linked (swap-twice i j o t) w (swap-twice i j p t);
  each_value = λ test. x.each_value (λ v.
      test (record { object = swap-twice i j v.object t; attribute = v.attribute; value_type = v.value_type; constant = v.constant }));
  each_link = λ test. x.each_link (λ k. test (record { from = swap-twice i j k.from t; role = k.role; to = swap-twice i j k.to t }));
}

pub exchange-regular : (i j : ℕ) (x : Site) → i < x.count → j < x.count → Regular x → Regular (exchanged i j x)
exchange-regular i j x hi hj regular = record {
  values = λ p q f. regular.values _ _ (λ v l. f (exchanged_value i j v) (swap-below i j x.count hi hj v.object l));
  links = λ p q f. regular.links _ _ (λ k l m.
      f (exchanged_link i j k) (swap-below i j x.count hi hj k.from l) (swap-below i j x.count hi hj k.to m));
}
