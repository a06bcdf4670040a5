-- A record in memory whose objects i and j are exchanged has the exchanged site: it answers alike for its objects. So both are
-- judged alike.
-- A value's number x is that of object x / 32, a link's that of object x / 256 and target x % 8: exchanging the objects takes each
-- number to another one, and twice leads back, so that a test of all values or links is a test of the same ones.
-- Assumes nothing.
use Prim.Native.Nat.{◌%◌, ◌*◌, ◌+◌, ◌-◌, ◌/◌, ◌<◌, ◌≤◌, ℕ}
use mathlib.Core.Bool.{Bool, not}
use mathlib.Core.List.{[]}
use mathlib.Core.Path.{◌∙◌, ◌≡◌, ap, ap₂, sym}
use native.Mathlib.Omega.{arith}
use lib.Dec.{eqb, ltb}
use lib.ListN.{get_or, length}
use borrow.Author.Tests.{ltb-true}
use Rattle.laws.specs.Bounded.{all}
use Rattle.laws.specs.Connective.{both, imp}
use Rattle.files.specs.Diagram.{Diagram, attribute_at, value_type_at}
use Rattle.files.specs.Name.{Name}
use Rattle.files.specs.Record.{Link, Value}
use Rattle.files.specs.WellFormedDiagram.{WfDiagram}
use Rattle.records.specs.declared.MemoryRecord.{MemoryRecord}
use Rattle.records.specs.Slots.{attribute_slot, own_attribute, own_role, role_count, role_name, role_slot, type_index}
use Rattle.records.specs.Written.{link_in, value_in}
use Rattle.memory_rules.specs.JudgeIn.{lowest_in, rule3_in, rule5_in}
use Rattle.memory_rules.specs.SiteIn.{kept_link, kept_value, link_kept, linked_in, site_in, typed_in, value_kept, valued_in}
use Rattle.exchanging.specs.Alike.{Alike, Regular}
use Rattle.exchanging.specs.Exchange.{SameRules, exchanged}
use Rattle.laws.specs.Swap.{swap}
use Rattle.exchanging.specs.ExchangedIn.{ExchangedIn, TargetsKnown}
use Rattle.laws.proofs.BoundedLaws.{all-ext}
use Rattle.laws.proofs.ConnectiveLaws.{both_left, both_right, both_under, imp-under}
use Rattle.exchanging.proofs.AlikeLaws.{alike-rules, exchange-regular}
use Rattle.exchanging.proofs.ExchangeLaws.{exchange-keeps-rules}
use Rattle.laws.proofs.SwapLaws.{all-turned, swap-below, swap-twice}

-- ---- the site of a record in memory whose links go to objects is regular

pub regular-in : (d : Diagram) (m : MemoryRecord) → TargetsKnown d m → Regular (site_in d m)
unfolding site_in kept_value kept_link link_kept own_role
regular-in d m targets = record {
  values = λ p q f. all-ext _ _ (m.count * 32) (λ x l. ap (imp (value_kept d m x)) (f (kept_value d m x) (omega arith)));
  links = λ p q f. all-ext _ _ (m.count * 256) (λ x l. imp-under (link_kept d m x) _ _ (λ e.
      let own = both_left (own_role d (x / 8 % 32)) _ e in
      let from : x / 256 < m.count = omega arith in
      let to : x % 8 < m.count =
      targets (x / 256) (x / 8 % 32) (x % 8) from (ltb-true _ _ (both_left (ltb (x / 8 % 32) (role_count d)) _ own)) (omega arith)
      (both_right (own_role d (x / 8 % 32)) _ e) in
      f (kept_link d x) from to));
}

module _ (d : Diagram) (wf : WfDiagram d) (i j : ℕ) (m n : MemoryRecord) (few : m.count ≤ 8) (hi : i < m.count) (hj : j < m.count)
    (h : ExchangedIn i j m n) where
  -- ---- types, values and links of an object

  typed-in : (o : ℕ) (w : Name) → o < m.count → typed_in d m (swap i j o) w ≡ typed_in d n o w
  unfolding typed_in
  typed-in o w l = ap (eqb (type_index d w)) (sym (h.types o l))

  valued-in : (o : ℕ) (w : Name) → o < m.count → valued_in d m (swap i j o) w ≡ valued_in d n o w
  unfolding valued_in
  valued-in o w l = both_under (ltb (attribute_slot d w) (length d.attributes)) _ _ (λ e.
      let below : attribute_slot d w < length d.attributes = ltb-true _ _ e in
      ap (λ (k : ℕ). not (eqb k 0)) (sym (h.values o (attribute_slot d w) l (omega (arith, wf.few-attributes)))))

  linked-in : (o : ℕ) (w : Name) (p : ℕ) → o < m.count → p < m.count → linked_in d m (swap i j o) w (swap i j p) ≡ linked_in d n o w p
  unfolding linked_in
  linked-in o w p l k = both_under (ltb (role_slot d w) (role_count d)) _ _ (λ e.
      let below : role_slot d w < role_count d = ltb-true _ _ e in
      sym (h.links o (role_slot d w) p l (omega (arith, wf.few-associations)) (omega arith)))

  -- ---- the values that are tested

  value_to : ℕ → ℕ
  value_to x = swap i j (x / 32) * 32 + x % 32

  value_to-object : (x : ℕ) → value_to x / 32 ≡ swap i j (x / 32)
  unfolding value_to
  value_to-object x = omega arith

  value_to-slot : (x : ℕ) → value_to x % 32 ≡ x % 32
  unfolding value_to
  value_to-slot x = omega arith

  value_to-below : (x : ℕ) → x < m.count * 32 → value_to x < m.count * 32
  unfolding value_to
  value_to-below x l = let b = swap-below i j m.count hi hj (x / 32) (omega arith) in omega arith

  value_to-back : (x : ℕ) → value_to (value_to x) ≡ x
  unfolding value_to
  value_to-back x =
      let a : swap i j (value_to x / 32) ≡ x / 32 = ap (swap i j) (value_to-object x) ∙ swap-twice i j (x / 32) in
      let b = value_to-slot x in omega arith

  module _ (test : Value → Bool) where
    -- the test of the value with code k - 1 at object o and slot s, where k is not 0
    abbrev tested_value : ℕ → ℕ → ℕ → Bool
    tested_value o s k =
        imp (both (own_attribute d s) (not (eqb k 0)))
        (test (record { object = o; attribute = (attribute_at d s).name; value_type = (value_type_at d ((k - 1) / 8)).name; constant = get_or (value_type_at d ((k - 1) / 8)).constants ((k - 1) % 8) [] }))

    -- the same of value number x of n
    abbrev value_test : ℕ → Bool
    value_test x = tested_value (x / 32) (x % 32) (value_in n (x / 32) (x % 32))

    tested-value : (x : ℕ) → x < m.count * 32 → tested_value (swap i j (x / 32)) (x % 32) (value_in m (x / 32) (x % 32)) ≡ value_test (value_to x)
    tested-value x l =
        let b = swap-below i j m.count hi hj (x / 32) (omega arith) in
        let there : value_in n (swap i j (x / 32)) (x % 32) ≡ value_in m (x / 32) (x % 32) =
        h.values (swap i j (x / 32)) (x % 32) b (omega arith) ∙ ap (λ (o : ℕ). value_in m o (x % 32)) (swap-twice i j (x / 32)) in
        sym
        (ap₂ (λ (o s : ℕ). tested_value o s (value_in n o s)) (value_to-object x) (value_to-slot x)
        ∙ ap (tested_value (swap i j (x / 32)) (x % 32)) there)

    each-value-in : (exchanged i j (site_in d m)).each_value test ≡ (site_in d n).each_value test
    unfolding site_in value_kept kept_value
    each-value-in =
        all-ext _ _ (m.count * 32) tested-value
        ∙ all-turned value_to (m.count * 32) value_to-below (λ x l. value_to-back x) value_test
        ∙ ap (λ (c : ℕ). all value_test (c * 32)) (sym h.count)

  -- ---- the links that are tested

  link_to : ℕ → ℕ
  link_to x = swap i j (x / 256) * 256 + x / 8 % 32 * 8 + swap i j (x % 8)

  target_below : (x : ℕ) → swap i j (x % 8) < 8
  target_below x = swap-below i j 8 (omega arith) (omega arith) (x % 8) (omega arith)

  link_to-object : (x : ℕ) → link_to x / 256 ≡ swap i j (x / 256)
  unfolding link_to
  link_to-object x = omega (arith, target_below x)

  link_to-slot : (x : ℕ) → link_to x / 8 % 32 ≡ x / 8 % 32
  unfolding link_to
  link_to-slot x = omega (arith, target_below x)

  link_to-target : (x : ℕ) → link_to x % 8 ≡ swap i j (x % 8)
  unfolding link_to
  link_to-target x = omega (arith, target_below x)

  link_to-below : (x : ℕ) → x < m.count * 256 → link_to x < m.count * 256
  unfolding link_to
  link_to-below x l = let b = swap-below i j m.count hi hj (x / 256) (omega arith) in omega (arith, target_below x)

  link_to-back : (x : ℕ) → link_to (link_to x) ≡ x
  unfolding link_to
  link_to-back x =
      let a : swap i j (link_to x / 256) ≡ x / 256 = ap (swap i j) (link_to-object x) ∙ swap-twice i j (x / 256) in
      let b = link_to-slot x in
      let c : swap i j (link_to x % 8) ≡ x % 8 = ap (swap i j) (link_to-target x) ∙ swap-twice i j (x % 8) in omega arith

  module _ (test : Link → Bool) where
    -- the test of the link from o to p in slot s, where b says that it is there
    abbrev tested_link : ℕ → ℕ → ℕ → Bool → Bool
    tested_link o s p b = imp (both (own_role d s) b) (test (record { from = o; role = role_name d s; to = p }))

    -- the same of link number x of n
    abbrev link_test : ℕ → Bool
    link_test x = tested_link (x / 256) (x / 8 % 32) (x % 8) (link_in n (x / 256) (x / 8 % 32) (x % 8))

    tested-link : (x : ℕ) → x < m.count * 256
        → tested_link (swap i j (x / 256)) (x / 8 % 32) (swap i j (x % 8)) (link_in m (x / 256) (x / 8 % 32) (x % 8)) ≡ link_test (link_to x)
    tested-link x l =
        let b = swap-below i j m.count hi hj (x / 256) (omega arith) in
        let there : link_in n (swap i j (x / 256)) (x / 8 % 32) (swap i j (x % 8)) ≡ link_in m (x / 256) (x / 8 % 32) (x % 8) =
        h.links (swap i j (x / 256)) (x / 8 % 32) (swap i j (x % 8)) b (omega arith) (target_below x)
        ∙ ap₂ (λ (o p : ℕ). link_in m o (x / 8 % 32) p) (swap-twice i j (x / 256)) (swap-twice i j (x % 8)) in
        sym
        (ap₂ (λ (o s : ℕ). tested_link o s (link_to x % 8) (link_in n o s (link_to x % 8))) (link_to-object x) (link_to-slot x)
        ∙ ap (λ (p : ℕ). tested_link (swap i j (x / 256)) (x / 8 % 32) p (link_in n (swap i j (x / 256)) (x / 8 % 32) p)) (link_to-target x)
        ∙ ap (tested_link (swap i j (x / 256)) (x / 8 % 32) (swap i j (x % 8))) there)

    each-link-in : (exchanged i j (site_in d m)).each_link test ≡ (site_in d n).each_link test
    unfolding site_in link_kept kept_link
    each-link-in =
        all-ext _ _ (m.count * 256) tested-link
        ∙ all-turned link_to (m.count * 256) link_to-below (λ x l. link_to-back x) link_test
        ∙ ap (λ (c : ℕ). all link_test (c * 256)) (sym h.count)

  -- ---- the site, and the judgement

  pub exchanged-in-site : Alike (exchanged i j (site_in d m)) (site_in d n)
  unfolding site_in
  exchanged-in-site = record {
    count = sym h.count;
    typed = typed-in;
    valued = valued-in;
    linked = linked-in;
    each_value = each-value-in;
    each_link = each-link-in;
  }

  pub exchanged-in-rules : TargetsKnown d m → SameRules d (site_in d n) (site_in d m)
  unfolding site_in
  exchanged-in-rules targets =
      let a = alike-rules d _ _ exchanged-in-site (exchange-regular i j (site_in d m) hi hj (regular-in d m targets)) in
      let b = exchange-keeps-rules d (site_in d m) i j hi hj in
      record {
        first = sym a.first ∙ b.first;
        second = sym a.second ∙ b.second;
        third = sym a.third ∙ b.third;
        fourth = sym a.fourth ∙ b.fourth;
        fifth = sym a.fifth ∙ b.fifth;
        sixth = sym a.sixth ∙ b.sixth;
        seventh = sym a.seventh ∙ b.seventh;
        eighth = sym a.eighth ∙ b.eighth;
        ninth = sym a.ninth ∙ b.ninth;
      }

  rule3-in : TargetsKnown d m → rule3_in d n ≡ rule3_in d m
  unfolding rule3_in
  rule3-in targets = ap₂ (λ (a b : Bool). both (not a) b) h.stray-values (exchanged-in-rules targets).third

  rule5-in : TargetsKnown d m → rule5_in d n ≡ rule5_in d m
  unfolding rule5_in
  rule5-in targets = ap₂ (λ (a b : Bool). both (not a) b) h.stray-links (exchanged-in-rules targets).fifth

  pub exchanged-in-judged : TargetsKnown d m → lowest_in d n ≡ lowest_in d m
  unfolding lowest_in
  exchanged-in-judged targets =
      let s = exchanged-in-rules targets in
      rw (s.first, s.second, rule3-in targets, s.fourth, rule5-in targets, s.sixth, s.seventh, s.eighth, s.ninth)
