-- Rule 9 holds exactly when the world keeps the wholes: of each pair of objects both say alike whether one is a whole of the other.
-- Assumes nothing.
use Prim.Native.Nat.{◌*◌, ◌+◌, ◌<◌, ◌≤◌, ℕ}
use native.Mathlib.Omega.{arith}
use mathlib.Core.Bool.{Bool, cond, true}
use mathlib.Core.Logic.{◌↔◌}
use mathlib.Core.Path.{◌∙◌, ◌≡◌, ap, sym}
use lib.ListN.{get_or, length}
use borrow.Author.Tests.{le-leb, leb-true, lt-ltb, ltb-true}
use Rattle.laws.specs.Bits.{bit}
use Rattle.laws.specs.Bounded.{tally}
use Rattle.laws.specs.Connective.{both}
use Rattle.laws.proofs.BoundedLaws.{all-at, all_of, any_at, any_of}
use Rattle.laws.proofs.ConnectiveLaws.{and_both, and_left, and_right, both_left, both_of, both_right, same_test}
use Rattle.laws.proofs.CountLaws.{tally-ext}
use Rattle.files.specs.Diagram.{Diagram, association_at}
use Rattle.files.specs.WellFormedDiagram.{WfDiagram}
use Rattle.records.specs.declared.MemoryRecord.{MemoryRecord}
use Rattle.rules.specs.Arrow.{r2}
use Rattle.rules.specs.WholeRule.{is_whole, rule9, rule9_at, whole_by}
use Rattle.memory_rules.specs.SiteIn.{site_in}
use Rattle.views.specs.Views.{counts_as, is_composed, slot_by, whole_from, whole_slot, whole_to}
use Rattle.worlds.specs.declared.Lines.{Lines}
use Rattle.worlds.specs.Kept.{WholesKept, whole_of, world_in, world_of}
use Rattle.worlds.specs.Tables.{LinesOf}
use Rattle.rulings.specs.Shaped.{Shaped, kind_in}
use Rattle.rulings.proofs.SeenLaws.{instance-counts, linked-by}
use Rattle.worlds.specs.Lined.{whole_at}

module _ (old d : Diagram) (wo : WfDiagram old) (wd : WfDiagram d) (m : MemoryRecord) (h : Shaped old m) (x : Lines) (of : LinesOf old d x) where
  -- ---- what the tables say of a composition

  slot_is : (j : ℕ) → j < 16 → is_composed old d j ≡ true → (whole_at x j).slot ≡ slot_by old d (j * 2 + 1)
  unfolding whole_slot
  slot_is j l e = of.whole-slot j l ∙ ap (λ (b : Bool). cond b (slot_by old d (j * 2 + 1)) 0) e

  from_is : (j o : ℕ) → j < 16 → o < m.count → bit (kind_in m o) (whole_at x j).from ≡ both (is_composed old d j) (counts_as old d (association_at d j).left.type (kind_in m o))
  unfolding whole_from
  from_is j o l b = of.whole-from j (kind_in m o) l (h.known o b)

  to_is : (j o : ℕ) → j < 16 → o < m.count → bit (kind_in m o) (whole_at x j).to ≡ both (is_composed old d j) (counts_as old d (association_at d j).right.type (kind_in m o))
  unfolding whole_to
  to_is j o l b = of.whole-to j (kind_in m o) l (h.known o b)

  link_here : (j o p : ℕ) → j < 16 → is_composed old d j ≡ true → o < m.count → p < m.count
      → (world_of m).link (whole_at x j).slot o p ≡ (site_in old m).linked o (association_at d j).right.role p
  link_here j o p l e b c = ap (λ (s : ℕ). (world_of m).link s o p) (slot_is j l e) ∙ sym (linked-by old wo m h d r2 j o p b c)

  -- ---- o is a whole of p

  -- by association j, in the world
  record By (j o p : ℕ) : Type 0 where
    from : bit (kind_in m o) (whole_at x j).from ≡ true
    to : bit (kind_in m p) (whole_at x j).to ≡ true
    link : (world_of m).link (whole_at x j).slot o p ≡ true

  by-rule : (j o p : ℕ) → j < 16 → o < m.count → p < m.count → By j o p → (j < length d.associations) × (whole_by d (site_in old m) (association_at d j) o p ≡ true)
  unfolding whole_by is_composed
  by-rule j o p l b c w =
      let is : is_composed old d j ≡ true = both_left _ _ (sym (from_is j o l b) ∙ w.from) in
      let from = instance-counts old d m _ o ∙ both_right _ _ (sym (from_is j o l b) ∙ w.from) in
      let to = instance-counts old d m _ p ∙ both_right _ _ (sym (to_is j p l c) ∙ w.to) in
      (ltb-true _ _ (both_left _ _ is), both_of _ _ (both_right _ _ is) (both_of _ _ (sym (link_here j o p l is b c) ∙ w.link) (both_of _ _ from to)))

  by-table : (j o p : ℕ) → j < length d.associations → j < 16 → o < m.count → p < m.count → whole_by d (site_in old m) (association_at d j) o p ≡ true → By j o p
  unfolding whole_by is_composed
  by-table j o p l k b c e =
      let is : is_composed old d j ≡ true = both_of _ _ (lt-ltb _ _ l) (both_left _ _ e) in
      let ends = both_right _ _ (both_right _ _ e) in
      record {
        from = from_is j o k b ∙ both_of _ _ is (sym (instance-counts old d m _ o) ∙ both_left _ _ ends);
        to = to_is j p k c ∙ both_of _ _ is (sym (instance-counts old d m _ p) ∙ both_right _ _ ends);
        link = link_here j o p k is b c ∙ both_left _ _ (both_right _ _ e);
      }

  whole-forth : (o p : ℕ) → o < m.count → p < m.count → is_whole d (site_in old m) p o ≡ true → whole_of x (world_of m) p o ≡ true
  unfolding is_whole whole_of world_in
  whole-forth o p b c e =
      let few : length d.associations ≤ 16 = wd.few-associations in
      let w = any_at _ (length d.associations) e in
      let small : w.0 < 16 = let l = w.1 in omega arith in
      let y = by-table w.0 o p w.1 small b c w.2 in
      any_of _ 16 w.0 small (and_both _ _ y.from (and_both _ _ y.to y.link))

  whole_back : (o p : ℕ) → o < m.count → p < m.count → whole_of x (world_of m) p o ≡ true → is_whole d (site_in old m) p o ≡ true
  unfolding is_whole whole_of world_in
  whole_back o p b c e =
      let w = any_at _ 16 e in
      let from = bit (kind_in m o) (whole_at x w.0).from in
      let to = bit (kind_in m p) (whole_at x w.0).to in
      let link = (world_of m).link (whole_at x w.0).slot o p in
      let y : By w.0 o p = record { from = and_left from _ w.2; to = and_left to _ (and_right from _ w.2); link = and_right to link (and_right from _ w.2) } in
      let z = by-rule w.0 o p w.1 b c y in
      any_of _ (length d.associations) w.0 z.0 z.1

  wholes-are : (p : ℕ) → p < m.count → tally (is_whole d (site_in old m) p) m.count ≡ tally (whole_of x (world_of m) p) m.count
  wholes-are p c = tally-ext _ _ m.count (λ o b. same_test _ _ (whole-forth o p b c) (whole_back o p b c))

  -- ---- the rule

  forth : rule9 d (site_in old m) ≡ true → (p : ℕ) → p < m.count → tally (whole_of x (world_of m) p) m.count ≤ 1
  unfolding rule9 rule9_at site_in
  forth e p c = let a : tally (is_whole d (site_in old m) p) m.count ≤ 1 = leb-true _ _ (all-at _ m.count e p c) in omega (arith, wholes-are p c)

  back : ((p : ℕ) → p < m.count → tally (whole_of x (world_of m) p) m.count ≤ 1) → rule9 d (site_in old m) ≡ true
  unfolding rule9 rule9_at site_in
  back k = all_of _ m.count (λ p c. le-leb (tally (is_whole d (site_in old m) p) m.count) 1 (omega (arith, wholes-are p c, k p c)))

  pub rule9-kept : (rule9 d (site_in old m) ≡ true) ↔ WholesKept x (world_of m)
  unfolding world_in
  rule9-kept = ((λ e. record { at = forth e }), (λ k. back k.at))
