-- Rule 6 holds exactly when each end that is carried has what it asks for: of each instance of the opposite end only instances as
-- targets, and their number within its limits.
-- Assumes nothing.
use Prim.Native.Nat.{◌<◌, ℕ}
use mathlib.Core.Bool.{true}
use mathlib.Core.Path.{◌∙◌, ◌≡◌, ap, subst, sym}
use lib.ListN.{length}
use Rattle.laws.specs.Bounded.{tally}
use Rattle.laws.proofs.BoundedLaws.{all-at, all_of}
use Rattle.laws.proofs.ConnectiveLaws.{both_left, both_of, both_right, imp-of, imp_use}
use Rattle.laws.proofs.CountLaws.{tally-ext}
use Rattle.files.specs.Diagram.{Diagram, End, association_at}
use Rattle.files.specs.WellFormedDiagram.{WfDiagram}
use Rattle.records.specs.declared.MemoryRecord.{MemoryRecord}
use Rattle.records.specs.Slots.{role_count}
use Rattle.rules.specs.Arrow.{Side, carries, r1, r2, source, target, within}
use Rattle.rules.specs.LinkRules.{rule6, rule6_for, targets, targets_at}
use Rattle.memory_rules.specs.SiteIn.{site_in}
use Rattle.memory_rules.proofs.SlotLaws.{end_below, end_of}
use Rattle.type_tables.specs.Rows.{carried_to, end_at, opposite}
use Rattle.type_tables.proofs.EndLaws.{carried-to, each-end, end-at, end-opposite}
use Rattle.views.specs.Views.{counts_as, slot_by}
use Rattle.worlds.specs.Kept.{world_of}
use Rattle.rulings.specs.Shaped.{Shaped, kind_in}
use Rattle.rulings.proofs.SeenLaws.{instance-counts, linked-by}

-- the links of o in a slot are as the end asks
pub record Asked (old d : Diagram) (m : MemoryRecord) (o slot : ℕ) (to : End) : Type 0 where
  pub instances : (p : ℕ) → p < m.count → (world_of m).link slot o p ≡ true → counts_as old d to.type (kind_in m p) ≡ true
  pub count : within to.limits (tally (λ p. (world_of m).link slot o p) m.count) ≡ true

-- what an end asks of object o
abbrev pub Asks : Diagram → Diagram → MemoryRecord → ℕ → ℕ → Type 0
Asks old d m o e =
    carried_to d e ≡ true → counts_as old d (end_at d (opposite d e)).type (kind_in m o) ≡ true → Asked old d m o (slot_by old d e) (end_at d e)

module _ (old d : Diagram) (wo : WfDiagram old) (m : MemoryRecord) (h : Shaped old m) where
  -- ---- one side of an association

  module _ (s : Side) (a o : ℕ) (b : o < m.count) where
    counted : tally (λ p. (site_in old m).linked o (target s (association_at d a)).role p) m.count ≡ tally (λ p. (world_of m).link (slot_by old d (end_of d s a)) o p) m.count
    counted = tally-ext _ _ m.count (λ p c. linked-by old wo m h d s a o p b c)

    abbrev Side-asks : Type 0
    Side-asks =
        carries s (association_at d a) ≡ true → counts_as old d (source s (association_at d a)).type (kind_in m o) ≡ true
        → Asked old d m o (slot_by old d (end_of d s a)) (target s (association_at d a))

    side-forth : rule6_for d (site_in old m) s (association_at d a) ≡ true → Side-asks
    unfolding rule6_for targets targets_at site_in
    side-forth r e f =
        let held = imp_use _ _ (all-at _ m.count (imp_use _ _ r e) o b) (instance-counts old d m _ o ∙ f) in
        record {
          instances = λ p c link. sym (instance-counts old d m _ p) ∙ imp_use _ _ (all-at _ m.count (both_left _ _ held) p c) (linked-by old wo m h d s a o p b c ∙ link);
          count = ap (within (target s (association_at d a)).limits) (sym counted) ∙ both_right _ _ held;
        }

    side-back : Side-asks → carries s (association_at d a) ≡ true
        → targets_at d (site_in old m) (source s (association_at d a)) (target s (association_at d a)) (target s (association_at d a)).limits o ≡ true
    unfolding targets_at site_in
    side-back f e = imp-of _ _ (λ i.
        let w = f e (sym (instance-counts old d m _ o) ∙ i) in
        both_of _ _
        (all_of _ m.count (λ p c. imp-of _ _ (λ q. instance-counts old d m _ p ∙ w.instances p c (sym (linked-by old wo m h d s a o p b c) ∙ q))))
        (ap (within (target s (association_at d a)).limits) counted ∙ w.count))

    -- a side's end is that end
    to_end : Side-asks → Asks old d m o (end_of d s a)
    to_end f e i =
        subst (Asked old d m o (slot_by old d (end_of d s a))) (sym (end-at d s a))
        (f (sym (carried-to d s a) ∙ e) (ap (λ (k : End). counts_as old d k.type (kind_in m o)) (sym (end-opposite d s a)) ∙ i))

    to-side : Asks old d m o (end_of d s a) → Side-asks
    to-side f e i =
        subst (Asked old d m o (slot_by old d (end_of d s a))) (end-at d s a)
        (f (carried-to d s a ∙ e) (ap (λ (k : End). counts_as old d k.type (kind_in m o)) (end-opposite d s a) ∙ i))

  -- ---- the rule

  rule6-side : rule6 d (site_in old m) ≡ true → (s : Side) (a : ℕ) → a < length d.associations → rule6_for d (site_in old m) s (association_at d a) ≡ true
  unfolding rule6
  rule6-side r r2 a l = both_left _ _ (all-at _ (length d.associations) r a l)
  rule6-side r r1 a l = both_right _ _ (all-at _ (length d.associations) r a l)

  pub rule6-asks : rule6 d (site_in old m) ≡ true → (o : ℕ) → o < m.count → (e : ℕ) → e < role_count d → Asks old d m o e
  rule6-asks r o b = each-end d (Asks old d m o) (λ s a l. to_end s a o b (side-forth s a o b (rule6-side r s a l)))

  side-of : ((o : ℕ) → o < m.count → (e : ℕ) → e < role_count d → Asks old d m o e) → (s : Side) (a : ℕ) → a < length d.associations → rule6_for d (site_in old m) s (association_at d a) ≡ true
  unfolding rule6_for targets site_in
  side-of f s a l = imp-of _ _ (λ e. all_of _ m.count (λ o b. side-back s a o b (to-side s a o b (f o b (end_of d s a) (end_below d s a l))) e))

  pub asks-rule6 : ((o : ℕ) → o < m.count → (e : ℕ) → e < role_count d → Asks old d m o e) → rule6 d (site_in old m) ≡ true
  unfolding rule6
  asks-rule6 f = all_of _ (length d.associations) (λ a l. both_of _ _ (side-of f r2 a l) (side-of f r1 a l))
