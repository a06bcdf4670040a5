-- Rule 8 holds exactly when the world keeps the mirrors: a link and its link back between instances of the two ends.
-- Assumes nothing.
use Prim.Native.Nat.{◌*◌, ◌+◌, ◌<◌, ◌≤◌, ℕ}
use native.Mathlib.Omega.{arith}
use mathlib.Core.Bool.{Bool, cond, true}
use mathlib.Core.Logic.{◌↔◌}
use mathlib.Core.Path.{◌∙◌, ◌≡◌, ap, sym}
use lib.ListN.{get_or, length}
use borrow.Author.Tests.{lt-ltb, ltb-true}
use Rattle.laws.specs.Bits.{bit}
use Rattle.laws.specs.Connective.{both}
use Rattle.laws.proofs.BoundedLaws.{all-at, all_of}
use Rattle.laws.proofs.ConnectiveLaws.{both_left, both_of, both_right, imp-of, imp_use, same-is, same_of}
use Rattle.files.specs.Diagram.{Diagram, association_at}
use Rattle.files.specs.WellFormedDiagram.{WfDiagram}
use Rattle.records.specs.declared.MemoryRecord.{MemoryRecord}
use Rattle.rules.specs.Arrow.{mirrors, r1, r2}
use Rattle.rules.specs.LinkRules.{mirror_at, mirrored, rule8, rule8_for}
use Rattle.memory_rules.specs.SiteIn.{site_in}
use Rattle.views.specs.Views.{counts_as, is_mirror, mirror_from, mirror_left, mirror_right, mirror_to, slot_by}
use Rattle.worlds.specs.declared.Lines.{Lines}
use Rattle.worlds.specs.Kept.{MirrorsKept, world_in, world_of}
use Rattle.worlds.specs.Tables.{LinesOf}
use Rattle.rulings.specs.Shaped.{Shaped, kind_in}
use Rattle.rulings.proofs.SeenLaws.{instance-counts, linked-by}
use Rattle.worlds.specs.Lined.{mirror_at as mirror_line}

module _ (old d : Diagram) (wo : WfDiagram old) (wd : WfDiagram d) (m : MemoryRecord) (h : Shaped old m) (x : Lines) (of : LinesOf old d x) where
  -- ---- what the tables say of an association that has a mirror

  right-slot : (j : ℕ) → j < 16 → is_mirror old d j ≡ true → (mirror_line x j).right ≡ slot_by old d (j * 2 + 1)
  unfolding mirror_right
  right-slot j l e = of.mirror-right j l ∙ ap (λ (b : Bool). cond b (slot_by old d (j * 2 + 1)) 0) e

  left-slot : (j : ℕ) → j < 16 → is_mirror old d j ≡ true → (mirror_line x j).left ≡ slot_by old d (j * 2)
  unfolding mirror_left
  left-slot j l e = of.mirror-left j l ∙ ap (λ (b : Bool). cond b (slot_by old d (j * 2)) 0) e

  from_is : (j o : ℕ) → j < 16 → o < m.count → bit (kind_in m o) (mirror_line x j).from ≡ both (is_mirror old d j) (counts_as old d (association_at d j).left.type (kind_in m o))
  unfolding mirror_from
  from_is j o l b = of.mirror-from j (kind_in m o) l (h.known o b)

  to_is : (j o : ℕ) → j < 16 → o < m.count → bit (kind_in m o) (mirror_line x j).to ≡ both (is_mirror old d j) (counts_as old d (association_at d j).right.type (kind_in m o))
  unfolding mirror_to
  to_is j o l b = of.mirror-to j (kind_in m o) l (h.known o b)

  -- ---- the rule at one association and two objects

  abbrev Kept : ℕ → ℕ → ℕ → Type 0
  Kept j o p =
      bit (kind_in m o) (mirror_line x j).from ≡ true → bit (kind_in m p) (mirror_line x j).to ≡ true
      → (world_of m).link (mirror_line x j).right o p ≡ (world_of m).link (mirror_line x j).left p o

  links-are : (j o p : ℕ) → j < 16 → is_mirror old d j ≡ true → o < m.count → p < m.count
      → ((world_of m).link (mirror_line x j).right o p ≡ (site_in old m).linked o (association_at d j).right.role p)
      × ((world_of m).link (mirror_line x j).left p o ≡ (site_in old m).linked p (association_at d j).left.role o)
  links-are j o p l e b c = (
    ap (λ (s : ℕ). (world_of m).link s o p) (right-slot j l e) ∙ sym (linked-by old wo m h d r2 j o p b c),
    ap (λ (s : ℕ). (world_of m).link s p o) (left-slot j l e) ∙ sym (linked-by old wo m h d r1 j p o c b),
  )

  rule8-at : rule8 d (site_in old m) ≡ true → (j o p : ℕ) → j < length d.associations → mirrors (association_at d j).arrow ≡ true → o < m.count → p < m.count
      → mirror_at d (site_in old m) (association_at d j) o p ≡ true
  unfolding rule8 rule8_for mirrored site_in
  rule8-at e j o p l q b c =
      all-at _ m.count (all-at _ m.count (imp_use _ _ (all-at _ (length d.associations) e j l) q) o b) p c

  forth : rule8 d (site_in old m) ≡ true → (j o p : ℕ) → j < 16 → o < m.count → p < m.count → Kept j o p
  unfolding is_mirror mirror_at
  forth e j o p l b c f t =
      let is : is_mirror old d j ≡ true = both_left _ _ (sym (from_is j o l b) ∙ f) in
      let from = instance-counts old d m _ o ∙ both_right _ _ (sym (from_is j o l b) ∙ f) in
      let to = instance-counts old d m _ p ∙ both_right _ _ (sym (to_is j p l c) ∙ t) in
      let held = imp_use _ _ (rule8-at e j o p (ltb-true _ _ (both_left _ _ is)) (both_right _ _ is) b c) (both_of _ _ from to) in
      let w = links-are j o p l is b c in
      w.0 ∙ same-is _ _ held ∙ sym w.1

  back_at : ((j o p : ℕ) → j < 16 → o < m.count → p < m.count → Kept j o p)
      → (j o p : ℕ) → j < length d.associations → mirrors (association_at d j).arrow ≡ true → o < m.count → p < m.count
      → mirror_at d (site_in old m) (association_at d j) o p ≡ true
  unfolding is_mirror mirror_at
  back_at k j o p l q b c = imp-of _ _ (λ e.
      let few : length d.associations ≤ 16 = wd.few-associations in
      let small : j < 16 = omega arith in
      let is : is_mirror old d j ≡ true = both_of _ _ (lt-ltb _ _ l) q in
      let from = from_is j o small b ∙ both_of _ _ is (sym (instance-counts old d m _ o) ∙ both_left _ _ e) in
      let to = to_is j p small c ∙ both_of _ _ is (sym (instance-counts old d m _ p) ∙ both_right _ _ e) in
      let w = links-are j o p small is b c in
      same_of _ _ (sym w.0 ∙ k j o p small b c from to ∙ w.1))

  back : ((j o p : ℕ) → j < 16 → o < m.count → p < m.count → Kept j o p) → rule8 d (site_in old m) ≡ true
  unfolding rule8 rule8_for mirrored site_in
  back k = all_of _ (length d.associations) (λ j l. imp-of _ _ (λ q. all_of _ m.count (λ o b. all_of _ m.count (λ p c. back_at k j o p l q b c))))

  pub rule8-kept : (rule8 d (site_in old m) ≡ true) ↔ MirrorsKept x (world_of m)
  unfolding world_in
  rule8-kept = ((λ e. record { at = forth e }), (λ k. back k.at))
