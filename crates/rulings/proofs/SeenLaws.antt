-- What a diagram d sees of a record in memory by old's indices: an object is an instance of d's type exactly when old's type of it
-- counts as that type, and it has a link of d's role exactly when its world has the link in old's slot of that role.
-- Assumes nothing.
use Prim.Native.Nat.{◌<◌, ◌≤◌, ℕ}
use native.Mathlib.Decide.{dec_lt}
use native.Mathlib.Omega.{arith}
use mathlib.Core.Bool.{false, false≢true}
use mathlib.Core.Path.{◌∙◌, ◌≡◌, ap, refl, sym}
use lib.ListN.{length}
use borrow.Author.Tests.{le-ltb, lt-ltb}
use Rattle.laws.specs.Connective.{both}
use Rattle.laws.proofs.ConnectiveLaws.{same_test}
use Rattle.files.specs.Diagram.{Diagram, association_at}
use Rattle.files.specs.Name.{Name}
use Rattle.files.specs.WellFormedDiagram.{WfDiagram}
use Rattle.records.specs.declared.MemoryRecord.{MemoryRecord}
use Rattle.records.specs.Slots.{role_count, role_slot}
use Rattle.records.specs.Written.{link_in}
use Rattle.records.proofs.SlotLaws.{own-role-below}
use Rattle.rules.specs.Arrow.{Side, target}
use Rattle.rules.specs.Instance.{has_type, is_instance}
use Rattle.memory_rules.specs.SiteIn.{linked_in, site_in, typed_in}
use Rattle.memory_rules.proofs.SlotLaws.{end-role, end_of}
use Rattle.views.specs.Views.{counts_as, slot_by}
use Rattle.worlds.specs.Kept.{world_in, world_of}
use Rattle.rulings.specs.Shaped.{Shaped, kind_in}

-- ---- instances

pub instance-counts : (old d : Diagram) (m : MemoryRecord) (t o : ℕ) → is_instance d (site_in old m) t o ≡ counts_as old d t (kind_in m o)
unfolding is_instance has_type site_in typed_in counts_as
instance-counts old d m t o = refl

-- ---- links of the world

pub link-is : (m : MemoryRecord) (s o p : ℕ) → s < 32 → o < 8 → p < 8 → (world_of m).link s o p ≡ link_in m o s p
unfolding world_in
link-is m s o p a b c = rw (lt-ltb s 32 a, lt-ltb o 8 b, lt-ltb p 8 c)

pub link-past : (m : MemoryRecord) (s o p : ℕ) → 32 ≤ s → (world_of m).link s o p ≡ false
unfolding world_in
link-past m s o p a = rw (le-ltb s 32 a)

-- ---- links of the site

module _ (old : Diagram) (wf : WfDiagram old) (m : MemoryRecord) (h : Shaped old m) where
  pub linked-is : (n : Name) (o p : ℕ) → o < m.count → p < m.count → (site_in old m).linked o n p ≡ (world_of m).link (role_slot old n) o p
  unfolding site_in linked_in both
  linked-is n o p l k = go (dec_lt (role_slot old n) (role_count old)) (dec_lt (role_slot old n) 32)
    where
      few : m.count ≤ 8
      few = h.few

      roles : length old.associations ≤ 16
      roles = wf.few-associations

      go : Dec (role_slot old n < role_count old) → Dec (role_slot old n < 32) → linked_in old m o n p ≡ (world_of m).link (role_slot old n) o p
      go (yes a) b = rw (lt-ltb (role_slot old n) (role_count old) a) (sym (link-is m (role_slot old n) o p (omega arith) (omega arith) (omega arith)))
      go (no a) (yes b) =
          rw (le-ltb (role_slot old n) (role_count old) (omega arith))
          (sym (link-is m (role_slot old n) o p b (omega arith) (omega arith)
          ∙ same_test (link_in m o (role_slot old n) p) false
          (λ e. let s = own-role-below old (role_slot old n) (h.own o (role_slot old n) p l b (omega arith) e) in absurd (a s)) (λ e. absurd (false≢true e))))
      go (no a) (no b) =
          rw (le-ltb (role_slot old n) (role_count old) (omega arith)) (sym (link-past m (role_slot old n) o p (omega arith)))

  -- of the role that a side of association a carries
  pub linked-by : (d : Diagram) (s : Side) (a o p : ℕ) → o < m.count → p < m.count
      → (site_in old m).linked o (target s (association_at d a)).role p ≡ (world_of m).link (slot_by old d (end_of d s a)) o p
  unfolding slot_by
  linked-by d s a o p l k =
      linked-is (target s (association_at d a)).role o p l k ∙ ap (λ (n : Name). (world_of m).link (role_slot old n) o p) (sym (end-role d s a))
