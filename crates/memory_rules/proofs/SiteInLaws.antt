-- Asked for a name, a record in memory answers as the record that it stands for, where the diagram has the name; of other
-- attribute and role names it says no. So its site and the record's agree on the names of the diagram.
-- Assumes nothing.
use Prim.Native.Nat.{◌<◌, ◌≤◌, ℕ}
use native.Mathlib.Decide.{dec_lt}
use native.Mathlib.Omega.{arith}
use mathlib.Core.Bool.{Bool, cond, false, false≢true, not}
use mathlib.Core.List.{[]}
use mathlib.Core.Path.{◌∙◌, ◌≡◌, ap, ap₂, sym}
use lib.Dec.{eqb, ltb}
use lib.ListN.{get_or-eq_default, length}
use borrow.Author.Tests.{le-ltb, lt-ltb}
use Rattle.laws.specs.Connective.{both}
use Rattle.files.specs.Diagram.{Association, Diagram, association_at, attribute_at, no_end, type_at}
use Rattle.files.specs.Membership.{has_link, has_value}
use Rattle.files.specs.Name.{Name, key}
use Rattle.files.specs.Record.{Record, link_at, object_count, object_type}
use Rattle.records.specs.Represents.{code_among, link_bit, value_byte}
use Rattle.records.specs.Slots.{attribute_slot, role_count, role_name, role_slot}
use Rattle.records.specs.Written.{link_in, value_in}
use Rattle.records.specs.declared.MemoryRecord.{MemoryRecord}
use Rattle.records.proofs.SlotLaws.{among-alike, attribute-known, attribute-name, attribute-own, index_of, index_same, role-known, role-name, role-own}
use Rattle.rules.specs.Arrow.{Side, r1, r2, target}
use Rattle.rules.specs.Site.{site_of}
use Rattle.memory_rules.specs.Agree.{Agree}
use Rattle.memory_rules.specs.SiteIn.{linked_in, site_in, typed_in, valued_in}
use Rattle.memory_rules.specs.Stands.{Stands}
use Rattle.laws.proofs.BoundedLaws.{any_at}
use Rattle.laws.proofs.ConnectiveLaws.{both_left, both_right, same_test}
use Rattle.files.proofs.NameLaws.{key-length, same_key, same_self}
use Rattle.files.proofs.MembershipLaws.{link-alike}
use Rattle.memory_rules.proofs.AmongLaws.{code-has}
use Rattle.memory_rules.proofs.CodeLaws.{name-long}
use Rattle.memory_rules.proofs.SlotLaws.{target-known}

module _ (d : Diagram) (r : Record) (m : MemoryRecord) (h : Stands d r m) where
  pub object-small : (o : ℕ) → o < m.count → o < 8
  object-small o l = let few : object_count r ≤ 8 = h.wf-record.few in let e : m.count ≡ object_count r = h.count in omega arith

  -- ---- types

  pub typed-in : (o i : ℕ) → o < m.count → i < length d.types → typed_in d m o (type_at d i).name ≡ (site_of r).typed o (type_at d i).name
  unfolding typed_in site_of
  typed-in o i l k =
      let e : m.count ≡ object_count r = h.count in
      ap₂ eqb (index_of d h.wf-diagram i k) (h.represents.types o (omega arith)) ∙ index_same d h.wf-diagram i (object_type r o) k

  -- ---- values

  -- what is kept at a name's slot
  pub value-kept : (o : ℕ) (w : Name) → o < 8 → attribute_slot d w < length d.attributes → value_in m o (attribute_slot d w) ≡ code_among d r o w (length r.values)
  unfolding value_byte
  value-kept o w l k =
      let few : length d.attributes ≤ 32 = h.wf-diagram.few-attributes in
      h.represents.values o (attribute_slot d w) l (omega arith)
      ∙ ap (λ (b : Bool). cond b (code_among d r o (attribute_at d (attribute_slot d w)).name (length r.values)) 0) (attribute-own d w k)
      ∙ among-alike d r o _ _ (attribute-name d w k) (length r.values)

  -- for every name
  pub valued-where : (o : ℕ) (w : Name) → o < 8 → valued_in d m o w ≡ both (ltb (attribute_slot d w) (length d.attributes)) (has_value r o w)
  unfolding valued_in both
  valued-where o w l = go (dec_lt (attribute_slot d w) (length d.attributes))
    where
      go : Dec (attribute_slot d w < length d.attributes)
          → both (ltb (attribute_slot d w) (length d.attributes)) (not (eqb (value_in m o (attribute_slot d w)) 0)) ≡ both (ltb (attribute_slot d w) (length d.attributes)) (has_value r o w)
      go (yes k) = ap (both (ltb (attribute_slot d w) (length d.attributes))) (ap (λ (n : ℕ). not (eqb n 0)) (value-kept o w l k) ∙ code-has d r h.wf-record o w)
      go (no k) = rw (le-ltb (attribute_slot d w) (length d.attributes) (omega arith))

  -- for a name that the diagram has
  pub valued-known : (o : ℕ) (w : Name) → o < 8 → attribute_slot d w < length d.attributes → valued_in d m o w ≡ has_value r o w
  unfolding both
  valued-known o w l k = valued-where o w l ∙ rw (lt-ltb (attribute_slot d w) (length d.attributes) k)

  pub valued-in : (o a : ℕ) → o < 8 → a < length d.attributes → valued_in d m o (attribute_at d a).name ≡ has_value r o (attribute_at d a).name
  valued-in o a l k = valued-known o (attribute_at d a).name l (attribute-known d (attribute_at d a).name a k (same_self (attribute_at d a).name))

  -- ---- links

  pub link-kept : (o : ℕ) (w : Name) (p : ℕ) → o < 8 → p < 8 → role_slot d w < role_count d → link_in m o (role_slot d w) p ≡ has_link r o w p
  unfolding link_bit both
  link-kept o w p l k s =
      let few : length d.associations ≤ 16 = h.wf-diagram.few-associations in
      h.represents.links o (role_slot d w) p l (omega arith) k
      ∙ ap (λ (b : Bool). both b (has_link r o (role_name d (role_slot d w)) p)) (role-own d w s)
      ∙ link-alike r o _ _ p (role-name d w s)

  pub linked-known : (o : ℕ) (w : Name) (p : ℕ) → o < 8 → p < 8 → role_slot d w < role_count d → linked_in d m o w p ≡ has_link r o w p
  unfolding linked_in both
  linked-known o w p l k s = rw (lt-ltb (role_slot d w) (role_count d) s) (link-kept o w p l k s)

  pub linked-in : (o e p : ℕ) → o < 8 → p < 8 → e < role_count d → linked_in d m o (role_name d e) p ≡ has_link r o (role_name d e) p
  linked-in o e p l k q = linked-known o (role_name d e) p l k (role-known d (role_name d e) e q (same_self (role_name d e)))

  -- a name that the diagram lacks
  linked-unknown : (o : ℕ) (w : Name) (p : ℕ) → role_count d ≤ role_slot d w → linked_in d m o w p ≡ false
  unfolding linked_in both
  linked-unknown o w p s = rw (le-ltb (role_slot d w) (role_count d) s)

  -- no link has the empty role, and no association
  no-empty-link : (o p : ℕ) → has_link r o [] p ≡ false
  unfolding has_link
  no-empty-link o p = same_test _ _ (λ e.
      let i = any_at _ (length r.links) e in
      let q : key (link_at r i.0).role ≡ key [] = same_key _ _ (both_left _ _ (both_right _ _ i.2)) in
      let z : length (link_at r i.0).role ≡ 0 = key-length _ _ q in
      let long : 1 ≤ length (link_at r i.0).role = name-long _ (h.wf-record.link i.0 i.1).role-named in
      absurd (omega arith)) (λ e. absurd (false≢true e))

  past-role : (s : Side) (a : ℕ) → length d.associations ≤ a → (target s (association_at d a)).role ≡ []
  past-role r2 a l = ap (λ (c : Association). c.right.role) (get_or-eq_default d.associations (record { form = 0; arrow = 0; left = no_end; right = no_end }) l)
  past-role r1 a l = ap (λ (c : Association). c.left.role) (get_or-eq_default d.associations (record { form = 0; arrow = 0; left = no_end; right = no_end }) l)

  -- the role of an end of an association, and of none past the last
  pub linked-at : (o : ℕ) (s : Side) (a p : ℕ) → o < 8 → p < 8 → linked_in d m o (target s (association_at d a)).role p ≡ has_link r o (target s (association_at d a)).role p
  linked-at o s a p l k = go (dec_lt a (length d.associations)) (dec_lt (role_slot d (target s (association_at d a)).role) (role_count d))
    where
      go : Dec (a < length d.associations) → Dec (role_slot d (target s (association_at d a)).role < role_count d)
          → linked_in d m o (target s (association_at d a)).role p ≡ has_link r o (target s (association_at d a)).role p
      go (yes b) c = linked-known o (target s (association_at d a)).role p l k (target-known d (target s (association_at d a)).role s a b (same_self (target s (association_at d a)).role))
      go (no b) (yes c) = linked-known o (target s (association_at d a)).role p l k c
      go (no b) (no c) =
          linked-unknown o (target s (association_at d a)).role p (omega arith)
          ∙ sym (ap (λ (w : Name). has_link r o w p) (past-role s a (omega arith)) ∙ no-empty-link o p)

  -- ---- the two sites

  pub agrees : Agree d (site_in d m) (site_of r)
  unfolding site_in site_of
  agrees = record {
    count = h.count;
    typed = typed-in;
    linked = λ o s a p l k. linked-at o s a p (object-small o l) (object-small p k);
  }
