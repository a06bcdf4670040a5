-- Rule 5. A link of a role that the diagram lacks is permitted by no association, which the mark says. Every other link is
-- kept at its object, its role's slot and its target, and nothing else is kept.
-- Assumes nothing.
use Prim.Native.Nat.{◌%◌, ◌*◌, ◌+◌, ◌/◌, ◌<◌, ◌≤◌, ℕ}
use native.Mathlib.Omega.{arith}
use mathlib.Core.Bool.{false, false≢true, true}
use mathlib.Core.Logic.{⊎_elim}
use mathlib.Core.Path.{◌∙◌, ◌≡◌, ap, sym}
use lib.ListN.{length}
use borrow.Author.Tests.{eqb-false, eqb-true}
use Rattle.laws.specs.Bounded.{all}
use Rattle.laws.specs.Connective.{both, imp}
use Rattle.files.specs.Diagram.{Diagram, association_at}
use Rattle.files.specs.Membership.{has_link}
use Rattle.files.specs.Name.{key}
use Rattle.files.specs.Record.{Link, Record, link_at, object_count}
use Rattle.records.specs.Represents.{stray_link}
use Rattle.records.specs.Slots.{own_role, role_count, role_name, role_slot}
use Rattle.records.specs.Written.{link_in}
use Rattle.records.specs.declared.MemoryRecord.{MemoryRecord}
use Rattle.records.proofs.SlotLaws.{own-role-below, own-role-slot, role-most, role-name, role-own}
use Rattle.rules.specs.Arrow.{Side, r1, r2}
use Rattle.rules.specs.LinkRules.{permits, rule5, rule5_at}
use Rattle.rules.specs.Site.{site_of}
use Rattle.rules.proofs.KeyLaws.{rule5-alike}
use Rattle.memory_rules.specs.JudgeIn.{rule5_in}
use Rattle.memory_rules.specs.SiteIn.{kept_link, link_kept, site_in}
use Rattle.memory_rules.specs.Stands.{Stands}
use Rattle.laws.proofs.BoundedLaws.{all-at, all_of, any_at, any-no}
use Rattle.laws.proofs.ConnectiveLaws.{both_left, both_of, both_right, either-cases, imp-of, imp_use, known, same_test}
use Rattle.files.proofs.MembershipLaws.{AlikeLink, link-of, linked-at}
use Rattle.memory_rules.proofs.AgreeLaws.{rule5_at-agrees}
use Rattle.memory_rules.proofs.SiteInLaws.{agrees, link-kept, object-small}
use Rattle.memory_rules.proofs.SlotLaws.{target-known}

module _ (d : Diagram) (r : Record) where
  -- a link that a side of an association permits has a role of the diagram
  permitted-known : (s : Side) (a : ℕ) (k : Link) → a < length d.associations → permits d (site_of r) s (association_at d a) k ≡ true → role_slot d k.role < role_count d
  unfolding permits
  permitted-known s a k l e = target-known d k.role s a l (both_left _ _ (both_right _ _ e))

  -- by rule 5 the diagram has the role of each link
  pub link-known : rule5 d (site_of r) ≡ true → (i : ℕ) → i < length r.links → role_slot d (link_at r i).role < role_count d
  unfolding rule5 rule5_at site_of
  link-known f i l =
      let a = any_at _ (length d.associations) (all-at (λ j. rule5_at d (site_of r) (link_at r j)) (length r.links) f i l) in
      ⊎_elim (permitted-known r2 a.0 (link_at r i) a.1) (permitted-known r1 a.0 (link_at r i) a.1) (either-cases _ _ a.2)

module _ (d : Diagram) (r : Record) (m : MemoryRecord) (h : Stands d r m) where
  -- ---- links kept and links of the record

  own-link : (o e p : ℕ) → o < 8 → p < 8 → own_role d e ≡ true → link_in m o e p ≡ has_link r o (role_name d e) p
  own-link o e p l k own =
      let q : role_slot d (role_name d e) ≡ e = own-role-slot d e own in
      let b : e < role_count d = own-role-below d e own in
      ap (λ (s : ℕ). link_in m o s p) (sym q) ∙ link-kept d r m h o (role_name d e) p l k (omega arith)

  -- link number x is kept, and the record's link i is that one
  pub record LinkPair (x i : ℕ) : Type 0 where
    pub below : x < m.count * 256
    pub within : i < length r.links
    pub kept : link_kept d m x ≡ true
    pub is : AlikeLink (link_at r i) (kept_link d x)

  -- each link kept is one of the record
  pub kept_pair : (x : ℕ) → x < m.count * 256 → link_kept d m x ≡ true → (i : ℕ) × LinkPair x i
  unfolding link_kept kept_link
  kept_pair x l e =
      let own : own_role d (x / 8 % 32) ≡ true = both_left _ _ e in
      let has : has_link r (x / 256) (role_name d (x / 8 % 32)) (x % 8) ≡ true =
      sym (own-link (x / 256) (x / 8 % 32) (x % 8) (object-small d r m h (x / 256) (omega arith)) (omega arith) own) ∙ both_right _ _ e in
      let i = link-of r (kept_link d x) has in
      (i.0, record { below = l; within = i.1; kept = e; is = i.2 })

  -- each link of the record whose role the diagram has is kept
  pub link-pair : (i : ℕ) → i < length r.links → role_slot d (link_at r i).role < role_count d → (x : ℕ) × LinkPair x i
  unfolding link_kept kept_link
  link-pair i l k =
      let o : ℕ = (link_at r i).from in
      let p : ℕ = (link_at r i).to in
      let s : ℕ = role_slot d (link_at r i).role in
      let few : length d.associations ≤ 16 = h.wf-diagram.few-associations in
      let objects : object_count r ≤ 8 = h.wf-record.few in
      let from : (link_at r i).from < object_count r = (h.wf-record.link i l).from-below in
      let to : (link_at r i).to < object_count r = (h.wf-record.link i l).to_below in
      let count : m.count ≡ object_count r = h.count in
      let a : (o * 256 + s * 8 + p) / 256 ≡ o = omega arith in
      let b : (o * 256 + s * 8 + p) / 8 % 32 ≡ s = omega arith in
      let c : (o * 256 + s * 8 + p) % 8 ≡ p = omega arith in
      let own : own_role d s ≡ true = role-own d (link_at r i).role k in
      let name : key (role_name d s) ≡ key (link_at r i).role = role-name d (link_at r i).role k in
      let bit : link_in m o s p ≡ true = link-kept d r m h o (link_at r i).role p (omega arith) (omega arith) k ∙ linked-at r i l in
      let is : AlikeLink (link_at r i) (kept_link d (o * 256 + s * 8 + p)) = (sym a, sym (ap (λ (n : ℕ). key (role_name d n)) b ∙ name), sym c) in
      (o * 256 + s * 8 + p, record { below = omega arith; within = l; kept = rw (a, b, c) (both_of _ _ own bit); is = is })

  -- both judge it alike
  rule5-pair : (x i : ℕ) → LinkPair x i → rule5_at d (site_in d m) (kept_link d x) ≡ rule5_at d (site_of r) (link_at r i)
  unfolding site_in
  rule5-pair x i p =
      let from : (link_at r i).from < object_count r = (h.wf-record.link i p.within).from-below in
      let to : (link_at r i).to < object_count r = (h.wf-record.link i p.within).to_below in
      let count : m.count ≡ object_count r = h.count in
      sym (rule5-alike d (site_in d m) (link_at r i) (kept_link d x) p.is) ∙ rule5_at-agrees d (site_in d m) (site_of r) (agrees d r m h) (link_at r i) (omega arith) (omega arith)

  -- ---- rule 5

  no_stray : stray_link d r ≡ false → (i : ℕ) → i < length r.links → role_slot d (link_at r i).role < role_count d
  unfolding stray_link
  no_stray none i l =
      let other : role_slot d (link_at r i).role ≡ role_count d → ⊥ = eqb-false _ _ (any-no _ (length r.links) none i l) in
      let most : role_slot d (link_at r i).role ≤ role_count d = role-most d (link_at r i).role in
      omega arith

  rule5-clean : stray_link d r ≡ false → rule5 d (site_in d m) ≡ rule5 d (site_of r)
  unfolding rule5 site_in site_of
  rule5-clean none = same_test _ _ forth back
    where
      forth : all (λ x. imp (link_kept d m x) (rule5_at d (site_in d m) (kept_link d x))) (m.count * 256) ≡ true → all (λ i. rule5_at d (site_of r) (link_at r i)) (length r.links) ≡ true
      forth e = all_of _ (length r.links) (λ i l.
          let x = link-pair i l (no_stray none i l) in
          sym (rule5-pair x.0 i x.1) ∙ imp_use _ _ (all-at _ (m.count * 256) e x.0 x.1.below) x.1.kept)

      back : all (λ i. rule5_at d (site_of r) (link_at r i)) (length r.links) ≡ true → all (λ x. imp (link_kept d m x) (rule5_at d (site_in d m) (kept_link d x))) (m.count * 256) ≡ true
      back e = all_of _ (m.count * 256) (λ x l. imp-of _ _ (λ k.
          let i = kept_pair x l k in
          rule5-pair x i.0 i.1 ∙ all-at _ (length r.links) e i.0 i.1.within))

  stray-breaks : stray_link d r ≡ true → rule5 d (site_of r) ≡ true → ⊥
  unfolding stray_link
  stray-breaks e f =
      let i = any_at _ (length r.links) e in
      let slot : role_slot d (link_at r i.0).role ≡ role_count d = eqb-true _ _ i.2 in
      let there : role_slot d (link_at r i.0).role < role_count d = link-known d r f i.0 i.1 in
      omega arith

  -- the mark decides; without it the kept links do
  rule5-marked : m.strays.links ≡ true → rule5_in d m ≡ false
  unfolding rule5_in both
  rule5-marked e = rw e

  rule5-unmarked : m.strays.links ≡ false → rule5_in d m ≡ rule5 d (site_in d m)
  unfolding rule5_in both
  rule5-unmarked e = rw e

  pub rule5-in : rule5_in d m ≡ rule5 d (site_of r)
  rule5-in =
      ⊎_elim (λ e. rule5-marked (h.represents.stray-links ∙ e) ∙ sym (same_test (rule5 d (site_of r)) false (λ f. absurd (stray-breaks e f)) (λ f. absurd (false≢true f))))
      (λ e. rule5-unmarked (h.represents.stray-links ∙ e) ∙ rule5-clean e) (known (stray_link d r))
