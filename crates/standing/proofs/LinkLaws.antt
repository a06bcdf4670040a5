-- What is written has exactly the links that are kept: each stands at its slot, which has a place in the order of names.
-- Assumes nothing.
use Prim.Native.Nat.{◌%◌, ◌*◌, ◌+◌, ◌/◌, ◌<◌, ◌≤◌, ℕ}
use native.Mathlib.Omega.{arith}
use mathlib.Core.Bool.{Bool, ◌&&◌, true}
use mathlib.Core.List.{[]}
use mathlib.Core.Path.{◌∙◌, ◌≡◌, ap, refl, subst, sym}
use lib.Dec.{eqb}
use lib.ListN.{length}
use borrow.Author.Tests.{eq-eqb, eqb-true, lt-ltb, ltb-true}
use Rattle.laws.specs.Bounded.{any}
use Rattle.laws.specs.Connective.{both}
use Rattle.laws.proofs.BoundedLaws.{any_at, any_of}
use Rattle.laws.proofs.ConnectiveLaws.{and_both, and_left, and_right, both_left, both_of, both_right, same_test}
use Rattle.laws.proofs.PickedLaws.{any-picked}
use Rattle.files.specs.Diagram.{Diagram}
use Rattle.files.specs.Membership.{has_link}
use Rattle.files.specs.Name.{Name, key, same_name}
use Rattle.files.specs.Record.{Link}
use Rattle.files.specs.WellFormedDiagram.{WfDiagram}
use Rattle.files.proofs.NameLaws.{same_key, same_self}
use Rattle.records.specs.Represents.{link_bit}
use Rattle.records.specs.Slots.{own_role, role_count, role_name, role_slot}
use Rattle.records.specs.Written.{Within, link_in, link_is, link_on, record_of, role_place}
use Rattle.records.specs.declared.MemoryRecord.{MemoryRecord}
use Rattle.records.proofs.PlaceLaws.{role-placed}
use Rattle.records.proofs.SlotLaws.{own-role-below, own-role-slot, role-alike, role-known}
use Rattle.standing.specs.Clean.{Clean}

-- k is the link of role w from o to p
abbrev is_link : ℕ → Name → ℕ → Link → Bool
is_link o w p k = both (eqb k.from o) (both (same_name k.role w) (eqb k.to p))

module _ (d : Diagram) (m : MemoryRecord) (wf : WfDiagram d) (inside : Within d m) (clean : Clean d m) where
  -- number x is on, and it is this link
  abbrev link_here : (o : ℕ) (w : Name) (p x : ℕ) → Bool
  link_here o w p x = link_on d m x && is_link o w p (link_is d x)

  link-written : (o : ℕ) (w : Name) (p : ℕ) → has_link (record_of d m) o w p ≡ any (link_here o w p) (m.count * 256)
  unfolding has_link record_of
  link-written o w p = any-picked (is_link o w p) (link_on d m) (link_is d) (record { from = 0; role = []; to = 0 }) (m.count * 256)

  -- kept, and so written
  link-forth : (o s p : ℕ) → o < 8 → s < 32 → p < 8 → link_in m o s p ≡ true → (x : ℕ) × (x < m.count * 256) × (link_here o (role_name d s) p x ≡ true)
  unfolding link_on link_is
  link-forth o s p lo ls lp e =
      let c = clean.links o s p lo ls lp e in
      let below : o < m.count = c.0 in
      let there : s < role_count d = own-role-below d s c.1 in
      let t = role-placed d s c.1 in
      let few : length d.associations ≤ 16 = wf.few-associations in
      let rank : t.0 < role_count d = t.1 in
      let x : ℕ = o * 256 + t.0 * 8 + p in
      let a : x / 256 ≡ o = omega arith in
      let b : x / 8 % 32 ≡ t.0 = omega arith in
      let q : x % 8 ≡ p = omega arith in
      let place : role_place d (x / 8 % 32) ≡ s = ap (role_place d) b ∙ t.2 in
      let on : link_on d m x ≡ true = rw (a, place, q) (both_of _ _ (lt-ltb _ _ there) e) in
      let is : is_link o (role_name d s) p (link_is d x) ≡ true = rw (a, place, q) (both_of _ _ (eq-eqb o o refl) (both_of _ _ (same_self (role_name d s)) (eq-eqb p p refl))) in
      (x, omega arith, and_both (link_on d m x) (is_link o (role_name d s) p (link_is d x)) on is)

  -- written, and so kept
  link-back : (o s p x : ℕ) → own_role d s ≡ true → x < m.count * 256 → link_here o (role_name d s) p x ≡ true → link_in m o s p ≡ true
  unfolding link_on link_is
  link-back o s p x own l q =
      let w : Name = role_name d s in
      let t : ℕ = role_place d (x / 8 % 32) in
      let on = and_left (link_on d m x) (is_link o w p (link_is d x)) q in
      let is = and_right (link_on d m x) (is_link o w p (link_is d x)) q in
      let a : x / 256 ≡ o = eqb-true _ _ (both_left _ _ is) in
      let b : key (role_name d t) ≡ key w = same_key _ _ (both_left _ _ (both_right _ _ is)) in
      let c : x % 8 ≡ p = eqb-true _ _ (both_right _ _ (both_right _ _ is)) in
      let few : length d.associations ≤ 16 = wf.few-associations in
      let objects : m.count ≤ 8 = inside.few in
      let there : t < role_count d = ltb-true _ _ (both_left _ _ on) in
      let bit : link_in m (x / 256) t (x % 8) ≡ true = both_right _ _ on in
      let kept : own_role d t ≡ true = (clean.links (x / 256) t (x % 8) (omega arith) (omega arith) (omega arith) bit).1 in
      let slot : t ≡ s = sym (own-role-slot d t kept) ∙ role-alike d _ _ b ∙ own-role-slot d s own in
      subst (λ (n : ℕ). link_in m n s p ≡ true) a (subst (λ (n : ℕ). link_in m (x / 256) n p ≡ true) slot (subst (λ (n : ℕ). link_in m (x / 256) t n ≡ true) c bit))

  pub links-written : (o s p : ℕ) → o < 8 → s < 32 → p < 8 → link_in m o s p ≡ link_bit d (record_of d m) o s p
  unfolding link_bit
  links-written o s p lo ls lp = same_test _ _
      (λ e.
      let x = link-forth o s p lo ls lp e in
      both_of _ _ (clean.links o s p lo ls lp e).1 (link-written o (role_name d s) p ∙ any_of (link_here o (role_name d s) p) (m.count * 256) x.0 x.1 x.2))
      (λ e.
      let x = any_at (link_here o (role_name d s) p) (m.count * 256) (sym (link-written o (role_name d s) p) ∙ both_right _ _ e) in
      link-back o s p x.0 (both_left _ _ e) x.1 x.2)

  -- each link that is written has a role of the diagram
  pub link-roles : (x : ℕ) → link_on d m x ≡ true → role_slot d (link_is d x).role < role_count d
  unfolding link_on link_is
  link-roles x e = role-known d (role_name d (role_place d (x / 8 % 32))) (role_place d (x / 8 % 32)) (ltb-true _ _ (both_left _ _ e)) (same_self (role_name d (role_place d (x / 8 % 32))))
