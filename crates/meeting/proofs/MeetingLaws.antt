-- "The two diagrams meet only through names." A record in memory stands for a record of names that is legal for old. Asked for any
-- name, of old or not, its site answers as the record does: its types and roles are old's, so that of other names both say no. So
-- another diagram's rules on types and links say the same of both.
-- Assumes nothing.
use Prim.Native.Nat.{◌*◌, ◌<◌, ℕ}
use native.Mathlib.Decide.{dec_lt}
use native.Mathlib.Omega.{arith}
use mathlib.Core.Bool.{Bool, true}
use mathlib.Core.Path.{◌∙◌, ◌≡◌, ap, subst, sym}
use lib.ListN.{get_or, length}
use borrow.Author.Tests.{eq-eqb, eqb-true, ltb-true}
use Rattle.laws.specs.Connective.{imp}
use Rattle.files.specs.Diagram.{Diagram, type_at}
use Rattle.files.specs.Membership.{has_link}
use Rattle.files.specs.Name.{Name, key}
use Rattle.files.specs.Record.{Link, Record, link_at, object_count, object_type}
use Rattle.records.specs.Slots.{role_count, role_slot, type_index}
use Rattle.records.specs.declared.MemoryRecord.{MemoryRecord}
use Rattle.records.proofs.SlotLaws.{index-alike, index-name, role-alike}
use Rattle.rules.specs.Judge.{Legal}
use Rattle.rules.specs.LinkRules.{rule5, rule5_at, rule6, rule7, rule8}
use Rattle.rules.specs.Site.{site_of}
use Rattle.rules.specs.TypeRules.{rule1, rule2}
use Rattle.rules.specs.WholeRule.{rule9}
use Rattle.memory_rules.specs.Agree.{Agree}
use Rattle.memory_rules.specs.SiteIn.{kept_link, link_kept, linked_in, site_in, typed_in}
use Rattle.memory_rules.specs.Stands.{Stands}
use Rattle.laws.proofs.BoundedLaws.{all-at, all-ext, all_of, any_at}
use Rattle.laws.proofs.ConnectiveLaws.{both_left, both_right, imp-of, imp_use, same_test}
use Rattle.files.proofs.NameLaws.{key-same, same_key}
use Rattle.files.proofs.MembershipLaws.{AlikeLink}
use Rattle.rules.proofs.JudgeLaws.{Keeps, legal-keeps}
use Rattle.rules.proofs.KeyLaws.{rule5-alike}
use Rattle.memory_rules.proofs.AgreeLaws.{rule1-agrees, rule2-agrees, rule5_at-agrees, rule6-agrees, rule7-agrees, rule8-agrees, rule9-agrees}
use Rattle.memory_rules.proofs.LinkLaws.{kept_pair, link-known, link-pair}
use Rattle.memory_rules.proofs.SiteInLaws.{linked-known, object-small}
use Rattle.fillings.proofs.LegalLaws.{known-type}

module _ (old : Diagram) (r : Record) (m : MemoryRecord) (h : Stands old r m) (legal : Legal old r) where
  keeps : Keeps old (site_of r)
  keeps = legal-keeps old r legal

  -- ---- any name

  pub typed-met : (o : ℕ) (w : Name) → o < m.count → typed_in old m o w ≡ (site_of r).typed o w
  unfolding typed_in site_of
  typed-met o w l =
      let below : o < object_count r = subst (λ (n : ℕ). o < n) h.count l in
      let known : type_index old (object_type r o) < length old.types = known-type old r legal o below in
      let at : get_or m.types o 0 ≡ type_index old (object_type r o) = h.represents.types o below in
      same_test _ _
      (λ e.
      let q : type_index old w ≡ type_index old (object_type r o) = eqb-true _ _ e ∙ at in
      let n : key w ≡ key (object_type r o) = sym (index-name old w (omega arith)) ∙ ap (λ (i : ℕ). key (type_at old i).name) q ∙ index-name old (object_type r o) known in
      key-same w (object_type r o) n)
      (λ e. eq-eqb _ _ (index-alike old w (object_type r o) (same_key w (object_type r o) e) ∙ sym at))

  -- a link has a role of old
  role-there : (o : ℕ) (w : Name) (p : ℕ) → has_link r o w p ≡ true → role_slot old w < role_count old
  unfolding has_link
  role-there o w p e =
      let i = any_at _ (length r.links) e in
      subst (λ (n : ℕ). n < role_count old) (role-alike old _ _ (same_key _ _ (both_left _ _ (both_right _ _ i.2)))) (link-known old r keeps.fifth i.0 i.1)

  pub linked-met : (o : ℕ) (w : Name) (p : ℕ) → o < m.count → p < m.count → linked_in old m o w p ≡ has_link r o w p
  linked-met o w p l k = go (dec_lt (role_slot old w) (role_count old))
    where
      go : Dec (role_slot old w < role_count old) → linked_in old m o w p ≡ has_link r o w p
      go (yes s) = linked-known old r m h o w p (object-small old r m h o l) (object-small old r m h p k) s
      go (no s) = same_test _ _
          (λ e. let z : role_slot old w < role_count old = unlinked e in absurd (omega arith))
          (λ e. let z : role_slot old w < role_count old = role-there o w p e in absurd (omega arith))
        where
          unlinked : linked_in old m o w p ≡ true → role_slot old w < role_count old
          unlinked e = unfold linked_in in ltb-true _ _ (both_left _ _ e)

  -- a test of each link
  pub each-link-met : (test : Link → Bool) → ((k l : Link) → AlikeLink k l → test k ≡ test l) → (site_in old m).each_link test ≡ (site_of r).each_link test
  unfolding site_in site_of
  each-link-met test respects = same_test _ _
      (λ e. all_of _ (length r.links) (λ i l.
      let x = link-pair old r m h i l (link-known old r keeps.fifth i l) in
      respects _ _ x.1.is ∙ imp_use _ _ (all-at (λ x. imp (link_kept old m x) (test (kept_link old x))) (m.count * 256) e x.0 x.1.below) x.1.kept))
      (λ e. all_of _ (m.count * 256) (λ x l. imp-of _ _ (λ k.
      let i = kept_pair old r m h x l k in
      sym (respects _ _ i.1.is) ∙ all-at (λ i. test (link_at r i)) (length r.links) e i.0 i.1.within)))

  -- ---- another diagram

  module _ (new : Diagram) where
    pub met : Agree new (site_in old m) (site_of r)
    unfolding site_in site_of
    met = record {
      count = h.count;
      typed = λ o i l k. typed-met o (type_at new i).name l;
      linked = λ o s a p l k. linked-met o _ p l k;
    }

    rule5-met : rule5 new (site_in old m) ≡ rule5 new (site_of r)
    unfolding rule5
    rule5-met =
        each-link-met (rule5_at new (site_in old m)) (rule5-alike new (site_in old m))
        ∙ unfold site_of in all-ext _ _ (length r.links) (λ i l.
        rule5_at-agrees new (site_in old m) (site_of r) met (link_at r i) (from i l) (to i l))
      where
        from : (i : ℕ) → i < length r.links → (link_at r i).from < (site_in old m).count
        from i l = unfold site_in in subst (λ (n : ℕ). (link_at r i).from < n) (sym h.count) (h.wf-record.link i l).from-below

        to : (i : ℕ) → i < length r.links → (link_at r i).to < (site_in old m).count
        to i l = unfold site_in in subst (λ (n : ℕ). (link_at r i).to < n) (sym h.count) (h.wf-record.link i l).to_below

    -- the rules on types and links say the same
    pub record SameLinkRules : Type 0 where
      pub first : rule1 new (site_in old m) ≡ rule1 new (site_of r)
      pub second : rule2 new (site_in old m) ≡ rule2 new (site_of r)
      pub fifth : rule5 new (site_in old m) ≡ rule5 new (site_of r)
      pub sixth : rule6 new (site_in old m) ≡ rule6 new (site_of r)
      pub seventh : rule7 new (site_in old m) ≡ rule7 new (site_of r)
      pub eighth : rule8 new (site_in old m) ≡ rule8 new (site_of r)
      pub ninth : rule9 new (site_in old m) ≡ rule9 new (site_of r)

    pub rules-met : SameLinkRules
    rules-met = record {
      first = rule1-agrees new (site_in old m) (site_of r) met;
      second = rule2-agrees new (site_in old m) (site_of r) met;
      fifth = rule5-met;
      sixth = rule6-agrees new (site_in old m) (site_of r) met;
      seventh = rule7-agrees new (site_in old m) (site_of r) met;
      eighth = rule8-agrees new (site_in old m) (site_of r) met;
      ninth = rule9-agrees new (site_in old m) (site_of r) met;
    }
