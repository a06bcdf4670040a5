-- Rule 5 holds exactly when each link of the world is led by an end, of whose type the target is an instance.
-- Assumes nothing.
use Prim.Native.Nat.{◌%◌, ◌*◌, ◌+◌, ◌/◌, ◌<◌, ◌≤◌, ℕ}
use native.Mathlib.Omega.{arith}
use mathlib.Core.Bool.{true}
use mathlib.Core.Logic.{⊎_elim}
use mathlib.Core.Path.{◌∙◌, ◌≡◌, ap, sym}
use lib.ListN.{length}
use borrow.Author.Tests.{eq-eqb, eqb-true}
use Rattle.laws.specs.Connective.{imp}
use Rattle.laws.proofs.BoundedLaws.{all-at, all_of, any_at, any_of}
use Rattle.laws.proofs.ConnectiveLaws.{both_left, both_of, both_right, either-cases, either_left, either-right, imp-of, imp_use}
use Rattle.files.specs.Diagram.{Diagram, End, association_at}
use Rattle.files.specs.Name.{key}
use Rattle.files.specs.Record.{Link}
use Rattle.files.proofs.NameLaws.{key-same, same_key}
use Rattle.records.specs.declared.MemoryRecord.{MemoryRecord}
use Rattle.records.specs.Slots.{own_role, role_count, role_name, role_slot}
use Rattle.records.specs.Written.{link_in}
use Rattle.records.proofs.SlotLaws.{own-role-below, own-role-slot, role-alike, role-name}
use Rattle.rules.specs.Arrow.{Side, r1, r2, target}
use Rattle.rules.specs.LinkRules.{permits, rule5, rule5_at}
use Rattle.memory_rules.specs.SiteIn.{kept_link, link_kept, site_in}
use Rattle.memory_rules.proofs.SlotLaws.{end_below, end-role, end_of}
use Rattle.type_tables.specs.Rows.{end_at}
use Rattle.type_tables.proofs.EndLaws.{each-end, end-at}
use Rattle.views.specs.Views.{counts_as, leads_by, slot_by}
use Rattle.worlds.specs.Kept.{world_of}
use Rattle.rulings.specs.Shaped.{Shaped, kind_in}
use Rattle.rulings.proofs.LeadLaws.{leads-by}
use Rattle.rulings.proofs.SeenLaws.{instance-counts, link-is}

-- the link from o to p of the role with slot s
abbrev link_of : Diagram → ℕ → ℕ → ℕ → Link
link_of old o s p = record { from = o; role = role_name old s; to = p }

-- end e leads the links of o in slot s, and p is an instance of its type
pub record Leads (old d : Diagram) (m : MemoryRecord) (o s p e : ℕ) : Type 0 where
  pub leads : leads_by old d (kind_in m o) s e ≡ true
  pub instance : counts_as old d (end_at d e).type (kind_in m p) ≡ true

-- each link has such an end
abbrev pub Permitted : Diagram → Diagram → MemoryRecord → Type 0
Permitted old d m =
    (o s p : ℕ) → o < m.count → s < 32 → p < m.count → (world_of m).link s o p ≡ true → (e : ℕ) × (e < role_count d) × Leads old d m o s p e

module _ (old d : Diagram) (m : MemoryRecord) where
  -- ---- one link, and one side of an association

  module _ (o s p : ℕ) (own : own_role old s ≡ true) where
    leads-of : (side : Side) (a : ℕ) → permits d (site_in old m) side (association_at d a) (link_of old o s p) ≡ true → Leads old d m o s p (end_of d side a)
    unfolding permits slot_by
    leads-of side a e =
        let ends = both_right _ _ (both_right _ _ e) in
        let slot : slot_by old d (end_of d side a) ≡ s = role-alike old _ _ (ap key (end-role d side a) ∙ same_key _ _ (both_left _ _ (both_right _ _ e))) ∙ own-role-slot old s own in
        record {
          leads = leads-by old d (kind_in m o) s side a ∙ both_of _ _ (both_left _ _ e) (both_of _ _ (eq-eqb _ _ slot) (sym (instance-counts old d m _ o) ∙ both_left _ _ ends));
          instance = ap (λ (k : End). counts_as old d k.type (kind_in m p)) (end-at d side a) ∙ sym (instance-counts old d m _ p) ∙ both_right _ _ ends;
        }

    permits-of : (side : Side) (a : ℕ) → Leads old d m o s p (end_of d side a) → permits d (site_in old m) side (association_at d a) (link_of old o s p) ≡ true
    unfolding permits slot_by
    permits-of side a w =
        let q = sym (leads-by old d (kind_in m o) s side a) ∙ w.leads in
        let slot : role_slot old (role_name d (end_of d side a)) ≡ s = eqb-true _ _ (both_left _ _ (both_right _ _ q)) in
        let below : s < role_count old = own-role-below old s own in
        let role : key (target side (association_at d a)).role ≡ key (role_name old s) =
        ap key (sym (end-role d side a)) ∙ sym (role-name old (role_name d (end_of d side a)) (omega arith)) ∙ ap (λ (n : ℕ). key (role_name old n)) slot in
        both_of _ _ (both_left _ _ q)
        (both_of _ _ (key-same _ _ role)
        (both_of _ _ (instance-counts old d m _ o ∙ both_right _ _ (both_right _ _ q))
        (instance-counts old d m _ p ∙ ap (λ (k : End). counts_as old d k.type (kind_in m p)) (sym (end-at d side a)) ∙ w.instance)))

    some_end : rule5_at d (site_in old m) (link_of old o s p) ≡ true → (e : ℕ) × (e < role_count d) × Leads old d m o s p e
    unfolding rule5_at
    some_end q =
        let a = any_at _ (length d.associations) q in
        ⊎_elim (λ e. (end_of d r2 a.0, end_below d r2 a.0 a.1, leads-of r2 a.0 e))
        (λ e. (end_of d r1 a.0, end_below d r1 a.0 a.1, leads-of r1 a.0 e)) (either-cases _ _ a.2)

    side-permits : (side : Side) (a : ℕ) → a < length d.associations → Leads old d m o s p (end_of d side a) → rule5_at d (site_in old m) (link_of old o s p) ≡ true
    unfolding rule5_at
    side-permits r2 a l w = any_of _ (length d.associations) a l (either_left _ _ (permits-of r2 a w))
    side-permits r1 a l w = any_of _ (length d.associations) a l (either-right _ _ (permits-of r1 a w))

    end-permits : (e : ℕ) → e < role_count d → Leads old d m o s p e → rule5_at d (site_in old m) (link_of old o s p) ≡ true
    end-permits = each-end d (λ (e : ℕ). Leads old d m o s p e → rule5_at d (site_in old m) (link_of old o s p) ≡ true) side-permits

  -- ---- all links

  module _ (h : Shaped old m) where
    pub rule5-permitted : rule5 d (site_in old m) ≡ true → Permitted old d m
    unfolding rule5 site_in link_kept kept_link
    rule5-permitted r o s p l slot k e =
        let few : m.count ≤ 8 = h.few in
        let small : p < 8 = omega arith in
        let link : link_in m o s p ≡ true = sym (link-is m s o p slot (omega arith) small) ∙ e in
        let own : own_role old s ≡ true = h.own o s p l slot small link in
        let a : (o * 256 + s * 8 + p) / 256 ≡ o = omega arith in
        let b : (o * 256 + s * 8 + p) / 8 % 32 ≡ s = omega arith in
        let c : (o * 256 + s * 8 + p) % 8 ≡ p = omega arith in
        let kept : link_kept old m (o * 256 + s * 8 + p) ≡ true = rw (a, b, c) (both_of _ _ own link) in
        let is : kept_link old (o * 256 + s * 8 + p) ≡ link_of old o s p = λ j. record { from = a j; role = role_name old (b j); to = c j } in
        let held : rule5_at d (site_in old m) (kept_link old (o * 256 + s * 8 + p)) ≡ true =
        imp_use _ _ (all-at (λ x. imp (link_kept old m x) (rule5_at d (site_in old m) (kept_link old x))) (m.count * 256) r (o * 256 + s * 8 + p) (omega arith)) kept in
        some_end o s p own (ap (rule5_at d (site_in old m)) (sym is) ∙ held)

    pub permitted-rule5 : Permitted old d m → rule5 d (site_in old m) ≡ true
    unfolding rule5 site_in link_kept kept_link
    permitted-rule5 f = all_of (λ x. imp (link_kept old m x) (rule5_at d (site_in old m) (kept_link old x))) (m.count * 256) (λ x l. imp-of _ _ (λ e.
        let few : m.count ≤ 8 = h.few in
        let o : x / 256 < 8 = omega arith in
        let s : x / 8 % 32 < 32 = omega arith in
        let p : x % 8 < 8 = omega arith in
        let link : link_in m (x / 256) (x / 8 % 32) (x % 8) ≡ true = both_right _ _ e in
        let in-it = h.inside (x / 256) (x / 8 % 32) (x % 8) o s p link in
        let w = f (x / 256) (x / 8 % 32) (x % 8) in-it.0 s in-it.1 (link-is m (x / 8 % 32) (x / 256) (x % 8) s o p ∙ link) in
        end-permits (x / 256) (x / 8 % 32) (x % 8) (both_left _ _ e) w.0 w.1 w.2))
