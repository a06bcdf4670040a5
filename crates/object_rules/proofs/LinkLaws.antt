-- Rule 5 on numbers is the rule: an end's role name is its slot, and an instance is a bit of its type's mask.
-- Assumes nothing.
use Prim.Native.Nat.{◌%◌, ◌*◌, ◌+◌, ◌/◌, ◌<◌, ◌≤◌, ℕ}
use native.Mathlib.Omega.{arith}
use mathlib.Core.Bool.{Bool, false, not, true}
use mathlib.Core.List.{List}
use mathlib.Core.Path.{◌∙◌, ◌≡◌, ap, ap₂, subst, sym}
use lib.Dec.{eqb, ltb}
use lib.ListN.{get_or, length}
use borrow.Author.Tests.{eqb-true, ltb-true}
use Rattle.laws.specs.Bounded.{all, any}
use Rattle.laws.specs.Connective.{both, either, imp}
use Rattle.laws.proofs.BoundedLaws.{all-ext, any-ext}
use Rattle.laws.proofs.ConnectiveLaws.{both_left, both_right, imp-under}
use Rattle.laws.proofs.SearchLaws.{both-no, both_yes}
use Rattle.files.specs.Diagram.{Association, association_at}
use Rattle.files.specs.Name.{Name, same_name}
use Rattle.files.specs.Record.{Link}
use Rattle.fields.specs.Slot.{slot_name}
use Rattle.diagrams.specs.declared.StoredDiagram.{StoredDiagram}
use Rattle.diagrams.specs.View.{association_in, diagram_of, end_in}
use Rattle.diagrams.specs.Held.{Held}
use Rattle.diagrams.proofs.NamedLaws.{role-count, role-named}
use Rattle.diagrams.proofs.ViewLaws.{association-at, association-count}
use Rattle.records.specs.declared.MemoryRecord.{MemoryRecord}
use Rattle.records.specs.Slots.{own_role, role_count, role_name}
use Rattle.records.proofs.SlotLaws.{role_same}
use Rattle.rules.specs.Arrow.{r1, r2}
use Rattle.rules.specs.Instance.{is_instance}
use Rattle.rules.specs.LinkRules.{permits, rule5, rule5_at}
use Rattle.memory_rules.specs.JudgeIn.{rule5_in}
use Rattle.memory_rules.specs.SiteIn.{kept_link, link_kept, site_in}
use Rattle.masks.specs.Masks.{link_in}
use Rattle.tables.specs.Tables.{Instances, RoleSlots}
use Rattle.tables.proofs.TableLaws.{instances-at}
use Rattle.permits.specs.Permits.{joins, permits_at}
use Rattle.object_rules.specs.LinksIn.{link_fits}
use Rattle.object_rules.specs.ValuesIn.{own_slot}
use Rattle.object_rules.proofs.OwnSlotLaws.{own-role}

module _ (d : StoredDiagram) (held : Held d) (m : MemoryRecord) (few : m.count ≤ 8) (masks : List ℕ) (is : Instances (diagram_of d) m masks) (slots : List ℕ) (at : RoleSlots (diagram_of d) slots) where
  -- the role of end e is that of slot s, its name's own
  role-is : (e s : ℕ) → e < d.associations.count * 2 → s < d.associations.count * 2 → get_or slots s 0 ≡ s
      → same_name (slot_name d.associations.roles e) (role_name (diagram_of d) s) ≡ eqb (get_or slots e 0) s
  unfolding role_name
  role-is e s l h own =
      let n = role-count d in
      let le : e < role_count (diagram_of d) = omega arith in
      let ls : s < role_count (diagram_of d) = omega arith in
      ap (λ (w : Name). same_name w (role_name (diagram_of d) s)) (sym (role-named d e l)) ∙ role_same (diagram_of d) e (role_name (diagram_of d) s) le
      ∙ ap₂ eqb (sym (at.exact e le)) (sym (at.exact s ls) ∙ own)

  joins-is : (s o p from to : ℕ) → s < d.associations.count * 2 → get_or slots s 0 ≡ s → o < 8 → p < 8 → to < d.associations.count * 2
      → get_or d.associations.types from 0 < length (diagram_of d).types
      → get_or d.associations.types to 0 < length (diagram_of d).types
      → both (same_name (slot_name d.associations.roles to) (role_name (diagram_of d) s))
      (both (is_instance (diagram_of d) (site_in (diagram_of d) m) (get_or d.associations.types from 0) o) (is_instance (diagram_of d) (site_in (diagram_of d) m) (get_or d.associations.types to 0) p))
      ≡ joins d.associations.types masks slots s o p from to
  unfolding joins
  joins-is s o p from to ls own lo lp lt kf kt =
      ap₂ both (role-is to s lt ls own)
      (ap₂ both (instances-at (diagram_of d) m masks is (get_or d.associations.types from 0) o kf lo) (instances-at (diagram_of d) m masks is (get_or d.associations.types to 0) p kt lp))

  -- the types of an association's ends are known
  left-known : (a : ℕ) → a < d.associations.count → get_or d.associations.types (a * 2) 0 < length (diagram_of d).types
  unfolding association_in end_in
  left-known a l =
      subst (λ (x : Association). x.left.type < length (diagram_of d).types) (association-at d a l)
      (held.wf.association a (subst (λ (n : ℕ). a < n) (sym (association-count d)) l)).left-fits.type-known

  right-known : (a : ℕ) → a < d.associations.count → get_or d.associations.types (a * 2 + 1) 0 < length (diagram_of d).types
  unfolding association_in end_in
  right-known a l =
      subst (λ (x : Association). x.right.type < length (diagram_of d).types) (association-at d a l)
      (held.wf.association a (subst (λ (n : ℕ). a < n) (sym (association-count d)) l)).right-fits.type-known

  permits-is : (s o p a : ℕ) → s < d.associations.count * 2 → get_or slots s 0 ≡ s → o < 8 → p < 8 → a < d.associations.count
      → either (permits (diagram_of d) (site_in (diagram_of d) m) r2 (association_at (diagram_of d) a) (record { from = o; role = role_name (diagram_of d) s; to = p }))
      (permits (diagram_of d) (site_in (diagram_of d) m) r1 (association_at (diagram_of d) a) (record { from = o; role = role_name (diagram_of d) s; to = p }))
      ≡ permits_at d.associations.arrows d.associations.types masks slots s o p a
  unfolding permits permits_at association_in end_in
  permits-is s o p a ls own lo lp la =
      let k : Link = record { from = o; role = role_name (diagram_of d) s; to = p } in
      ap (λ (x : Association). either (permits (diagram_of d) (site_in (diagram_of d) m) r2 x k) (permits (diagram_of d) (site_in (diagram_of d) m) r1 x k)) (association-at d a la)
      ∙ ap₂ either (ap (both _) (joins-is s o p (a * 2) (a * 2 + 1) ls own lo lp (omega arith) (left-known a la) (right-known a la)))
      (ap (both _) (joins-is s o p (a * 2 + 1) (a * 2) ls own lo lp (omega arith) (right-known a la) (left-known a la)))

  own_is : (s : ℕ) → own_role (diagram_of d) s ≡ own_slot slots (d.associations.count * 2) s
  own_is = own-role d slots at

  link_at : (x : ℕ) → x < m.count * 256
      → imp (link_kept (diagram_of d) m x) (rule5_at (diagram_of d) (site_in (diagram_of d) m) (kept_link (diagram_of d) x))
      ≡ link_fits m.links d.associations.arrows d.associations.types masks slots d.associations.count x
  unfolding link_kept kept_link rule5_at link_fits own_slot
  link_at x l =
      let s = x / 8 % 32 in
      let n = d.associations.count in
      ap (λ (b : Bool). imp (both b (link_in m.links s (x / 256) (x % 8))) (rule5_at (diagram_of d) (site_in (diagram_of d) m) (kept_link (diagram_of d) x))) (own_is s)
      ∙ imp-under (both (own_slot slots (n * 2) s) (link_in m.links s (x / 256) (x % 8))) _ _
      (λ e.
      let own = both_left (own_slot slots (n * 2) s) _ e in
      let ls : s < n * 2 = ltb-true s (n * 2) (both_left (ltb s (n * 2)) _ own) in
      let eq : get_or slots s 0 ≡ s = eqb-true _ _ (both_right (ltb s (n * 2)) _ own) in
      let lo : x / 256 < 8 = omega arith in
      let lp : x % 8 < 8 = omega arith in
      let c = association-count d in
      any-ext _ (permits_at d.associations.arrows d.associations.types masks slots s (x / 256) (x % 8)) _ (λ a h. permits-is s (x / 256) (x % 8) a ls eq lo lp (let q : a < n = omega arith in q))
      ∙ ap (any (permits_at d.associations.arrows d.associations.types masks slots s (x / 256) (x % 8))) c)

  rule5-is : rule5 (diagram_of d) (site_in (diagram_of d) m) ≡ all (link_fits m.links d.associations.arrows d.associations.types masks slots d.associations.count) (m.count * 256)
  unfolding rule5 site_in
  rule5-is = all-ext _ _ (m.count * 256) link_at

  pub rule5-links : {r : Bool} → m.strays.links ≡ false → r ≡ all (link_fits m.links d.associations.arrows d.associations.types masks slots d.associations.count) (m.count * 256)
      → r ≡ rule5_in (diagram_of d) m
  unfolding rule5_in
  rule5-links e q = both_yes (ap not e) (q ∙ sym rule5-is)

pub rule5-stray : (d : StoredDiagram) (m : MemoryRecord) → m.strays.links ≡ true → false ≡ rule5_in (diagram_of d) m
unfolding rule5_in
rule5-stray d m e = both-no _ (ap not e)
