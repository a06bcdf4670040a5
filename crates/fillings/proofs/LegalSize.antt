-- A legal record has at most 256 values and 2,048 links: the limits of a record file keep no legal record out. By rule 3 the
-- diagram has each value's attribute name, by rule 5 each link's role name. A value's number is object * 32 + the rank of its name
-- among the at most 32 attributes, a link's object * 256 + the rank of its role among the at most 32 roles * 8 + target. With at
-- most 8 objects these are below 256 and 2,048, and they rise strictly as the values and links do.
-- Assumes nothing.
use Prim.Native.Nat.{◌*◌, ◌+◌, ◌<◌, ◌≤◌, suc, ℕ}
use native.Mathlib.Omega.{arith}
use mathlib.Core.Bool.{true}
use mathlib.Core.Logic.{◌↔◌, ◌⊎◌, inl, inr, ⊎_elim}
use mathlib.Core.Path.{◌∙◌, ◌≡◌, ap}
use lib.ListN.{length}
use borrow.Author.Tests.{eqb-true, ltb-true}
use Rattle.files.specs.Diagram.{Diagram, attribute_at}
use Rattle.files.specs.Name.{before, key}
use Rattle.files.specs.Record.{Link, Record, link_at, value_at}
use Rattle.files.specs.RecordFile.{link_before}
use Rattle.files.specs.WellFormedDiagram.{WfDiagram}
use Rattle.files.specs.WellFormedRecord.{WfRecord}
use Rattle.records.specs.Places.{rank}
use Rattle.records.specs.Slots.{attribute_slot, role_count, role_name, role_slot}
use Rattle.rules.specs.Judge.{Legal}
use Rattle.rules.specs.Site.{site_of}
use Rattle.fillings.specs.Ordered.{Ordered}
use Rattle.laws.proofs.ConnectiveLaws.{both_left, both_right, either-cases}
use Rattle.laws.proofs.RisingLaws.{rising-few}
use Rattle.files.proofs.NameLaws.{before-left, before-right, same_key}
use Rattle.records.proofs.RankLaws.{rank_below, rank_rises}
use Rattle.records.proofs.SlotLaws.{attribute-name, role-alike, role-name}
use Rattle.rules.proofs.JudgeLaws.{Keeps, legal-keeps}
use Rattle.memory_rules.proofs.LinkLaws.{link-known}
use Rattle.memory_rules.proofs.RiseLaws.{value-cases}
use Rattle.memory_rules.proofs.ValueLaws.{value-known}

-- by object, or by role name at one object, or by target at one object and role
link-cases : (k l : Link) → link_before k l ≡ true
    → (k.from < l.from) ⊎ ((k.from ≡ l.from) × ((before k.role l.role ≡ true) ⊎ ((key k.role ≡ key l.role) × (k.to < l.to))))
unfolding link_before
link-cases k l e =
    ⊎_elim (λ a. inl (ltb-true _ _ a))
    (λ b. inr (
      eqb-true _ _ (both_left _ _ b),
      ⊎_elim (λ c. inl c) (λ c. inr (same_key _ _ (both_left _ _ c), ltb-true _ _ (both_right _ _ c))) (either-cases _ _ (both_right _ _ b)),
    ))
    (either-cases _ _ e)

module _ (d : Diagram) (r : Record) (diagram : WfDiagram d) (ordered : Ordered r) (legal : Legal d r) where
  keeps : Keeps d (site_of r)
  keeps = legal-keeps d r legal

  -- ---- values

  -- the rank of value i's attribute name
  abbrev attribute_rank : ℕ → ℕ
  attribute_rank i = rank (λ s. (attribute_at d s).name) (length d.attributes) (attribute_slot d (value_at r i).attribute)

  value-slot : (i : ℕ) → i < length r.values → attribute_slot d (value_at r i).attribute < length d.attributes
  value-slot i l = value-known d r keeps.third i l (ordered.value i l).object-below

  attribute-below : (i : ℕ) → i < length r.values → attribute_rank i < 32
  attribute-below i l =
      omega (arith, rank_below (λ s. (attribute_at d s).name) (length d.attributes) (attribute_slot d (value_at r i).attribute) (value-slot i l), diagram.few-attributes)

  attribute-rises : (i j : ℕ) → i < length r.values → j < length r.values → before (value_at r i).attribute (value_at r j).attribute ≡ true → attribute_rank i < attribute_rank j
  attribute-rises i j l k e =
      rank_rises (λ s. (attribute_at d s).name) (length d.attributes) (attribute_slot d (value_at r i).attribute) (attribute_slot d (value_at r j).attribute) (value-slot i l)
      (before-left _ _ _ (attribute-name d (value_at r i).attribute (value-slot i l)) ∙ before-right _ _ _ (attribute-name d (value_at r j).attribute (value-slot j k)) ∙ e)

  abbrev value_number : ℕ → ℕ
  value_number i = (value_at r i).object * 32 + attribute_rank i

  value-rises : (i : ℕ) → suc i < length r.values → value_number i < value_number (suc i)
  value-rises i l =
      let k : i < length r.values = omega arith in
      let small : attribute_rank i < 32 = attribute-below i k in
      ⊎_elim (λ a. omega arith) (λ b. omega (arith, b.0, attribute-rises i (suc i) k l b.1))
      (value-cases (value_at r i) (value_at r (suc i)) (ordered.values-rise i l))

  value-below : (i : ℕ) → i < length r.values → value_number i < 256
  value-below i l = omega (arith, attribute-below i l, (ordered.value i l).object-below, ordered.few)

  few-values : length r.values ≤ 256
  few-values = rising-few value_number (length r.values) 256 value-rises value-below

  -- ---- links

  -- the rank of link i's role name
  abbrev role_rank : ℕ → ℕ
  role_rank i = rank (role_name d) (role_count d) (role_slot d (link_at r i).role)

  link-slot : (i : ℕ) → i < length r.links → role_slot d (link_at r i).role < role_count d
  link-slot i l = link-known d r keeps.fifth i l

  role-below : (i : ℕ) → i < length r.links → role_rank i < 32
  role-below i l = omega (arith, rank_below (role_name d) (role_count d) (role_slot d (link_at r i).role) (link-slot i l), diagram.few-associations)

  role-rises : (i j : ℕ) → i < length r.links → j < length r.links → before (link_at r i).role (link_at r j).role ≡ true → role_rank i < role_rank j
  role-rises i j l k e =
      rank_rises (role_name d) (role_count d) (role_slot d (link_at r i).role) (role_slot d (link_at r j).role) (link-slot i l)
      (before-left _ _ _ (role-name d (link_at r i).role (link-slot i l)) ∙ before-right _ _ _ (role-name d (link_at r j).role (link-slot j k)) ∙ e)

  role_same : (i j : ℕ) → key (link_at r i).role ≡ key (link_at r j).role → role_rank i ≡ role_rank j
  role_same i j e = ap (rank (role_name d) (role_count d)) (role-alike d _ _ e)

  target_below : (i : ℕ) → i < length r.links → (link_at r i).to < 8
  target_below i l = omega (arith, (ordered.link i l).to_below, ordered.few)

  abbrev link_number : ℕ → ℕ
  link_number i = (link_at r i).from * 256 + role_rank i * 8 + (link_at r i).to

  link-rises : (i : ℕ) → suc i < length r.links → link_number i < link_number (suc i)
  link-rises i l =
      let k : i < length r.links = omega arith in
      let small : role_rank i < 32 = role-below i k in
      let near : (link_at r i).to < 8 = target_below i k in
      ⊎_elim (λ a. omega arith)
      (λ b. ⊎_elim (λ c. omega (arith, b.0, role-rises i (suc i) k l c)) (λ c. omega (arith, b.0, role_same i (suc i) c.0, c.1)) b.1)
      (link-cases (link_at r i) (link_at r (suc i)) (ordered.links-rise i l))

  link-below : (i : ℕ) → i < length r.links → link_number i < 2048
  link-below i l = omega (arith, role-below i l, target_below i l, (ordered.link i l).from-below, ordered.few)

  few-links : length r.links ≤ 2048
  few-links = rising-few link_number (length r.links) 2048 link-rises link-below

-- ---- the theorems

pub legal-few-values : (d : Diagram) (r : Record) → WfDiagram d → Ordered r → Legal d r → length r.values ≤ 256
legal-few-values d r diagram ordered legal = few-values d r diagram ordered legal

pub legal-few-links : (d : Diagram) (r : Record) → WfDiagram d → Ordered r → Legal d r → length r.links ≤ 2048
legal-few-links d r diagram ordered legal = few-links d r diagram ordered legal

-- well-formed is ordered and within the two limits
pub wf-is-ordered : (r : Record) → WfRecord r ↔ (Ordered r × ((length r.values ≤ 256) × (length r.links ≤ 2048)))
wf-is-ordered r = (there, back)
  where
    there : WfRecord r → Ordered r × ((length r.values ≤ 256) × (length r.links ≤ 2048))
    there w = (
      record { few = w.few; named = w.named; value = w.value; values-rise = w.values-rise; link = w.link; links-rise = w.links-rise },
      (w.few-values, w.few-links),
    )

    back : Ordered r × ((length r.values ≤ 256) × (length r.links ≤ 2048)) → WfRecord r
    back h = record {
      few = h.0.few;
      named = h.0.named;
      few-values = h.1.0;
      value = h.0.value;
      values-rise = h.0.values-rise;
      few-links = h.1.1;
      link = h.0.link;
      links-rise = h.0.links-rise;
    }

-- so that a legal record in order has a file
pub legal-wf : (d : Diagram) (r : Record) → WfDiagram d → Ordered r → Legal d r → WfRecord r
legal-wf d r diagram ordered legal = (wf-is-ordered r).1 (ordered, (legal-few-values d r diagram ordered legal, legal-few-links d r diagram ordered legal))
