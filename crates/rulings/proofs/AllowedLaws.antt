-- The rules of old hold on a record in memory by old's own indices exactly when its world is allowed by old's tables. A world that is
-- allowed is that of a record whose links are between its objects and in slots that are their roles' own.
-- Assumes nothing.
use Prim.Native.Nat.{◌*◌, ◌+◌, ◌<◌, ◌≤◌, ℕ}
use native.Mathlib.Omega.{arith}
use mathlib.Core.Bool.{◌&&◌, true}
use mathlib.Core.Path.{◌∙◌, ◌≡◌, subst, sym}
use lib.Dec.{ltb}
use lib.ListN.{length}
use borrow.Author.Tests.{eqb-true, ltb-true}
use Rattle.laws.specs.Bits.{bit}
use Rattle.laws.specs.Connective.{both}
use Rattle.laws.proofs.BitLaws.{bit-zero}
use Rattle.laws.proofs.BoundedLaws.{all_of, any_at}
use Rattle.laws.proofs.ConnectiveLaws.{and_left, and_right, both_left, both_of, both_right}
use Rattle.files.specs.Diagram.{Diagram, is_concrete, type_at}
use Rattle.files.specs.WellFormedDiagram.{WfDiagram}
use Rattle.records.specs.declared.MemoryRecord.{MemoryRecord}
use Rattle.records.specs.Slots.{own_role, role_count, role_name}
use Rattle.records.specs.Written.{link_in}
use Rattle.records.proofs.SlotLaws.{role-own}
use Rattle.rules.specs.TypeRules.{rule1, rule1_at}
use Rattle.memory_rules.specs.SiteIn.{site_in}
use Rattle.tables.proofs.OwnLaws.{any-type}
use Rattle.link_search.specs.Nets.{net_of}
use Rattle.views.specs.Views.{leads_by, may_target_by, slot_by}
use Rattle.worlds.specs.Kept.{Allowed, Sheet, TypesAvoided, world_in, world_of}
use Rattle.worlds.specs.Tables.{SheetOf, possible}
use Rattle.rulings.specs.Ruled.{Ruled}
use Rattle.rulings.specs.Shaped.{Shaped, kind_in}
use Rattle.rulings.proofs.KeptLaws.{keeps-ruled, ruled-keeps}
use Rattle.rulings.proofs.OwnLaws.{own-links, own-singles, own-slot-below}
use Rattle.rulings.proofs.SeenLaws.{link-is, link-past}

module _ (old : Diagram) (wf : WfDiagram old) (m : MemoryRecord) (x : Sheet) (of : SheetOf old x) where
  -- ---- from the rules

  -- a link of the world is within the arrays
  record InArrays (s o p : ℕ) : Type 0 where
    slot : s < 32
    from : o < 8
    to : p < 8
    link : link_in m o s p ≡ true

  in-arrays : (s o p : ℕ) → (world_of m).link s o p ≡ true → InArrays s o p
  unfolding world_in
  in-arrays s o p e =
      let link = net_of m.links (o * 32 + s) p in
      let r = and_right (ltb s 32) (ltb o 8 && (ltb p 8 && link)) e in
      let t = and_right (ltb o 8) (ltb p 8 && link) r in
      record {
        slot = ltb-true _ _ (and_left (ltb s 32) (ltb o 8 && (ltb p 8 && link)) e);
        from = ltb-true _ _ (and_left (ltb o 8) (ltb p 8 && link) r);
        to = ltb-true _ _ (and_left (ltb p 8) link t);
        link = and_right (ltb p 8) link t;
      }

  inside_of : Shaped old m → (s o p : ℕ) → (world_of m).link s o p ≡ true → (o < m.count) × (p < m.count)
  inside_of h s o p e = let w = in-arrays s o p e in h.inside o s p w.from w.slot w.to w.link

  kind-small : Shaped old m → (o : ℕ) → o < m.count → kind_in m o < 24
  kind-small h o l = let few : length old.types ≤ 24 = wf.few-types in let b = h.known o l in omega arith

  nothing-avoided : TypesAvoided 0 (world_of m)
  nothing-avoided = record { at = λ o l. bit-zero ((world_of m).kind o) }

  pub ruled-allowed : Shaped old m → ((o : ℕ) → o < m.count → bit (kind_in m o) x.usable ≡ true) → Ruled old (site_in old m) → Allowed x (world_of m)
  unfolding world_in
  ruled-allowed h usable r =
      let k = ruled-keeps old old wf wf m h x.singles x.targets x.lows x.highs x.lines of.singles of.rows of.lines 0 r nothing-avoided in
      record {
        few = h.few;
        past = link-past m;
        inside = inside_of h;
        known = kind-small h;
        usable = usable;
        singles = k.singles-kept;
        rows = k.rows;
        columns = k.columns;
        mirrors = k.mirrors;
        wholes = k.wholes;
      }

  -- ---- from the tables

  module _ (a : Allowed x (world_of m)) where
    usable-of : (o : ℕ) → o < m.count → both (ltb (kind_in m o) (length old.types)) (both (is_concrete (type_at old (kind_in m o))) (possible old (kind_in m o))) ≡ true
    unfolding world_in
    usable-of o l = sym (of.usable.at (kind_in m o)) ∙ a.usable o l

    type-known : (o : ℕ) → o < m.count → kind_in m o < length old.types
    type-known o l = ltb-true _ _ (both_left _ _ (usable-of o l))

    target-own : (t s u : ℕ) → may_target_by old old t s u ≡ true → own_role old s ≡ true
    unfolding may_target_by leads_by slot_by
    target-own t s u e =
        let w = any_at _ (role_count old) (both_left _ _ e) in
        let slot : slot_by old old w.0 ≡ s = eqb-true _ _ (both_left _ _ (both_right _ _ w.2)) in
        subst (λ (k : ℕ). own_role old k ≡ true) slot (role-own old (role_name old w.0) (own-slot-below old wf w.0 w.1))

    inside-arrays : (o s p : ℕ) → o < 8 → s < 32 → p < 8 → link_in m o s p ≡ true → (o < m.count) × (p < m.count)
    unfolding world_in
    inside-arrays o s p b l c e = a.inside s o p (link-is m s o p l b c ∙ e)

    own_of : (o s p : ℕ) → o < m.count → s < 32 → p < 8 → link_in m o s p ≡ true → own_role old s ≡ true
    unfolding world_in
    own_of o s p b l c e =
        let few : m.count ≤ 8 = a.few in
        let small : o < 8 = omega arith in
        let to = (inside-arrays o s p small l c e).1 in
        target-own (kind_in m o) s (kind_in m p)
        (sym (of.rows.target_is (kind_in m o) s (kind_in m p) (type-known o b) l (type-known p to)) ∙ a.rows.allowed s o p l b to (link-is m s o p l small c ∙ e))

    few-of : m.count ≤ 8
    unfolding world_in
    few-of = a.few

    pub allowed-shaped : Shaped old m
    allowed-shaped = record { few = few-of; known = type-known; inside = inside-arrays; own = own_of }

    pub allowed-rule1 : rule1 old (site_in old m) ≡ true
    unfolding rule1 rule1_at site_in
    allowed-rule1 = all_of _ m.count (λ o l.
        any-type old wf m (λ i. is_concrete (type_at old i)) o
        ∙ both_of _ _ (both_left _ _ (usable-of o l)) (both_left _ _ (both_right _ _ (usable-of o l))))

    pub allowed-ruled : Ruled old (site_in old m)
    allowed-ruled =
        keeps-ruled old old wf wf m allowed-shaped x.singles x.targets x.lows x.highs x.lines of.singles of.rows of.lines 0
        (λ o l. own-links old wf (kind_in m o))
        (record { types = nothing-avoided; present = own-singles old wf; singles-kept = a.singles; rows = a.rows; columns = a.columns; mirrors = a.mirrors; wholes = a.wholes })
