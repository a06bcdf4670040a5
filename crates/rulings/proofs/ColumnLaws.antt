-- Rule 7 holds exactly when the world keeps the columns: the sources of a target, and their number within the limits of the end that
-- the links come from. An association counts the links of one side at most.
-- Assumes nothing.
use Prim.Native.Nat.{◌<◌, ◌≤◌, ℕ}
use native.Mathlib.Omega.{arith}
use mathlib.Core.Bool.{Bool, ◌&&◌, cond, false, true}
use mathlib.Core.Logic.{◌↔◌, ⊎_elim}
use mathlib.Core.Path.{◌∙◌, ◌≡◌, ap, ap₂, sym}
use lib.ListN.{get_or, length}
use borrow.Author.Tests.{eqb-true, lt-ltb, ltb-true}
use Rattle.laws.specs.Bits.{bit}
use Rattle.laws.specs.Bounded.{tally}
use Rattle.laws.specs.Connective.{both}
use Rattle.laws.proofs.BoundedLaws.{all-at, all_of}
use Rattle.laws.proofs.ConnectiveLaws.{both_left, both_of, both_right, either-cases, either_left, either-right, imp-of, imp_use, and-is-both}
use Rattle.laws.proofs.CountLaws.{tally-ext, tally-le}
use Rattle.files.specs.Diagram.{Diagram, End, association_at}
use Rattle.files.specs.WellFormedDiagram.{WfDiagram}
use Rattle.records.specs.declared.MemoryRecord.{MemoryRecord}
use Rattle.rules.specs.Arrow.{Side, counted_from, counted_left, counted_right, r1, r2, source, target, within}
use Rattle.rules.specs.LinkRules.{incoming, rule7, rule7_for, sources, sources_at}
use Rattle.memory_rules.specs.SiteIn.{site_in}
use Rattle.memory_rules.proofs.SlotLaws.{end_of}
use Rattle.link_search.specs.Nets.{InLimits}
use Rattle.type_tables.specs.Rows.{end_at, least, most, opposite}
use Rattle.type_tables.proofs.EndLaws.{end-at, end-opposite}
use Rattle.views.specs.Views.{column_from, column_high, column_low, column_slot, column_to, counted_end, counts_as, is_counted, slot_by}
use Rattle.worlds.specs.declared.Lines.{Lines}
use Rattle.worlds.specs.Kept.{ColumnsKept, source_by, world_in, world_of}
use Rattle.worlds.specs.Tables.{LinesOf}
use Rattle.rulings.specs.Shaped.{Shaped, kind_in}
use Rattle.rulings.proofs.SeenLaws.{instance-counts, linked-by}
use Rattle.rulings.proofs.WithinLaws.{capped-within, within-capped}
use Rattle.worlds.specs.Lined.{column_at}

-- ---- the side that is counted

module _ (old d : Diagram) where
  end-counted : (s : Side) (j : ℕ) → counted_from s (association_at d j) ≡ true → counted_end old d j ≡ end_of d s j
  unfolding counted_end
  end-counted r2 j e = rw e
  end-counted r1 j e = rw (left-only (association_at d j).arrow e)
    where
      left-only : (arrow : ℕ) → counted_left arrow ≡ true → counted_right arrow ≡ false
      left-only arrow q = unfold counted_left counted_right in rw (eqb-true arrow 2 q)

  -- one of the two is, where the association counts
  record Counts (j : ℕ) : Type 0 where
    below : j < length d.associations
    side : Side
    counted : counted_from side (association_at d j) ≡ true

  counts : (j : ℕ) → is_counted old d j ≡ true → Counts j
  unfolding is_counted
  counts j e =
      let l = ltb-true _ _ (both_left _ _ e) in
      ⊎_elim (λ q. record { below = l; side = r2; counted = q }) (λ q. record { below = l; side = r1; counted = q }) (either-cases _ _ (both_right _ _ e))

  is-counted : (s : Side) (j : ℕ) → j < length d.associations → counted_from s (association_at d j) ≡ true → is_counted old d j ≡ true
  unfolding is_counted
  is-counted r2 j l e = both_of _ _ (lt-ltb _ _ l) (either_left _ _ e)
  is-counted r1 j l e = both_of _ _ (lt-ltb _ _ l) (either-right _ _ e)

module _ (old d : Diagram) (wo : WfDiagram old) (wd : WfDiagram d) (m : MemoryRecord) (h : Shaped old m) (x : Lines) (of : LinesOf old d x) where
  -- ---- what the tables say of an association whose side s is counted

  module _ (s : Side) (j : ℕ) (small : j < 16) (l : j < length d.associations) (e : counted_from s (association_at d j) ≡ true) where
    slot_is : (column_at x j).slot ≡ slot_by old d (end_of d s j)
    unfolding column_slot
    slot_is = of.column-slot j small ∙ ap (λ (b : Bool). cond b (slot_by old d (counted_end old d j)) 0) (is-counted old d s j l e) ∙ ap (slot_by old d) (end-counted old d s j e)

    to_end : end_at d (counted_end old d j) ≡ target s (association_at d j)
    to_end = ap (end_at d) (end-counted old d s j e) ∙ end-at d s j

    from_end : end_at d (opposite d (counted_end old d j)) ≡ source s (association_at d j)
    from_end = ap (λ (k : ℕ). end_at d (opposite d k)) (end-counted old d s j e) ∙ end-opposite d s j

    from_is : (o : ℕ) → o < m.count → bit (kind_in m o) (column_at x j).from ≡ counts_as old d (source s (association_at d j)).type (kind_in m o)
    unfolding column_from both
    from_is o b =
        of.column-from j (kind_in m o) small (h.known o b)
        ∙ ap₂ (λ (a : Bool) (k : End). both a (counts_as old d k.type (kind_in m o))) (is-counted old d s j l e) from_end

    to_is : (o : ℕ) → o < m.count → bit (kind_in m o) (column_at x j).to ≡ counts_as old d (target s (association_at d j)).type (kind_in m o)
    unfolding column_to both
    to_is o b =
        of.column-to j (kind_in m o) small (h.known o b)
        ∙ ap₂ (λ (a : Bool) (k : End). both a (counts_as old d k.type (kind_in m o))) (is-counted old d s j l e) to_end

    low-is : (column_at x j).low ≡ least (source s (association_at d j)).limits.low
    unfolding column_low
    low-is = of.column-low j small ∙ ap (λ (k : End). least k.limits.low) from_end

    high_is : (column_at x j).high ≡ most (source s (association_at d j)).limits.up
    unfolding column_high
    high_is = of.column-high j small ∙ ap (λ (k : End). most k.limits.up) from_end

    -- the sources of p
    source_is : (o p : ℕ) → o < m.count → p < m.count
        → both (counts_as old d (source s (association_at d j)).type (kind_in m o)) ((site_in old m).linked o (target s (association_at d j)).role p)
        ≡ bit (kind_in m o) (column_at x j).from && (world_of m).link (column_at x j).slot o p
    source_is o p b c =
        sym (and-is-both _ _)
        ∙ ap₂ (λ (a t : Bool). a && t) (sym (from_is o b)) (linked-by old wo m h d s j o p b c ∙ ap (λ (k : ℕ). (world_of m).link k o p) (sym slot_is))

    sources-are : (p : ℕ) → p < m.count → incoming d (site_in old m) (source s (association_at d j)) (target s (association_at d j)) p ≡ tally (source_by x (world_of m) j p) m.count
    unfolding incoming site_in world_in
    sources-are p c = tally-ext _ _ m.count (λ o b. ap (λ (a : Bool). both a ((site_in old m).linked o (target s (association_at d j)).role p)) (instance-counts old d m _ o) ∙ source_is o p b c)

    few-sources : (p : ℕ) → tally (source_by x (world_of m) j p) m.count ≤ 8
    few-sources p = let a = tally-le (source_by x (world_of m) j p) m.count in let f : m.count ≤ 8 = h.few in omega arith

    -- ---- the rule at association j and target p

    abbrev Limited : ℕ → Type 0
    Limited p = InLimits (column_at x j).low (column_at x j).high (tally (source_by x (world_of m) j p) m.count)

    limited-forth : (p : ℕ) → p < m.count → sources_at d (site_in old m) (source s (association_at d j)) (target s (association_at d j)) (source s (association_at d j)).limits p ≡ true
        → bit (kind_in m p) (column_at x j).to ≡ true → Limited p
    unfolding sources_at
    limited-forth p c q t =
        let held = imp_use _ _ q (instance-counts old d m _ p ∙ sym (to_is p c) ∙ t) in
        let fits = within-capped (source s (association_at d j)).limits (tally (source_by x (world_of m) j p) m.count) (few-sources p) (ap (within (source s (association_at d j)).limits) (sym (sources-are p c)) ∙ held) in
        rw (low-is, high_is) fits

    limited-back : (p : ℕ) → p < m.count → (bit (kind_in m p) (column_at x j).to ≡ true → Limited p)
        → sources_at d (site_in old m) (source s (association_at d j)) (target s (association_at d j)) (source s (association_at d j)).limits p ≡ true
    unfolding sources_at
    limited-back p c k = imp-of _ _ (λ q.
        let fits : Limited p = k (to_is p c ∙ sym (instance-counts old d m _ p) ∙ q) in
        ap (within (source s (association_at d j)).limits) (sources-are p c)
        ∙ capped-within (source s (association_at d j)).limits (tally (source_by x (world_of m) j p) m.count) (few-sources p) (rw (low-is, high_is) at fits))

  -- ---- the rule

  rule7-side : rule7 d (site_in old m) ≡ true → (s : Side) (j : ℕ) → j < length d.associations → rule7_for d (site_in old m) s (association_at d j) ≡ true
  unfolding rule7
  rule7-side e r2 j l = both_left _ _ (all-at _ (length d.associations) e j l)
  rule7-side e r1 j l = both_right _ _ (all-at _ (length d.associations) e j l)

  rule7-at : rule7 d (site_in old m) ≡ true → (s : Side) (j p : ℕ) → j < length d.associations → counted_from s (association_at d j) ≡ true → p < m.count
      → sources_at d (site_in old m) (source s (association_at d j)) (target s (association_at d j)) (source s (association_at d j)).limits p ≡ true
  unfolding rule7_for sources site_in
  rule7-at e s j p l q c = all-at _ m.count (imp_use _ _ (rule7-side e s j l) q) p c

  abbrev Columns : Type 0
  Columns =
      (j p : ℕ) → j < 16 → p < m.count → bit (kind_in m p) (column_at x j).to ≡ true
      → InLimits (column_at x j).low (column_at x j).high (tally (source_by x (world_of m) j p) m.count)

  forth : rule7 d (site_in old m) ≡ true → Columns
  unfolding column_to
  forth e j p small c t =
      let w = counts old d j (both_left _ _ (sym (of.column-to j (kind_in m p) small (h.known p c)) ∙ t)) in
      limited-forth w.side j small w.below w.counted p c (rule7-at e w.side j p w.below w.counted c) t

  back-side : Columns → (s : Side) (j : ℕ) → j < length d.associations → rule7_for d (site_in old m) s (association_at d j) ≡ true
  unfolding rule7_for sources site_in
  back-side k s j l = imp-of _ _ (λ e.
      let few : length d.associations ≤ 16 = wd.few-associations in
      let small : j < 16 = omega arith in
      all_of _ m.count (λ p c. limited-back s j small l e p c (k j p small c)))

  back : Columns → rule7 d (site_in old m) ≡ true
  unfolding rule7
  back k = all_of _ (length d.associations) (λ j l. both_of _ _ (back-side k r2 j l) (back-side k r1 j l))

  pub rule7-kept : (rule7 d (site_in old m) ≡ true) ↔ ColumnsKept x (world_of m)
  unfolding world_in
  rule7-kept = ((λ e. record { at = forth e }), (λ k. back k.at))
