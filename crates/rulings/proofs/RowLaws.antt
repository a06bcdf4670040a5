-- Rules 5 and 6 hold exactly when the world keeps the rows and no object is asked for links that it has no slot for: by rule 5 each
-- link has an end that leads it, by rule 6 each end that leads has instances as targets and their number within its limits. An end
-- whose role old lacks has no links, which breaks rule 6 only where its lower limit is above 0.
-- Assumes nothing.
use Prim.Native.Nat.{◌<◌, ◌≤◌, ℕ}
use native.Mathlib.Decide.{dec_lt}
use native.Mathlib.Omega.{arith}
use mathlib.Core.Bool.{false, false≢true, true}
use mathlib.Core.List.{List}
use mathlib.Core.Logic.{◌↔◌}
use mathlib.Core.Path.{◌∙◌, ◌≡◌, refl, subst, sym}
use borrow.Author.Tests.{eq-eqb, eqb-true, le-leb, leb-true, lt-ltb, ltb-true}
use Rattle.laws.specs.Bounded.{tally}
use Rattle.laws.proofs.BoundedLaws.{all-at, all_of, any_at, any-no, any_none, any_of, tally-none}
use Rattle.laws.proofs.ConnectiveLaws.{both_left, both_of, both_right, imp-of, imp_use, same_test, true-false}
use Rattle.laws.proofs.CountLaws.{tally-le}
use Rattle.files.specs.Diagram.{Diagram}
use Rattle.files.specs.WellFormedDiagram.{WfDiagram}
use Rattle.records.specs.declared.MemoryRecord.{MemoryRecord}
use Rattle.records.specs.Slots.{role_count}
use Rattle.rules.specs.Arrow.{within}
use Rattle.rules.specs.LinkRules.{rule5, rule6}
use Rattle.memory_rules.specs.SiteIn.{site_in}
use Rattle.link_search.specs.Nets.{InLimits}
use Rattle.type_tables.specs.Rows.{carried_to, end_at, least, most, opposite}
use Rattle.views.specs.Views.{counts_as, high_by, leads_by, low_by, may_target_by, slot_by}
use Rattle.worlds.specs.Kept.{RowsKept, world_in, world_of}
use Rattle.worlds.specs.Tables.{RowTables, links_missing}
use Rattle.rulings.specs.Shaped.{Shaped, kind_in}
use Rattle.rulings.proofs.LeadLaws.{high-among, high-covers, low-among, low-covers}
use Rattle.rulings.proofs.PermitLaws.{Permitted, permitted-rule5, rule5-permitted}
use Rattle.rulings.proofs.SeenLaws.{link-past}
use Rattle.rulings.proofs.TargetLaws.{Asked, Asks, asks-rule6, rule6-asks}
use Rattle.rulings.proofs.WithinLaws.{capped-within, most-fits, within-capped}

module _ (old d : Diagram) (wo : WfDiagram old) (m : MemoryRecord) (h : Shaped old m) where
  -- how many links o has in slot s
  abbrev links_of : ℕ → ℕ → ℕ
  links_of s o = tally (λ p. (world_of m).link s o p) m.count

  few-links : (s o : ℕ) → links_of s o ≤ 8
  few-links s o = let a = tally-le (λ p. (world_of m).link s o p) m.count in let f : m.count ≤ 8 = h.few in omega arith

  no-links : (s o : ℕ) → 32 ≤ s → links_of s o ≡ 0
  no-links s o l = tally-none _ m.count (λ p c. link-past m s o p l)

  -- ---- from the rules

  module _ (permitted : Permitted old d m) (asks : (o : ℕ) → o < m.count → (e : ℕ) → e < role_count d → Asks old d m o e) where
    leading-asks : (o s e : ℕ) → o < m.count → e < role_count d → leads_by old d (kind_in m o) s e ≡ true → Asked old d m o s (end_at d e)
    unfolding leads_by
    leading-asks o s e b l q =
        subst (λ (k : ℕ). Asked old d m o k (end_at d e)) (eqb-true _ _ (both_left _ _ (both_right _ _ q)))
        (asks o b e l (both_left _ _ q) (both_right _ _ (both_right _ _ q)))

    may-target : (o s p : ℕ) → o < m.count → s < 32 → p < m.count → (world_of m).link s o p ≡ true → may_target_by old d (kind_in m o) s (kind_in m p) ≡ true
    unfolding may_target_by
    may-target o s p b l c link =
        let w = permitted o s p b l c link in
        both_of _ _ (any_of _ (role_count d) w.0 w.1 w.2.leads)
        (all_of _ (role_count d) (λ e k. imp-of _ _ (λ q. (leading-asks o s e b k q).instances p c link)))

    within-row : (o s : ℕ) → o < m.count → InLimits (low_by old d (kind_in m o) s) (high_by old d (kind_in m o) s) (links_of s o)
    unfolding low_by high_by
    within-row o s b =
        let capped : (e : ℕ) → e < role_count d → leads_by old d (kind_in m o) s e ≡ true → InLimits (least (end_at d e).limits.low) (most (end_at d e).limits.up) (links_of s o) =
        λ e l q. within-capped (end_at d e).limits (links_of s o) (few-links s o) (leading-asks o s e b l q).count in
        record {
          least = low-among old d (kind_in m o) s (links_of s o) (role_count d) (λ e l q. (capped e l q).least);
          most = high-among old d (kind_in m o) s (links_of s o) (role_count d) (few-links s o) (λ e l q. (capped e l q).most);
        }

    -- an end without a slot asks for no link
    nothing-low : (o e : ℕ) → 32 ≤ slot_by old d e → Asked old d m o (slot_by old d e) (end_at d e) → (end_at d e).limits.low ≤ 0
    unfolding within
    nothing-low o e l w = let low : (end_at d e).limits.low ≤ links_of (slot_by old d e) o = leb-true _ _ (both_left _ _ w.count) in omega (arith, no-links (slot_by old d e) o l)

    none-missing : (o : ℕ) → o < m.count → links_missing old d (kind_in m o) ≡ false
    unfolding links_missing
    none-missing o b = any_none _ (role_count d) (λ e l. same_test _ false (λ q.
        let r = both_right _ _ q in
        let low : 0 < (end_at d e).limits.low = ltb-true _ _ (both_right _ _ (both_right _ _ r)) in
        let none = nothing-low o e (leb-true _ _ (both_left _ _ r)) (asks o b e l (both_left _ _ q) (both_left _ _ (both_right _ _ r))) in
        absurd (omega arith)) (λ q. absurd (false≢true q)))

  -- ---- from the rows

  module _ (may : (o s p : ℕ) → o < m.count → s < 32 → p < m.count → (world_of m).link s o p ≡ true → may_target_by old d (kind_in m o) s (kind_in m p) ≡ true)
      (row : (o s : ℕ) → o < m.count → s < 32 → InLimits (low_by old d (kind_in m o) s) (high_by old d (kind_in m o) s) (links_of s o))
      (none : (o : ℕ) → o < m.count → links_missing old d (kind_in m o) ≡ false) where
    target-counts : (o s p e : ℕ) → o < m.count → s < 32 → p < m.count → e < role_count d → (world_of m).link s o p ≡ true → leads_by old d (kind_in m o) s e ≡ true
        → counts_as old d (end_at d e).type (kind_in m p) ≡ true
    unfolding may_target_by
    target-counts o s p e b l c k link q = imp_use _ _ (all-at _ (role_count d) (both_right _ _ (may o s p b l c link)) e k) q

    rows-permit : Permitted old d m
    unfolding may_target_by
    rows-permit o s p b l c link =
        let w = any_at _ (role_count d) (both_left _ _ (may o s p b l c link)) in
        (w.0, w.1, record { leads = w.2; instance = target-counts o s p w.0 b l c w.1 link w.2 })

    -- an end with a slot asks for what the row has
    slot-asked : (o e : ℕ) → o < m.count → e < role_count d → slot_by old d e < 32 → leads_by old d (kind_in m o) (slot_by old d e) e ≡ true → Asked old d m o (slot_by old d e) (end_at d e)
    unfolding low_by high_by
    slot-asked o e b k l q =
        let s = slot_by old d e in
        let w = row o s b l in
        let low = low-covers old d (kind_in m o) s (role_count d) e k q in
        let high = high-covers old d (kind_in m o) s (role_count d) e k q in
        let least-is : least (end_at d e).limits.low ≤ links_of s o = let x = w.least in omega arith in
        let most-is : links_of s o ≤ most (end_at d e).limits.up = let x = w.most in omega arith in
        record {
          instances = λ p c link. target-counts o s p e b l c k link q;
          count = capped-within (end_at d e).limits (links_of s o) (few-links s o) (record { least = least-is; most = most-is });
        }

    -- one without has no links, and asks for none
    no-low : (o e : ℕ) → o < m.count → e < role_count d → 32 ≤ slot_by old d e → carried_to d e ≡ true → counts_as old d (end_at d (opposite d e)).type (kind_in m o) ≡ true → (end_at d e).limits.low ≤ 0
    unfolding links_missing
    no-low o e b k l q f = go (dec_lt 0 (end_at d e).limits.low)
      where
        go : Dec (0 < (end_at d e).limits.low) → (end_at d e).limits.low ≤ 0
        go (yes i) = absurd (true-false (both_of _ _ q (both_of _ _ (le-leb 32 (slot_by old d e) l) (both_of _ _ f (lt-ltb 0 (end_at d e).limits.low i)))) (any-no _ (role_count d) (none o b) e k))
        go (no i) = omega arith

    past-asked : (o e : ℕ) → o < m.count → e < role_count d → 32 ≤ slot_by old d e → carried_to d e ≡ true → counts_as old d (end_at d (opposite d e)).type (kind_in m o) ≡ true
        → Asked old d m o (slot_by old d e) (end_at d e)
    unfolding within
    past-asked o e b k l q f =
        let zero-links : links_of (slot_by old d e) o ≡ 0 = no-links (slot_by old d e) o l in
        let low : (end_at d e).limits.low ≤ 0 = no-low o e b k l q f in
        record {
          instances = λ p c link. absurd (true-false link (link-past m (slot_by old d e) o p l));
          count = both_of _ _ (le-leb (end_at d e).limits.low (links_of (slot_by old d e) o) (omega arith)) (most-fits (links_of (slot_by old d e) o) (end_at d e).limits.up (omega arith));
        }

    rows-ask : (o : ℕ) → o < m.count → (e : ℕ) → e < role_count d → Asks old d m o e
    unfolding leads_by
    rows-ask o b e k q f = go (dec_lt (slot_by old d e) 32)
      where
        go : Dec (slot_by old d e < 32) → Asked old d m o (slot_by old d e) (end_at d e)
        go (yes l) = slot-asked o e b k l (both_of _ _ q (both_of _ _ (eq-eqb (slot_by old d e) (slot_by old d e) refl) f))
        go (no l) = past-asked o e b k (omega arith) q f

  -- ---- by the tables

  module _ (targets lows highs : List ℕ) (of : RowTables old d targets lows highs) where
    forth : rule5 d (site_in old m) ≡ true → rule6 d (site_in old m) ≡ true → RowsKept targets lows highs (world_of m)
    unfolding world_in
    forth five six =
        let permitted = rule5-permitted old d m h five in
        let asks = rule6-asks old d wo m h six in
        record {
          allowed = λ s o p l b c link. of.target_is (kind_in m o) s (kind_in m p) (h.known o b) l (h.known p c) ∙ may-target permitted asks o s p b l c link;
          limited = λ s o l b. rw (of.low-is (kind_in m o) s (h.known o b) l, of.high_is (kind_in m o) s (h.known o b) l) (within-row permitted asks o s b);
        }

    may_of : RowsKept targets lows highs (world_of m) → (o s p : ℕ) → o < m.count → s < 32 → p < m.count → (world_of m).link s o p ≡ true → may_target_by old d (kind_in m o) s (kind_in m p) ≡ true
    unfolding world_in
    may_of k o s p b l c link = sym (of.target_is (kind_in m o) s (kind_in m p) (h.known o b) l (h.known p c)) ∙ k.allowed s o p l b c link

    row_of : RowsKept targets lows highs (world_of m) → (o s : ℕ) → o < m.count → s < 32 → InLimits (low_by old d (kind_in m o) s) (high_by old d (kind_in m o) s) (links_of s o)
    unfolding world_in
    row_of k o s b l = rw (← of.low-is (kind_in m o) s (h.known o b) l, ← of.high_is (kind_in m o) s (h.known o b) l) (k.limited s o l b)

    pub rows-kept : ((rule5 d (site_in old m) ≡ true) × (rule6 d (site_in old m) ≡ true))
        ↔ (RowsKept targets lows highs (world_of m) × ((o : ℕ) → o < m.count → links_missing old d (kind_in m o) ≡ false))
    rows-kept = (
      (λ r. (forth r.0 r.1, none-missing (rule5-permitted old d m h r.0) (rule6-asks old d wo m h r.1))),
      (λ k. (
        permitted-rule5 old d m h (rows-permit (may_of k.0) (row_of k.0) k.1),
        asks-rule6 old d wo m h (rows-ask (may_of k.0) (row_of k.0) k.1),
      )),
    )
