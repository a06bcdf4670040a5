-- Where the tables are a diagram's and a record's, the rules by the tables are the definitions: rules 6 to 9 whole, and what the
-- compiled records of association i state.
-- Assumes nothing.
use Prim.Native.Nat.{ℕ, ◌*◌, ◌+◌, ◌-◌, ◌<◌, ◌≤◌}
use native.Mathlib.Omega.{arith}
use mathlib.Core.Bool.{Bool}
use mathlib.Core.List.{List}
use mathlib.Core.Path.{◌≡◌, refl, sym, ap, ap₂, ◌∙◌}
use lib.ListN.{get_or, length}
use Rattle.laws.specs.Bounded.{all}
use Rattle.laws.specs.Connective.{both, imp}
use Rattle.laws.proofs.BoundedLaws.{all-ext}
use Rattle.files.specs.Diagram.{Association, Diagram, End, Limits, association_at}
use Rattle.diagrams.specs.declared.Associations.{Associations}
use Rattle.diagrams.specs.declared.StoredDiagram.{StoredDiagram}
use Rattle.diagrams.specs.Held.{Held}
use Rattle.diagrams.specs.View.{association_in, diagram_of, end_in}
use Rattle.records.specs.declared.MemoryRecord.{MemoryRecord}
use Rattle.records.specs.Slots.{role_count}
use Rattle.rules.specs.Arrow.{Side, carries, counted_from, mirrors, r1, r2, source, target}
use Rattle.rules.specs.Evaluate.{one_whole, sources_hold, targets_hold}
use Rattle.rules.specs.LinkRules.{mirrored, rule6, rule6_for, rule7, rule7_for, rule8, rule8_for, sources, targets}
use Rattle.rules.specs.WholeRule.{rule9}
use Rattle.memory_rules.specs.SiteIn.{site_in}
use Rattle.tables.specs.Tables.{Instances, RoleSlots}
use Rattle.link_rules.specs.Judged.{Judged, Says, by_tables}
use Rattle.link_rules.specs.declared.Links.{Links}
use Rattle.link_rules.specs.LinksIn.{Fits, end_limits, mirrored_in, own_sources_in, own_targets_in, rule6_at_in, rule6_in, rule7_at_in, rule7_in, rule8_at_in, rule8_in, source_end, sources_in, target_end, targets_in}
use Rattle.link_rules.specs.WholesIn.{one_whole_in, rule9_in}
use Rattle.link_rules.proofs.EndLaws.{KnownEnd, association-is, count-is, end_known, left-known, own-slot, right-known}
use Rattle.link_rules.proofs.SideLaws.{mirrored-is, sources-is, targets-is}
use Rattle.link_rules.proofs.WholeLaws.{one-whole-is, rule9-is}

module _ {d : Diagram} {m : MemoryRecord} {a : Associations} {links masks slots : List ℕ} {n : ℕ} (j : Judged d m a links masks slots n) where
  -- a test over the links and the count is that of the record
  moved : (f : List ℕ → ℕ → Bool) → f links n ≡ f m.links m.count
  moved f = ap₂ f j.links-are j.count

  count : length d.associations ≡ a.count
  count = count-is d a j.associations

  association : (i : ℕ) → i < a.count → association_at d i ≡ association_in a i
  association = association-is d a j.associations

  left : (i : ℕ) → i < a.count → KnownEnd d a slots (i * 2)
  left = left-known d a j.associations slots j.wf j.roles

  right : (i : ℕ) → i < a.count → KnownEnd d a slots (i * 2 + 1)
  right = right-known d a j.associations slots j.wf j.roles

  end : (e : ℕ) → e < a.count * 2 → KnownEnd d a slots e
  end = end_known d a j.associations slots j.wf j.roles

  -- a rule for each association, that is one for each of the diagram's
  each : (f : ℕ → Bool) (g : Association → Bool) → ((i : ℕ) → i < a.count → f i ≡ g (association_in a i)) → all f a.count ≡ all (λ i. g (association_at d i)) (length d.associations)
  each f g h =
      all-ext f (λ i. g (association_at d i)) a.count (λ i l. h i l ∙ ap g (sym (association i l)))
      ∙ ap (all (λ i. g (association_at d i))) (sym count)

  -- ---- what the code asks

  pub judged-fits : Fits a slots n
  judged-fits =
      let c : length d.associations ≡ a.count = count in
      let most : length d.associations ≤ 16 = j.wf.few-associations in
      record { few = omega arith; known = slot-fits; objects = j.few }
    where
      slot-fits : (e : ℕ) → e < a.count * 2 → get_or slots e 0 < 32
      slot-fits e l =
          let c : length d.associations ≡ a.count = count in
          let most : length d.associations ≤ 16 = j.wf.few-associations in
          let h : e < role_count d = omega arith in
          omega (arith, j.roles.exact e h, own-slot d e h)

  -- ---- the two ends of a side of association i

  source_known : (s : Side) (i : ℕ) → i < a.count → KnownEnd d a slots (source_end s i)
  source_known r2 i l = end (i * 2 + 0) (omega arith)
  source_known r1 i l = end (i * 2 + 1) (omega arith)

  target-known : (s : Side) (i : ℕ) → i < a.count → KnownEnd d a slots (target_end s i)
  target-known r2 i l = end (i * 2 + 1 - 0) (omega arith)
  target-known r1 i l = end (i * 2 + 1 - 1) (omega arith)

  source_is : (s : Side) (i : ℕ) → end_in a (source_end s i) ≡ source s (association_in a i)
  unfolding association_in
  source_is r2 i = let e : i * 2 + 0 ≡ i * 2 = omega arith in ap (end_in a) e
  source_is r1 i = refl

  target_is : (s : Side) (i : ℕ) → end_in a (target_end s i) ≡ target s (association_in a i)
  unfolding association_in
  target_is r2 i = let e : i * 2 + 1 - 0 ≡ i * 2 + 1 = omega arith in ap (end_in a) e
  target_is r1 i = let e : i * 2 + 1 - 1 ≡ i * 2 = omega arith in ap (end_in a) e

  targets-ends : (s : Side) (limits : Limits) (i : ℕ) → i < a.count
      → targets_in a links masks slots n s i limits ≡ targets d (site_in d m) (source s (association_in a i)) (target s (association_in a i)) limits
  targets-ends s limits i l =
      moved (λ (k : List ℕ) (c : ℕ). targets_in a k masks slots c s i limits)
      ∙ targets-is d m a masks slots j.instances s i (source_known s i l) (target-known s i l) limits
      ∙ ap₂ (λ (f t : End). targets d (site_in d m) f t limits) (source_is s i) (target_is s i)

  sources-ends : (s : Side) (limits : Limits) (i : ℕ) → i < a.count
      → sources_in a links masks slots n s i limits ≡ sources d (site_in d m) (source s (association_in a i)) (target s (association_in a i)) limits
  sources-ends s limits i l =
      moved (λ (k : List ℕ) (c : ℕ). sources_in a k masks slots c s i limits)
      ∙ sources-is d m a masks slots j.instances s i (source_known s i l) (target-known s i l) limits
      ∙ ap₂ (λ (f t : End). sources d (site_in d m) f t limits) (source_is s i) (target_is s i)

  -- ---- what the compiled records of association i state

  pub targets-side : (s : Side) (limits : Limits) (i : ℕ) → i < a.count → targets_in a links masks slots n s i limits ≡ targets_hold d (site_in d m) (association_at d i) s limits
  unfolding targets_hold
  targets-side s limits i l = targets-ends s limits i l ∙ ap (λ (x : Association). targets_hold d (site_in d m) x s limits) (sym (association i l))

  pub sources-side : (s : Side) (limits : Limits) (i : ℕ) → i < a.count → sources_in a links masks slots n s i limits ≡ sources_hold d (site_in d m) (association_at d i) s limits
  unfolding sources_hold
  sources-side s limits i l = sources-ends s limits i l ∙ ap (λ (x : Association). sources_hold d (site_in d m) x s limits) (sym (association i l))

  pub mirrored-at : (i : ℕ) → i < a.count → mirrored_in a links masks slots n i ≡ mirrored d (site_in d m) (association_at d i)
  mirrored-at i l =
      moved (λ (k : List ℕ) (c : ℕ). mirrored_in a k masks slots c i)
      ∙ mirrored-is d m a masks slots j.instances i (left i l) (right i l)
      ∙ ap (mirrored d (site_in d m)) (sym (association i l))

  pub one-whole-at : (i : ℕ) → i < a.count → one_whole_in a links masks slots n i ≡ one_whole d (site_in d m) (association_at d i)
  one-whole-at i l =
      moved (λ (k : List ℕ) (c : ℕ). one_whole_in a k masks slots c i)
      ∙ one-whole-is d m a masks slots j.wf j.associations j.instances j.roles i l
      ∙ ap (one_whole d (site_in d m)) (sym (association i l))

  -- ---- the rules

  rule6-side : (s : Side) (i : ℕ) → i < a.count → imp (carries s (association_in a i)) (own_targets_in a links masks slots n s i) ≡ rule6_for d (site_in d m) s (association_in a i)
  unfolding own_targets_in rule6_for end_in
  rule6-side s i l =
      let x = association_in a i in
      ap (imp (carries s x)) (targets-ends s (end_limits a (target_end s i)) i l ∙ ap (λ (t : End). targets d (site_in d m) (source s x) (target s x) t.limits) (target_is s i))

  pub rule6-judged : rule6_in a links masks slots n ≡ rule6 d (site_in d m)
  unfolding rule6_in rule6_at_in rule6 association_in
  rule6-judged =
      each (rule6_at_in a links masks slots n) (λ x. both (rule6_for d (site_in d m) r2 x) (rule6_for d (site_in d m) r1 x)) (λ i l.
      ap₂ (λ (x y : Bool). both x y) (rule6-side r2 i l) (rule6-side r1 i l))

  rule7-side : (s : Side) (i : ℕ) → i < a.count → imp (counted_from s (association_in a i)) (own_sources_in a links masks slots n s i) ≡ rule7_for d (site_in d m) s (association_in a i)
  unfolding own_sources_in rule7_for end_in
  rule7-side s i l =
      let x = association_in a i in
      ap (imp (counted_from s x)) (sources-ends s (end_limits a (source_end s i)) i l ∙ ap (λ (f : End). sources d (site_in d m) (source s x) (target s x) f.limits) (source_is s i))

  pub rule7-judged : rule7_in a links masks slots n ≡ rule7 d (site_in d m)
  unfolding rule7_in rule7_at_in rule7 association_in
  rule7-judged =
      each (rule7_at_in a links masks slots n) (λ x. both (rule7_for d (site_in d m) r2 x) (rule7_for d (site_in d m) r1 x)) (λ i l.
      ap₂ (λ (x y : Bool). both x y) (rule7-side r2 i l) (rule7-side r1 i l))

  pub rule8-judged : rule8_in a links masks slots n ≡ rule8 d (site_in d m)
  unfolding rule8_in rule8_at_in rule8 rule8_for association_in
  rule8-judged =
      moved (λ (k : List ℕ) (c : ℕ). rule8_in a k masks slots c)
      ∙ each (rule8_at_in a m.links masks slots m.count) (rule8_for d (site_in d m)) (λ i l.
      ap (imp (mirrors (get_or a.arrows i 0))) (mirrored-is d m a masks slots j.instances i (left i l) (right i l)))

  pub rule9-judged : rule9_in a links masks slots n ≡ rule9 d (site_in d m)
  rule9-judged =
      moved (λ (k : List ℕ) (c : ℕ). rule9_in a k masks slots c)
      ∙ rule9-is d m a masks slots j.wf j.associations j.instances j.roles

-- ---- a test that is a rule by the tables is the rule

module _ (v : Links) {r : Bool} where
  pub says6 : r ≡ by_tables rule6_in v → (r ≡ by_tables rule6_in v) × Says rule6 v r
  says6 e = (e, λ d m j. e ∙ rule6-judged j)

  pub says7 : r ≡ by_tables rule7_in v → (r ≡ by_tables rule7_in v) × Says rule7 v r
  says7 e = (e, λ d m j. e ∙ rule7-judged j)

  pub says8 : r ≡ by_tables rule8_in v → (r ≡ by_tables rule8_in v) × Says rule8 v r
  says8 e = (e, λ d m j. e ∙ rule8-judged j)

  pub says9 : r ≡ by_tables rule9_in v → (r ≡ by_tables rule9_in v) × Says rule9 v r
  says9 e = (e, λ d m j. e ∙ rule9-judged j)

-- ---- the tables of a diagram in memory and of a record in memory

pub stored-judged : {d : StoredDiagram} {m : MemoryRecord} {masks slots : List ℕ} {n : ℕ} → Held d → Instances (diagram_of d) m masks → RoleSlots (diagram_of d) slots → n ≡ m.count → n ≤ 8
    → Judged (diagram_of d) m d.associations m.links masks slots n
unfolding diagram_of
stored-judged held instances roles count few =
    record { wf = held.wf; associations = refl; links-are = refl; instances = instances; roles = roles; count = count; few = few }
