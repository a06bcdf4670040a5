-- No rule tells a line without an arrowhead from one with both, and neither does the compiler: each test of an arrow says the same of 3
-- and 4, and so does each rule of one association; nothing else of a diagram is redrawn.
-- Assumes nothing.
use Prim.Native.Nat.{ℕ}
use mathlib.Core.Bool.{Bool, cond, false, true}
use mathlib.Core.List.{List, [], ◌++◌, ◌∷◌, map}
use mathlib.Core.Path.{◌∙◌, ◌≡◌, ap, ap₂, refl, sym}
use lib.Dec.{eqb, leb}
use lib.ListN.{get_or, length, length-map, get_or-map}
use borrow.Author.Tests.{eqb-true}
use Rattle.laws.specs.Bounded.{all, any, tally}
use Rattle.laws.specs.Connective.{both, either, imp, same}
use Rattle.laws.specs.Lists.{joined}
use Rattle.laws.proofs.BoundedLaws.{all-ext, any-ext}
use Rattle.laws.proofs.CountLaws.{tally-ext}
use Rattle.laws.proofs.JoinedLaws.{joined-ext}
use Rattle.files.specs.Diagram.{Association, Diagram, End, Limits, association_at, is_composition, no_end}
use Rattle.files.specs.Record.{Link, Record}
use Rattle.rules.specs.Arrow.{Side, carries, carries_left, carries_right, counted_from, counted_left, counted_right, mirrors, r1, r2, within}
use Rattle.rules.specs.Compile.{Asked, Entry, arrow_rows, bare, by_rule6, by_rule7, compile, entries_of, entry_for, kind5, row_of}
use Rattle.rules.specs.Heads.{all_headed, headed, headed_at}
use Rattle.rules.specs.Instance.{is_instance}
use Rattle.rules.specs.Judge.{judge, lowest_broken}
use Rattle.rules.specs.LinkRules.{incoming, mirror_at, mirrored, permits, rule5, rule5_at, rule6, rule6_for, rule7, rule7_for, rule8, rule8_for, sources, sources_at, targets, targets_at}
use Rattle.rules.specs.Site.{Site, site_of}
use Rattle.rules.specs.TypeRules.{rule1, rule2}
use Rattle.rules.specs.ValueRules.{rule3, rule4}
use Rattle.rules.specs.WholeRule.{is_whole, rule9, rule9_at, whole_by}
use Rattle.rules.proofs.TypeLaws.{instances-by-types, rule1-by-types, rule2-by-types, rule3-by-types, rule4-by-types}

-- ---- one association

-- what says the same of the arrows 3 and 4 says the same of any arrow and the headed one
headed-same : {A : Type 0} (f : ℕ → A) → f 3 ≡ f 4 → (a : Association) → f (headed_at a).arrow ≡ f a.arrow
unfolding headed_at headed
headed-same f e a = go (eqb a.arrow 4) refl
  where
    go : (b : Bool) → eqb a.arrow 4 ≡ b → f (cond b 3 a.arrow) ≡ f a.arrow
    go true q = e ∙ ap f (sym (eqb-true a.arrow 4 q))
    go false q = refl

carries_same : (s : Side) (a : Association) → carries s (headed_at a) ≡ carries s a
carries_same r2 = headed-same carries_right (unfold carries_right either in refl)
carries_same r1 = headed-same carries_left (unfold carries_left either in refl)

counted_same : (s : Side) (a : Association) → counted_from s (headed_at a) ≡ counted_from s a
counted_same r2 = headed-same counted_right (unfold counted_right in refl)
counted_same r1 = headed-same counted_left (unfold counted_left in refl)

mirrors-same : (a : Association) → mirrors (headed_at a).arrow ≡ mirrors a.arrow
mirrors-same = headed-same mirrors (unfold mirrors either in refl)

row_same : (a : Association) → row_of (headed_at a) ≡ row_of a
unfolding row_of
row_same = headed-same (λ n. get_or arrow_rows n []) refl

-- ---- all of them: equally many, one by one

module _ (d : Diagram) where
  at-headed : (i : ℕ) → association_at (all_headed d) i ≡ headed_at (association_at d i)
  unfolding all_headed headed_at headed
  at-headed i = get_or-map headed_at d.associations i (record { form = 0; arrow = 0; left = no_end; right = no_end })

  count-headed : length (all_headed d).associations ≡ length d.associations
  unfolding all_headed
  count-headed = length-map d.associations headed_at

  all-headed : (f : Diagram → Association → Bool) → ((a : Association) → f (all_headed d) (headed_at a) ≡ f d a)
      → all (λ i. f (all_headed d) (association_at (all_headed d) i)) (length (all_headed d).associations) ≡ all (λ i. f d (association_at d i)) (length d.associations)
  all-headed f h = ap (all _) count-headed ∙ all-ext _ _ (length d.associations) (λ i l. ap (f (all_headed d)) (at-headed i) ∙ h (association_at d i))

  any-headed : (f : Diagram → Association → Bool) → ((a : Association) → f (all_headed d) (headed_at a) ≡ f d a)
      → any (λ i. f (all_headed d) (association_at (all_headed d) i)) (length (all_headed d).associations) ≡ any (λ i. f d (association_at d i)) (length d.associations)
  any-headed f h = ap (any _) count-headed ∙ any-ext _ _ (length d.associations) (λ i l. ap (f (all_headed d)) (at-headed i) ∙ h (association_at d i))

  -- ---- the rules

  module _ (x : Site) where
    instances-same : is_instance (all_headed d) x ≡ is_instance d x
    unfolding all_headed
    instances-same = instances-by-types d (map headed_at d.associations) x

    permits-same : (s : Side) (a : Association) (k : Link) → permits (all_headed d) x s (headed_at a) k ≡ permits d x s a k
    unfolding permits headed_at
    permits-same r2 a k = rw (instances-same, carries_same r2 a)
    permits-same r1 a k = rw (instances-same, carries_same r1 a)

    rule5-same : rule5 (all_headed d) x ≡ rule5 d x
    unfolding rule5 rule5_at
    rule5-same = ap x.each_link (λ j k. any-headed (λ c a. either (permits c x r2 a k) (permits c x r1 a k)) (λ a. ap₂ either (permits-same r2 a k) (permits-same r1 a k)) j)

    targets-same : (from to : End) (l : Limits) → targets (all_headed d) x from to l ≡ targets d x from to l
    unfolding targets targets_at
    targets-same from to l = λ j.
        all (λ o. imp (instances-same j from.type o)
        (both (all (λ p. imp (x.linked o to.role p) (instances-same j to.type p)) x.count)
        (within l (tally (λ p. x.linked o to.role p) x.count)))) x.count

    six-same : (s : Side) (a : Association) → rule6_for (all_headed d) x s (headed_at a) ≡ rule6_for d x s a
    unfolding rule6_for headed_at
    six-same r2 a = ap₂ imp (carries_same r2 a) (targets-same a.left a.right a.right.limits)
    six-same r1 a = ap₂ imp (carries_same r1 a) (targets-same a.right a.left a.left.limits)

    rule6-same : rule6 (all_headed d) x ≡ rule6 d x
    unfolding rule6
    rule6-same = all-headed (λ c a. both (rule6_for c x r2 a) (rule6_for c x r1 a)) (λ a. ap₂ both (six-same r2 a) (six-same r1 a))

    sources-same : (from to : End) (l : Limits) → sources (all_headed d) x from to l ≡ sources d x from to l
    unfolding sources sources_at incoming
    sources-same from to l = λ j.
        all (λ p. imp (instances-same j to.type p)
        (within l (tally (λ o. both (instances-same j from.type o) (x.linked o to.role p)) x.count))) x.count

    seven-same : (s : Side) (a : Association) → rule7_for (all_headed d) x s (headed_at a) ≡ rule7_for d x s a
    unfolding rule7_for headed_at
    seven-same r2 a = ap₂ imp (counted_same r2 a) (sources-same a.left a.right a.left.limits)
    seven-same r1 a = ap₂ imp (counted_same r1 a) (sources-same a.right a.left a.right.limits)

    rule7-same : rule7 (all_headed d) x ≡ rule7 d x
    unfolding rule7
    rule7-same = all-headed (λ c a. both (rule7_for c x r2 a) (rule7_for c x r1 a)) (λ a. ap₂ both (seven-same r2 a) (seven-same r1 a))

    mirrored-same : (a : Association) → mirrored (all_headed d) x (headed_at a) ≡ mirrored d x a
    unfolding mirrored mirror_at headed_at
    mirrored-same a = λ j.
        all (λ o. all (λ p. imp (both (instances-same j a.left.type o) (instances-same j a.right.type p))
        (same (x.linked o a.right.role p) (x.linked p a.left.role o))) x.count) x.count

    rule8-same : rule8 (all_headed d) x ≡ rule8 d x
    unfolding rule8 rule8_for
    rule8-same = all-headed (λ c. rule8_for c x) (λ a. ap₂ imp (mirrors-same a) (mirrored-same a))

    whole_same : (p o : ℕ) → is_whole (all_headed d) x p o ≡ is_whole d x p o
    unfolding is_whole whole_by headed_at is_composition
    whole_same p o = any-headed (λ c a. whole_by c x a o p) (λ a. rw (instances-same))

    rule9-same : rule9 (all_headed d) x ≡ rule9 d x
    unfolding rule9 rule9_at
    rule9-same = all-ext _ _ x.count (λ p l. ap (λ (n : ℕ). leb n 1) (tally-ext _ _ x.count (λ o k. whole_same p o)))

    firsts_same : (rule1 (all_headed d) x ≡ rule1 d x) × (rule2 (all_headed d) x ≡ rule2 d x) × (rule3 (all_headed d) x ≡ rule3 d x) × (rule4 (all_headed d) x ≡ rule4 d x)
    unfolding all_headed
    firsts_same = let bs = map headed_at d.associations in (rule1-by-types d bs x, rule2-by-types d bs x, rule3-by-types d bs x, rule4-by-types d bs x)

    lowest-same : lowest_broken (all_headed d) x ≡ lowest_broken d x
    unfolding lowest_broken
    lowest-same = let h = firsts_same in rw (h.0, h.1, h.2, h.3, rule5-same, rule6-same, rule7-same, rule8-same, rule9-same)

-- two diagrams that differ only in ↔ against no arrowhead judge every record alike
pub heads-judge : (d e : Diagram) → all_headed d ≡ all_headed e → (r : Record) → judge d r ≡ judge e r
unfolding judge
heads-judge d e h r = sym (lowest-same d (site_of r)) ∙ ap (λ (c : Diagram). lowest_broken c (site_of r)) h ∙ lowest-same e (site_of r)

-- ---- compiled records

entry-same : (i : ℕ) (a : Association) (q : Asked) → entry_for i (headed_at a) q ≡ entry_for i a q
unfolding entry_for headed_at
entry-same i a (by_rule6 r2) = refl
entry-same i a (by_rule6 r1) = refl
entry-same i a (by_rule7 r2) = refl
entry-same i a (by_rule7 r1) = refl
entry-same i a kind5 = refl

entries-same : (i : ℕ) (a : Association) → entries_of i (headed_at a) ≡ entries_of i a
unfolding entries_of is_composition headed_at
entries-same i a =
    ap (λ (es : List Entry). es ++ cond (is_composition a) (bare 6 i ∷ []) [])
    (joined-ext _ (λ k. entry_for i a (get_or (row_of (headed_at a)) k kind5) ∷ []) _ (λ k l. ap (λ (e : Entry). e ∷ []) (entry-same i a _))
    ∙ ap (λ (row : List Asked). joined (λ k. entry_for i a (get_or row k kind5) ∷ []) (length row)) (row_same a))

headed-compiles : (d : Diagram) → compile (all_headed d) ≡ compile d
unfolding compile
headed-compiles d =
    ap (joined _) (count-headed d)
    ∙ joined-ext _ _ (length d.associations) (λ i l. ap (entries_of i) (at-headed d i) ∙ entries-same i (association_at d i))

-- and compile to the same records
pub heads-compile : (d e : Diagram) → all_headed d ≡ all_headed e → compile d ≡ compile e
heads-compile d e h = sym (headed-compiles d) ∙ ap compile h ∙ headed-compiles e
