-- Wholes: masks of the first associations joined, and from the tables to the definitions, object by object.
-- Assumes nothing.
use Prim.Native.Nat.{ℕ, ◌*◌, ◌+◌, ◌<◌, ◌≤◌}
use mathlib.Core.Bool.{Bool, true, false, ◌&&◌, ◌||◌}
use mathlib.Core.List.{List}
use mathlib.Core.Path.{◌≡◌, refl, sym, ap, ap₂, ◌∙◌}
use lib.Bits.{bit_or}
use lib.Dec.{eqb, leb, ltb}
use lib.ListN.{get_or}
use Rattle.laws.specs.Bits.{Marks, bit}
use Rattle.laws.specs.Bounded.{any, tally}
use Rattle.laws.specs.Connective.{both, imp}
use Rattle.laws.proofs.BitLaws.{bit-or, bit-zero}
use Rattle.laws.proofs.BoundedLaws.{all-ext, any-ext, any-more}
use Rattle.laws.proofs.CountLaws.{tally-ext}
use Rattle.laws.proofs.MaskLaws.{tally-masked}
use Rattle.files.specs.Diagram.{Association, Diagram, association_at, is_composition}
use Rattle.files.specs.WellFormedDiagram.{WfDiagram}
use Rattle.diagrams.specs.declared.Associations.{Associations}
use Rattle.diagrams.specs.View.{association_in, associations_of}
use Rattle.records.specs.declared.MemoryRecord.{MemoryRecord}
use Rattle.rules.specs.Evaluate.{one_whole}
use Rattle.rules.specs.WholeRule.{is_whole, rule9, rule9_at, whole_by}
use Rattle.memory_rules.specs.SiteIn.{site_in}
use Rattle.masks.specs.Masks.{whole_in}
use Rattle.tables.specs.Tables.{Instances, RoleSlots}
use Rattle.link_rules.specs.LinksIn.{instances_in}
use Rattle.link_rules.specs.WholesIn.{is_whole_in, one_whole_at_in, one_whole_in, rule9_at_in, rule9_in, whole_among, whole_by_in}
use Rattle.link_rules.proofs.EndLaws.{association-is, count-is, left-known, right-known}
use Rattle.link_rules.proofs.SideLaws.{at-is, linked-is}

-- ---- the mask of an object's wholes

module _ (a : Associations) (links masks slots : List ℕ) (p n : ℕ) where
  -- an association that is no composition makes no whole
  pub whole-none : (i : ℕ) → eqb (get_or a.forms i 0) 1 ≡ false → Marks (whole_by_in a links masks slots p i) n 0
  unfolding whole_by_in both
  whole-none i e o = bit-zero o ∙ sym (ap (λ (b : Bool). ltb o n && both b (rest o)) e ∙ go (ltb o n))
    where
      rest : ℕ → Bool
      rest o = whole_in links (get_or slots (i * 2 + 1) 0) (instances_in a masks (i * 2)) (instances_in a masks (i * 2 + 1)) p o

      go : (b : Bool) → b && false ≡ false
      go true = refl
      go false = refl

  -- a composition makes those of its ends
  pub whole-some : (i v : ℕ) {s l r : ℕ} → eqb (get_or a.forms i 0) 1 ≡ true → s ≡ get_or slots (i * 2 + 1) 0 → l ≡ instances_in a masks (i * 2) → r ≡ instances_in a masks (i * 2 + 1)
      → Marks (whole_in links s l r p) n v → Marks (whole_by_in a links masks slots p i) n v
  unfolding whole_by_in both
  whole-some i v {s} {l} {r} e es el er f o =
      f o ∙ ap (λ (b : Bool). ltb o n && both b (whole_in links s l r p o)) (sym e)
      ∙ rw (es, el, er)

  pub wholes-begin : Marks (whole_among a links masks slots p 0) n 0
  unfolding whole_among any
  wholes-begin o = bit-zero o ∙ sym (go (ltb o n))
    where
      go : (b : Bool) → b && false ≡ false
      go true = refl
      go false = refl

  -- one association more: its wholes are joined to those before
  pub wholes-next : (k w v : ℕ) → Marks (whole_among a links masks slots p k) n w → Marks (whole_by_in a links masks slots p k) n v → Marks (whole_among a links masks slots p (k + 1)) n (bit_or w v)
  unfolding whole_among
  wholes-next k w v f g o =
      bit-or o w v ∙ ap₂ (λ (x y : Bool). x || y) (f o) (g o) ∙ go (ltb o n) (any (λ i. whole_by_in a links masks slots p i o) k) (whole_by_in a links masks slots p k o)
      ∙ ap (λ (b : Bool). ltb o n && b) (sym (any-more (λ i. whole_by_in a links masks slots p i o) k))
    where
      go : (b x y : Bool) → (b && x) || (b && y) ≡ b && (x || y)
      go true x y = refl
      go false x y = refl

  -- at most one, by the bits set
  pub wholes-counted : (w : ℕ) {c : ℕ} → n ≤ 8 → Marks (is_whole_in a links masks slots p) n w → c ≡ tally (λ k. bit k w) 8 → leb c 1 ≡ rule9_at_in a links masks slots n p
  unfolding rule9_at_in
  wholes-counted w h f e = ap (λ (k : ℕ). leb k 1) (e ∙ tally-masked (is_whole_in a links masks slots p) w n 8 h f)

-- ---- from the tables to the definitions

module _ (d : Diagram) (m : MemoryRecord) (a : Associations) (masks slots : List ℕ) (wf : WfDiagram d) (is : d.associations ≡ associations_of a) (instances : Instances d m masks) (roles : RoleSlots d slots) where
  whole-by-is : (p i o : ℕ) → i < a.count → p < m.count → o < m.count
      → whole_by_in a m.links masks slots p i o ≡ whole_by d (site_in d m) (association_in a i) o p
  unfolding whole_by_in whole_in whole_by association_in is_composition
  whole-by-is p i o l hp ho =
      let left = left-known d a is slots wf roles i l in
      let right = right-known d a is slots wf roles i l in
      ap (both (eqb (get_or a.forms i 0) 1))
      (ap₂ (λ (x y : Bool). both x y) (linked-is d m a masks slots instances right o p)
      (ap₂ (λ (x y : Bool). both x y) (at-is d m a masks slots instances left o ho) (at-is d m a masks slots instances right p hp)))

  is-whole-is : (p o : ℕ) → p < m.count → o < m.count → is_whole_in a m.links masks slots p o ≡ is_whole d (site_in d m) p o
  unfolding is_whole_in whole_among is_whole
  is-whole-is p o hp ho =
      any-ext _ (λ i. whole_by d (site_in d m) (association_at d i) o p) a.count (λ i l. whole-by-is p i o l hp ho
      ∙ ap (λ (x : Association). whole_by d (site_in d m) x o p) (sym (association-is d a is i l)))
      ∙ ap (any (λ i. whole_by d (site_in d m) (association_at d i) o p)) (sym (count-is d a is))

  rule9-at-is : (p : ℕ) → p < m.count → rule9_at_in a m.links masks slots m.count p ≡ rule9_at d (site_in d m) p
  unfolding rule9_at_in rule9_at site_in
  rule9-at-is p hp = ap (λ (k : ℕ). leb k 1) (tally-ext _ _ m.count (λ o ho. is-whole-is p o hp ho))

  pub rule9-is : rule9_in a m.links masks slots m.count ≡ rule9 d (site_in d m)
  unfolding rule9_in rule9 site_in
  rule9-is = all-ext _ _ m.count rule9-at-is

  pub one-whole-is : (i : ℕ) → i < a.count → one_whole_in a m.links masks slots m.count i ≡ one_whole d (site_in d m) (association_in a i)
  unfolding one_whole_in one_whole_at_in one_whole association_in site_in
  one-whole-is i l =
      all-ext _ _ m.count (λ p h. ap₂ (λ (x y : Bool). imp x y) (at-is d m a masks slots instances (right-known d a is slots wf roles i l) p h) (rule9-at-is p h))
