-- What is reached from a type goes by the types alone, and by that type and those before it, so that it is settled by any first part of
-- the types that has it.
-- Assumes nothing.
use Prim.Native.Nat.{◌<◌, ◌≤◌, suc, zero, ℕ}
use native.Mathlib.Decide.{dec_lt}
use native.Mathlib.Nat.{lt_trans}
use native.Mathlib.Omega.{arith}
use mathlib.Core.List.{List, []}
use mathlib.Core.Path.{◌∙◌, ◌≡◌, ap, refl, subst, sym}
use lib.Dec.{eqb}
use lib.ListN.{get_or, length, length-take, take}
use lib.Seq.{get_or-take}
use Rattle.laws.specs.Bounded.{any}
use Rattle.laws.specs.Connective.{either}
use Rattle.files.specs.Ancestor.{parent_at, parent_count, reaches, reaches_by}
use Rattle.files.specs.Diagram.{Diagram, TypeDef, type_at}
use Rattle.files.specs.FirstTypes.{FirstReach, first_types}
use Rattle.files.specs.WellFormedDiagram.{WfDiagram}
use Rattle.files.proofs.AncestorLaws.{Below, none-past, parents-stand-below, reaches-complete, reaches-sound}
use Rattle.laws.proofs.BoundedLaws.{any-ext}

-- in diagrams that have the same types
reaches_by-types : (d e : Diagram) → d.types ≡ e.types → (n i t : ℕ) → reaches_by d n i t ≡ reaches_by e n i t
unfolding reaches_by
reaches_by-types d e s zero i t = refl
reaches_by-types d e s (suc n) i t =
    ap (either (eqb i t))
    (any-ext (λ k. reaches_by d n (parent_at d i k) t) (λ k. reaches_by e n (parent_at d i k) t) (parent_count d i)
    (λ k l. reaches_by-types d e s n (parent_at d i k) t)
    ∙ ap (λ (ps : List ℕ). any (λ k. reaches_by e n (get_or ps k 0) t) (length ps)) (ap (λ (ts : List TypeDef). (get_or ts i (record { kind = 0; name = []; parents = [] })).parents) s))

pub reaches-types : (d e : Diagram) → d.types ≡ e.types → (i t : ℕ) → reaches d i t ≡ reaches e i t
unfolding reaches
reaches-types d e s i t = reaches_by-types d e s i i t

-- what is reached from a type below n, in diagrams that have the same types below n
module _ (d e : Diagram) (n : ℕ) (agree : (i : ℕ) → i < n → type_at e i ≡ type_at d i) (below : Below d) where
  reached-by : (k i t : ℕ) → i < n → reaches_by e k i t ≡ reaches_by d k i t
  unfolding reaches_by
  reached-by zero i t l = refl
  reached-by (suc k) i t l =
      ap (either (eqb i t))
      (ap (λ (x : TypeDef). any (λ s. reaches_by e k (get_or x.parents s 0) t) (length x.parents)) (agree i l)
      ∙ any-ext _ _ (parent_count d i) (λ s b. reached-by k (parent_at d i s) t (lt_trans (below i s b) l)))

  pub reached-same : (i t : ℕ) → i < n → reaches e i t ≡ reaches d i t
  unfolding reaches
  reached-same i t l = reached-by i i t l

-- ---- the first n types

first-agree : (d : Diagram) (n i : ℕ) → i < n → type_at (first_types n d) i ≡ type_at d i
unfolding first_types
first-agree d n i l = get_or-take n d.types i (record { kind = 0; name = []; parents = [] }) l

-- a type past them has no parents
first-below : (d : Diagram) (n : ℕ) → Below d → Below (first_types n d)
unfolding first_types
first-below d n below i s l = go (dec_lt i n)
  where
    go : Dec (i < n) → parent_at (first_types n d) i s < i
    go (yes h) =
        subst (λ (x : TypeDef). get_or x.parents s 0 < i) (sym (first-agree d n i h))
        (below i s (subst (λ (x : TypeDef). s < length x.parents) (first-agree d n i h) l))
    go (no h) =
        let beyond : length (take n d.types) ≤ i = omega (arith, length-take n d.types) in
        let none = none-past (first_types n d) i beyond in
        absurd (omega arith)

-- the same is reached in the diagram and in its first n types
pub reach-by-first : (d : Diagram) → WfDiagram d → FirstReach d
reach-by-first d wf = record {
  same = λ n i t l.
      let below : Below d = parents-stand-below d wf in
      let first : Below (first_types n d) = first-below d n below in
      let same : reaches (first_types n d) i t ≡ reaches d i t = reached-same d (first_types n d) n (first-agree d n) below i t l in (
        λ r. reaches-sound d i t (sym same ∙ reaches-complete (first_types n d) first r),
        λ r. reaches-sound (first_types n d) i t (same ∙ reaches-complete d below r),
      );
}
