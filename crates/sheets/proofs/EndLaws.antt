-- The ends of a diagram in memory, by the types and slots of another: what the tables of ends say of each.
-- Assumes nothing.
use Prim.Native.Nat.{◌%◌, ◌*◌, ◌+◌, ◌/◌, ◌<◌, ℕ}
use native.Mathlib.Omega.{arith}
use mathlib.Core.Bool.{Bool, cond, false, true}
use mathlib.Core.List.{List}
use mathlib.Core.Path.{◌∙◌, ◌≡◌, ap, refl, sym}
use lib.Dec.{eqb}
use lib.ListN.{get_or, length}
use borrow.Author.Tests.{lt-ltb}
use Rattle.laws.specs.Bits.{bit}
use Rattle.laws.specs.Connective.{both}
use Rattle.laws.proofs.BitLaws.{bit-zero}
use Rattle.diagrams.specs.declared.StoredDiagram.{StoredDiagram}
use Rattle.diagrams.specs.View.{diagram_of}
use Rattle.diagrams.specs.Held.{Held}
use Rattle.diagrams.proofs.ViewLaws.{type-count}
use Rattle.diagrams.proofs.NamedLaws.{role-count}
use Rattle.type_tables.specs.Rows.{carried_to, end_at, opposite}
use Rattle.type_tables.specs.RowsIn.{carried_in, other_end}
use Rattle.type_tables.proofs.EndAtLaws.{carried-is, end-type, opposite-is, other-below, type-known}
use Rattle.views.specs.Views.{counts_as, leads_by, slot_by}
use Rattle.sheets.specs.Named.{EndsBy, SlotsBy, SubtypesBy}
use Rattle.sheets.specs.RowsBy.{is_place, leads_at, source_in}

-- a test and a slot in either order
mix : (a b c : Bool) → both true (both b (both a c)) ≡ both a (both b c)
unfolding both
mix true b c = refl
mix false true c = refl
mix false false c = refl

module _ (old d : StoredDiagram) (held : Held d) where
  pub ends-are : (subtypes r : List ℕ) → SubtypesBy (diagram_of old) (diagram_of d) subtypes
      → ((e : ℕ) → e < d.associations.count * 2 → get_or r e 0 ≡ get_or subtypes (get_or d.associations.types e 0) 0) → EndsBy (diagram_of old) (diagram_of d) r
  ends-are subtypes r is f = record {
    exact = λ e t le lt.
        let h : e < d.associations.count * 2 = omega (arith, role-count d) in
        let x : ℕ = get_or d.associations.types e 0 in
        let known : x < length (diagram_of d).types = type-known d held e h in
        ap (bit t) (f e h)
        ∙ is.exact x t known lt ∙ ap (λ (k : ℕ). counts_as (diagram_of old) (diagram_of d) k t) (sym (end-type d e h));
  }

  module _ (sets slots : List ℕ) (ends : EndsBy (diagram_of old) (diagram_of d) sets) (found : SlotsBy (diagram_of old) (diagram_of d) slots) where
    -- the types whose links go to end e
    pub source_is : (e t : ℕ) → e < d.associations.count * 2 → t < length (diagram_of old).types
        → bit t (source_in sets d.associations.arrows e)
        ≡ both (carried_to (diagram_of d) e) (counts_as (diagram_of old) (diagram_of d) (end_at (diagram_of d) (opposite (diagram_of d) e)).type t)
    unfolding source_in both
    source_is e t le lt = go (carried_in d.associations.arrows e) refl ∙ ap (λ (b : Bool). both b (counts_as (diagram_of old) (diagram_of d) (end_at (diagram_of d) (opposite (diagram_of d) e)).type t)) (sym (carried-is d e le))
      where
        go : (b : Bool) → carried_in d.associations.arrows e ≡ b
            → bit t (cond b (get_or sets (other_end e) 0) 0) ≡ both b (counts_as (diagram_of old) (diagram_of d) (end_at (diagram_of d) (opposite (diagram_of d) e)).type t)
        go true q =
            let o : other_end e < d.associations.count * 2 = other-below e d.associations.count le in
            ends.exact (other_end e) t (omega (arith, role-count d)) lt
            ∙ ap (λ (k : ℕ). counts_as (diagram_of old) (diagram_of d) (end_at (diagram_of d) k).type t) (sym (opposite-is d e))
        go false q = bit-zero t

    -- at the place of type t and slot s
    pub leads-at : (t s e k : ℕ) → k ≡ old.types.count → t < length (diagram_of old).types → s < 32 → e < d.associations.count * 2
        → leads_at sets d.associations.arrows slots k (t * 32 + s) e ≡ leads_by (diagram_of old) (diagram_of d) t s e
    unfolding is_place leads_by
    leads-at t s e k ek lt ls le =
        let a : (t * 32 + s) / 32 ≡ t = omega arith in
        let b : (t * 32 + s) % 32 ≡ s = omega arith in
        let below : t < k = omega (arith, type-count old) in
        rw (a, b, lt-ltb t k below, found.exact e (omega (arith, role-count d)), source_is e t le lt)
        (mix (carried_to (diagram_of d) e) (eqb (slot_by (diagram_of old) (diagram_of d) e) s) (counts_as (diagram_of old) (diagram_of d) (end_at (diagram_of d) (opposite (diagram_of d) e)).type t))
