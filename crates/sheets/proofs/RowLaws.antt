-- The rows' tables of numbers are those of the diagram, by the types and slots of another.
-- Assumes nothing.
use Prim.Native.Nat.{◌*◌, ◌+◌, ◌<◌, ◌≤◌, max, min, suc, zero, ℕ}
use native.Mathlib.Omega.{arith}
use mathlib.Core.Bool.{Bool}
use mathlib.Core.List.{List}
use mathlib.Core.Path.{◌∙◌, ◌≡◌, ap, ap₂, refl, sym}
use lib.ListN.{get_or, length}
use Rattle.laws.specs.Bits.{bit}
use Rattle.laws.specs.Bounded.{all, any}
use Rattle.laws.specs.Connective.{both, imp}
use Rattle.laws.proofs.BoundedLaws.{all-ext, any-ext}
use Rattle.diagrams.specs.declared.StoredDiagram.{StoredDiagram}
use Rattle.diagrams.specs.View.{diagram_of}
use Rattle.diagrams.specs.Held.{Held}
use Rattle.diagrams.proofs.ViewLaws.{type-count}
use Rattle.diagrams.proofs.NamedLaws.{role-count}
use Rattle.type_tables.specs.Rows.{end_at, least, most}
use Rattle.type_tables.proofs.EndAtLaws.{end_low, end-up}
use Rattle.views.specs.Views.{counts_as, high_among_by, high_by, leads_by, low_among_by, low_by, may_target_by}
use Rattle.worlds.specs.Tables.{RowTables}
use Rattle.sheets.specs.Named.{EndsBy, SlotsBy}
use Rattle.sheets.specs.RowsBy.{gathered, high_at, leads_at, low_at, target_at}
use Rattle.sheets.proofs.EndLaws.{leads-at}
use Rattle.sheets.proofs.GatherLaws.{gathered-ext}

module _ (old d : StoredDiagram) where
  low-among : (t s n : ℕ) → n ≤ d.associations.count * 2 → low_among_by (diagram_of old) (diagram_of d) t s n ≡ low_at d.associations.lows (leads_by (diagram_of old) (diagram_of d) t s) n
  unfolding low_among_by gathered
  low-among t s zero l = refl
  low-among t s (suc n) l =
      let ih : low_among_by (diagram_of old) (diagram_of d) t s n ≡ low_at d.associations.lows (leads_by (diagram_of old) (diagram_of d) t s) n = low-among t s n (omega arith) in
      let x : least (end_at (diagram_of d) n).limits.low ≡ min 9 (get_or d.associations.lows n 0) = end_low d n (omega arith) in
      rw (ih, x)

  high-among : (t s n : ℕ) → n ≤ d.associations.count * 2 → high_among_by (diagram_of old) (diagram_of d) t s n ≡ high_at d.associations.ups (leads_by (diagram_of old) (diagram_of d) t s) n
  unfolding high_among_by gathered
  high-among t s zero l = refl
  high-among t s (suc n) l =
      let ih : high_among_by (diagram_of old) (diagram_of d) t s n ≡ high_at d.associations.ups (leads_by (diagram_of old) (diagram_of d) t s) n = high-among t s n (omega arith) in
      let x : most (end_at (diagram_of d) n).limits.up ≡ min 8 (get_or d.associations.ups n 0) = end-up d n (omega arith) in
      rw (ih, x)

  module _ (own : Held old) (held : Held d) (sets slots : List ℕ) (ends : EndsBy (diagram_of old) (diagram_of d) sets) (found : SlotsBy (diagram_of old) (diagram_of d) slots) where
    -- at the place of type t and slot s an end leads as the diagram says
    abbrev leading : ℕ → ℕ → ℕ → Bool
    leading t s = leads_at sets d.associations.arrows slots old.types.count (t * 32 + s)

    spot-below : (t s : ℕ) → t < length (diagram_of old).types → s < 32 → t * 32 + s < 768
    spot-below t s lt ls = omega (arith, type-count old, own.counts.types)

    led : (t s : ℕ) → t < length (diagram_of old).types → s < 32 → (e : ℕ) → e < d.associations.count * 2 → leading t s e ≡ leads_by (diagram_of old) (diagram_of d) t s e
    led t s lt ls e le = leads-at old d held sets slots ends found t s e old.types.count refl lt ls le

    pub rows_are : (targets lows highs : List ℕ)
        → ((x u : ℕ) → x < 768 → u < 24 → bit u (get_or targets x 0) ≡ target_at sets (leads_at sets d.associations.arrows slots old.types.count x) (d.associations.count * 2) u)
        → ((x : ℕ) → x < 768 → get_or lows x 0 ≡ low_at d.associations.lows (leads_at sets d.associations.arrows slots old.types.count x) (d.associations.count * 2))
        → ((x : ℕ) → x < 768 → get_or highs x 0 ≡ high_at d.associations.ups (leads_at sets d.associations.arrows slots old.types.count x) (d.associations.count * 2))
        → RowTables (diagram_of old) (diagram_of d) targets lows highs
    unfolding may_target_by low_by high_by target_at
    rows_are targets lows highs f g h = record {
      target_is = λ t s u lt ls lu.
          let few : u < 24 = omega (arith, type-count old, own.counts.types) in
          f (t * 32 + s) u (spot-below t s lt ls) few
          ∙ ap₂ both (any-ext (leading t s) (leads_by (diagram_of old) (diagram_of d) t s) (d.associations.count * 2) (led t s lt ls))
          (all-ext (λ e. imp (leading t s e) (bit u (get_or sets e 0))) (λ e. imp (leads_by (diagram_of old) (diagram_of d) t s e) (counts_as (diagram_of old) (diagram_of d) (end_at (diagram_of d) e).type u)) (d.associations.count * 2)
          (λ e le. ap₂ imp (led t s lt ls e le) (ends.exact e u (omega (arith, role-count d)) lu)))
          ∙ ap (λ (n : ℕ). both (any (leads_by (diagram_of old) (diagram_of d) t s) n) (all (λ e. imp (leads_by (diagram_of old) (diagram_of d) t s e) (counts_as (diagram_of old) (diagram_of d) (end_at (diagram_of d) e).type u)) n)) (sym (role-count d));
      low-is = λ t s lt ls.
          g (t * 32 + s) (spot-below t s lt ls)
          ∙ gathered-ext (leading t s) (leads_by (diagram_of old) (diagram_of d) t s) (λ e m. max m (min 9 (get_or d.associations.lows e 0))) 0 (d.associations.count * 2) (led t s lt ls)
          ∙ sym (ap (low_among_by (diagram_of old) (diagram_of d) t s) (role-count d) ∙ low-among t s (d.associations.count * 2) (omega arith));
      high_is = λ t s lt ls.
          h (t * 32 + s) (spot-below t s lt ls)
          ∙ gathered-ext (leading t s) (leads_by (diagram_of old) (diagram_of d) t s) (λ e m. min m (min 8 (get_or d.associations.ups e 0))) 8 (d.associations.count * 2) (led t s lt ls)
          ∙ sym (ap (high_among_by (diagram_of old) (diagram_of d) t s) (role-count d) ∙ high-among t s (d.associations.count * 2) (omega arith));
    }
