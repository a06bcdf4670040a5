-- The tables of associations in memory are those of the diagram, by the types and slots of another.
-- Assumes nothing.
use Prim.Native.Nat.{◌%◌, ◌*◌, ◌+◌, ◌-◌, ◌<◌, ◌≤◌, min, ℕ}
use native.Mathlib.Omega.{arith}
use mathlib.Core.Bool.{Bool, cond, false, not, true}
use mathlib.Core.List.{List}
use mathlib.Core.Path.{◌∙◌, ◌≡◌, ap, ap₂, refl, subst, sym}
use lib.Dec.{eqb, ltb}
use lib.ListN.{get_or-eq_default, get_or, length}
use borrow.Author.Tests.{ltb-false, ltb-true}
use Rattle.laws.specs.Bits.{bit}
use Rattle.laws.specs.Connective.{both, either}
use Rattle.laws.proofs.BitLaws.{bit-zero}
use Rattle.files.specs.Diagram.{Association, Diagram, End, association_at, is_composition, no_end}
use Rattle.diagrams.specs.declared.StoredDiagram.{StoredDiagram}
use Rattle.diagrams.specs.View.{association_in, diagram_of}
use Rattle.diagrams.specs.Held.{Held}
use Rattle.diagrams.proofs.ViewLaws.{association-at, association-count}
use Rattle.diagrams.proofs.NamedLaws.{role-count}
use Rattle.rules.specs.Arrow.{counted_left, counted_right, mirrors, r1, r2}
use Rattle.type_tables.specs.Rows.{end_at, least, most, opposite}
use Rattle.type_tables.proofs.EndAtLaws.{end_low, end-up}
use Rattle.type_tables.proofs.EndLaws.{end-at}
use Rattle.views.specs.Views.{column_from, column_high, column_low, column_slot, column_to, counted_end, counts_as, is_composed, is_counted, is_mirror, mirror_from, mirror_left, mirror_right, mirror_to, slot_by, whole_from, whole_slot, whole_to}
use Rattle.worlds.specs.declared.Column.{Column}
use Rattle.worlds.specs.declared.Lines.{Lines}
use Rattle.worlds.specs.declared.Mirror.{Mirror}
use Rattle.worlds.specs.declared.Whole.{Whole}
use Rattle.worlds.specs.Tables.{LinesOf}
use Rattle.sheets.specs.Named.{EndsBy, SlotsBy}
use Rattle.sheets.specs.LinesBy.{LinesIn, column_by, composed, counted, counted_from, counted_to, element_if, end_if, mirror_by, mirrored, whole_by}

-- ---- ends of one association

end_below : (b : Bool) (j n : ℕ) → j < n → end_if b j < n * 2
unfolding end_if
end_below true j n l = omega arith
end_below false j n l = omega arith

opposite-end : (d : Diagram) (b : Bool) (j : ℕ) → opposite d (end_if b j) ≡ end_if (not b) j
unfolding end_if opposite
opposite-end d true j =
    let odd : (j * 2 + 1) % 2 ≡ 1 = omega arith in
    let less : j * 2 + 1 - 1 ≡ j * 2 = omega arith in
    rw (odd, less)
opposite-end d false j = let even : j * 2 % 2 ≡ 0 = omega arith in rw even

-- the end that counted links go to, and the opposite one
counted-end : (old d : Diagram) (j : ℕ) → counted_end old d j ≡ end_if (counted_right (association_at d j).arrow) j
unfolding counted_end end_if
counted-end old d j = refl

counted-from : (old d : Diagram) (j : ℕ) → opposite d (counted_end old d j) ≡ end_if (not (counted_right (association_at d j).arrow)) j
counted-from old d j = ap (opposite d) (counted-end old d j) ∙ opposite-end d (counted_right (association_at d j).arrow) j

-- past the last association there is no end
no-association : (d : Diagram) (j : ℕ) → length d.associations ≤ j → association_at d j ≡ record { form = 0; arrow = 0; left = no_end; right = no_end }
no-association d j l = get_or-eq_default d.associations (record { form = 0; arrow = 0; left = no_end; right = no_end }) l

no_source : (old d : Diagram) (j : ℕ) → length d.associations ≤ j → end_at d (opposite d (counted_end old d j)) ≡ no_end
unfolding counted_right end_if
no_source old d j l =
    ap (end_at d) (counted-from old d j ∙ ap (λ (a : Association). end_if (not (counted_right a.arrow)) j) (no-association d j l)) ∙ end-at d r2 j ∙ ap (λ (a : Association). a.right) (no-association d j l)

-- ---- what stands in the tables

module _ (old d : StoredDiagram) (held : Held d) where
  arrow-at : (j : ℕ) → j < d.associations.count → (association_at (diagram_of d) j).arrow ≡ get_or d.associations.arrows j 0
  unfolding association_in
  arrow-at j l = ap (λ (a : Association). a.arrow) (association-at d j l)

  form-at : (j : ℕ) → j < d.associations.count → (association_at (diagram_of d) j).form ≡ get_or d.associations.forms j 0
  unfolding association_in
  form-at j l = ap (λ (a : Association). a.form) (association-at d j l)

  module _ (sets slots : List ℕ) (ends : EndsBy (diagram_of old) (diagram_of d) sets) (found : SlotsBy (diagram_of old) (diagram_of d) slots) where
    -- a slot, where the association asks
    slot-line : (on : Bool) (to : ℕ) (ok : Bool) (e j : ℕ) → (j < d.associations.count → on ≡ ok) → (j < d.associations.count → to ≡ e) → (j < d.associations.count → e < d.associations.count * 2)
        → element_if (both (ltb j d.associations.count) on) slots to ≡ cond (both (ltb j (length (diagram_of d).associations)) ok) (slot_by (diagram_of old) (diagram_of d) e) 0
    unfolding element_if both
    slot-line on to ok e j f g h =
        go (ltb j d.associations.count) refl
        ∙ ap (λ (n : ℕ). cond (both (ltb j n) ok) (slot_by (diagram_of old) (diagram_of d) e) 0) (sym (association-count d))
      where
        go : (b : Bool) → ltb j d.associations.count ≡ b → cond (both b on) (get_or slots to 0) 0 ≡ cond (both b ok) (slot_by (diagram_of old) (diagram_of d) e) 0
        go true q =
            let l : j < d.associations.count = ltb-true _ _ q in
            let b : e < d.associations.count * 2 = h l in
            ap₂ (λ (x : Bool) (i : ℕ). cond x (get_or slots i 0) 0) (f l) (g l) ∙ ap (λ (v : ℕ). cond ok v 0) (found.exact e (omega (arith, role-count d)))
        go false q = refl

    -- a set of types
    set_line : (on : Bool) (to : ℕ) (ok : Bool) (e j t : ℕ) → t < length (diagram_of old).types
        → (j < d.associations.count → on ≡ ok) → (j < d.associations.count → to ≡ e) → (j < d.associations.count → e < d.associations.count * 2)
        → bit t (element_if (both (ltb j d.associations.count) on) sets to)
        ≡ both (both (ltb j (length (diagram_of d).associations)) ok) (counts_as (diagram_of old) (diagram_of d) (end_at (diagram_of d) e).type t)
    unfolding element_if both
    set_line on to ok e j t lt f g h =
        go (ltb j d.associations.count) refl
        ∙ ap (λ (n : ℕ). both (both (ltb j n) ok) (counts_as (diagram_of old) (diagram_of d) (end_at (diagram_of d) e).type t)) (sym (association-count d))
      where
        asked : (b : Bool) → e < d.associations.count * 2 → bit t (cond b (get_or sets e 0) 0) ≡ both b (counts_as (diagram_of old) (diagram_of d) (end_at (diagram_of d) e).type t)
        asked true l = ends.exact e t (omega (arith, role-count d)) lt
        asked false l = bit-zero t

        go : (b : Bool) → ltb j d.associations.count ≡ b
            → bit t (cond (both b on) (get_or sets to 0) 0) ≡ both (both b ok) (counts_as (diagram_of old) (diagram_of d) (end_at (diagram_of d) e).type t)
        go true q =
            let l : j < d.associations.count = ltb-true _ _ q in
            ap₂ (λ (x : Bool) (i : ℕ). bit t (cond x (get_or sets i 0) 0)) (f l) (g l) ∙ asked ok (h l)
        go false q = bit-zero t

    -- a limit, which stands where the association does not ask too
    limit-line : (f v w j : ℕ) → (j < d.associations.count → f ≡ w) → (d.associations.count ≤ j → v ≡ w) → cond (ltb j d.associations.count) f v ≡ w
    limit-line f v w j g h = go (ltb j d.associations.count) refl
      where
        go : (b : Bool) → ltb j d.associations.count ≡ b → cond b f v ≡ w
        go true q = g (ltb-true _ _ q)
        go false q = h (ltb-false _ _ q)

    -- ---- the tests and ends of association j

    abbrev arrow : ℕ → ℕ
    arrow j = (association_at (diagram_of d) j).arrow

    counted_is : (j : ℕ) → j < d.associations.count → counted d.associations.arrows j ≡ either (counted_right (arrow j)) (counted_left (arrow j))
    unfolding counted
    counted_is j l = ap (λ (a : ℕ). either (counted_right a) (counted_left a)) (sym (arrow-at j l))

    to_is : (j : ℕ) → j < d.associations.count → counted_to d.associations.arrows j ≡ counted_end (diagram_of old) (diagram_of d) j
    unfolding counted_to
    to_is j l = ap (λ (a : ℕ). end_if (counted_right a) j) (sym (arrow-at j l)) ∙ sym (counted-end (diagram_of old) (diagram_of d) j)

    from_is : (j : ℕ) → j < d.associations.count → counted_from d.associations.arrows j ≡ opposite (diagram_of d) (counted_end (diagram_of old) (diagram_of d) j)
    unfolding counted_from
    from_is j l = ap (λ (a : ℕ). end_if (not (counted_right a)) j) (sym (arrow-at j l)) ∙ sym (counted-from (diagram_of old) (diagram_of d) j)

    to_below : (j : ℕ) → j < d.associations.count → counted_end (diagram_of old) (diagram_of d) j < d.associations.count * 2
    to_below j l = subst (λ (e : ℕ). e < d.associations.count * 2) (sym (counted-end (diagram_of old) (diagram_of d) j)) (end_below (counted_right (arrow j)) j d.associations.count l)

    from-below : (j : ℕ) → j < d.associations.count → opposite (diagram_of d) (counted_end (diagram_of old) (diagram_of d) j) < d.associations.count * 2
    from-below j l = subst (λ (e : ℕ). e < d.associations.count * 2) (sym (counted-from (diagram_of old) (diagram_of d) j)) (end_below (not (counted_right (arrow j))) j d.associations.count l)

    mirrored-is : (j : ℕ) → j < d.associations.count → mirrored d.associations.arrows j ≡ mirrors (arrow j)
    unfolding mirrored
    mirrored-is j l = ap mirrors (sym (arrow-at j l))

    composed-is : (j : ℕ) → j < d.associations.count → composed d.associations.forms j ≡ is_composition (association_at (diagram_of d) j)
    unfolding composed is_composition
    composed-is j l = ap (λ (k : ℕ). eqb k 1) (sym (form-at j l))

    -- the type of the left end, of the right one
    left-type : (j t : ℕ) → counts_as (diagram_of old) (diagram_of d) (end_at (diagram_of d) (j * 2)).type t ≡ counts_as (diagram_of old) (diagram_of d) (association_at (diagram_of d) j).left.type t
    left-type j t = ap (λ (e : End). counts_as (diagram_of old) (diagram_of d) e.type t) (end-at (diagram_of d) r1 j)

    right-type : (j t : ℕ) → counts_as (diagram_of old) (diagram_of d) (end_at (diagram_of d) (j * 2 + 1)).type t ≡ counts_as (diagram_of old) (diagram_of d) (association_at (diagram_of d) j).right.type t
    right-type j t = ap (λ (e : End). counts_as (diagram_of old) (diagram_of d) e.type t) (end-at (diagram_of d) r2 j)

    left_below : (j : ℕ) → j < d.associations.count → j * 2 < d.associations.count * 2
    left_below j l = omega arith

    right-below : (j : ℕ) → j < d.associations.count → j * 2 + 1 < d.associations.count * 2
    right-below j l = omega arith

    -- the lines that the arrays make
    pub lines_are : (x : Lines) → LinesIn sets slots d.associations.arrows d.associations.forms d.associations.lows d.associations.ups d.associations.count x
        → LinesOf (diagram_of old) (diagram_of d) x
    unfolding column_by mirror_by whole_by column_slot column_from column_to column_low column_high is_counted mirror_right mirror_left mirror_from mirror_to is_mirror whole_slot whole_from whole_to is_composed least most
    lines_are x is = record {
      column-slot = λ j lj. ap (λ (l : Column). l.slot) (is.column j lj) ∙ slot-line (counted d.associations.arrows j) (counted_to d.associations.arrows j) (either (counted_right (arrow j)) (counted_left (arrow j))) (counted_end (diagram_of old) (diagram_of d) j) j (counted_is j) (to_is j) (to_below j);
      column-from = λ j t lj lt. ap (λ (l : Column). bit t l.from) (is.column j lj) ∙ set_line (counted d.associations.arrows j) (counted_from d.associations.arrows j) (either (counted_right (arrow j)) (counted_left (arrow j))) (opposite (diagram_of d) (counted_end (diagram_of old) (diagram_of d) j)) j t lt (counted_is j) (from_is j) (from-below j);
      column-to = λ j t lj lt. ap (λ (l : Column). bit t l.to) (is.column j lj) ∙ set_line (counted d.associations.arrows j) (counted_to d.associations.arrows j) (either (counted_right (arrow j)) (counted_left (arrow j))) (counted_end (diagram_of old) (diagram_of d) j) j t lt (counted_is j) (to_is j) (to_below j);
      column-low = λ j lj.
          ap (λ (l : Column). l.low) (is.column j lj)
          ∙ limit-line (min 9 (get_or d.associations.lows (counted_from d.associations.arrows j) 0)) 0 (least (end_at (diagram_of d) (opposite (diagram_of d) (counted_end (diagram_of old) (diagram_of d) j))).limits.low) j
          (λ l. ap (λ (e : ℕ). min 9 (get_or d.associations.lows e 0)) (from_is j l) ∙ sym (end_low d (opposite (diagram_of d) (counted_end (diagram_of old) (diagram_of d) j)) (from-below j l)))
          (λ l. sym (ap (λ (e : End). least e.limits.low) (no_source (diagram_of old) (diagram_of d) j (omega (arith, association-count d)))));
      column-high = λ j lj.
          ap (λ (l : Column). l.high) (is.column j lj)
          ∙ limit-line (min 8 (get_or d.associations.ups (counted_from d.associations.arrows j) 0)) 8 (most (end_at (diagram_of d) (opposite (diagram_of d) (counted_end (diagram_of old) (diagram_of d) j))).limits.up) j
          (λ l. ap (λ (e : ℕ). min 8 (get_or d.associations.ups e 0)) (from_is j l) ∙ sym (end-up d (opposite (diagram_of d) (counted_end (diagram_of old) (diagram_of d) j)) (from-below j l)))
          (λ l. sym (ap (λ (e : End). most e.limits.up) (no_source (diagram_of old) (diagram_of d) j (omega (arith, association-count d)))));
      mirror-right = λ j lj. ap (λ (l : Mirror). l.right) (is.mirror j lj) ∙ slot-line (mirrored d.associations.arrows j) (j * 2 + 1) (mirrors (arrow j)) (j * 2 + 1) j (mirrored-is j) (λ l. refl) (right-below j);
      mirror-left = λ j lj. ap (λ (l : Mirror). l.left) (is.mirror j lj) ∙ slot-line (mirrored d.associations.arrows j) (j * 2) (mirrors (arrow j)) (j * 2) j (mirrored-is j) (λ l. refl) (left_below j);
      mirror-from = λ j t lj lt. ap (λ (l : Mirror). bit t l.from) (is.mirror j lj) ∙ set_line (mirrored d.associations.arrows j) (j * 2) (mirrors (arrow j)) (j * 2) j t lt (mirrored-is j) (λ l. refl) (left_below j) ∙ ap (both (is_mirror (diagram_of old) (diagram_of d) j)) (left-type j t);
      mirror-to = λ j t lj lt. ap (λ (l : Mirror). bit t l.to) (is.mirror j lj) ∙ set_line (mirrored d.associations.arrows j) (j * 2 + 1) (mirrors (arrow j)) (j * 2 + 1) j t lt (mirrored-is j) (λ l. refl) (right-below j) ∙ ap (both (is_mirror (diagram_of old) (diagram_of d) j)) (right-type j t);
      whole-slot = λ j lj. ap (λ (l : Whole). l.slot) (is.whole j lj) ∙ slot-line (composed d.associations.forms j) (j * 2 + 1) (is_composition (association_at (diagram_of d) j)) (j * 2 + 1) j (composed-is j) (λ l. refl) (right-below j);
      whole-from = λ j t lj lt. ap (λ (l : Whole). bit t l.from) (is.whole j lj) ∙ set_line (composed d.associations.forms j) (j * 2) (is_composition (association_at (diagram_of d) j)) (j * 2) j t lt (composed-is j) (λ l. refl) (left_below j) ∙ ap (both (is_composed (diagram_of old) (diagram_of d) j)) (left-type j t);
      whole-to = λ j t lj lt. ap (λ (l : Whole). bit t l.to) (is.whole j lj) ∙ set_line (composed d.associations.forms j) (j * 2 + 1) (is_composition (association_at (diagram_of d) j)) (j * 2 + 1) j t lt (composed-is j) (λ l. refl) (right-below j) ∙ ap (both (is_composed (diagram_of old) (diagram_of d) j)) (right-type j t);
    }
