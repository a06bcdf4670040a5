-- An end of a diagram in memory by its number: what the arrays have at it is what the diagram's end says.
-- Assumes nothing.
use Prim.Native.Nat.{◌%◌, ◌*◌, ◌+◌, ◌-◌, ◌/◌, ◌<◌, min, ℕ}
use native.Mathlib.Omega.{arith}
use mathlib.Core.Bool.{Bool, cond, false, true}
use mathlib.Core.Path.{◌∙◌, ◌≡◌, ap, refl, subst}
use lib.Dec.{eqb}
use lib.ListN.{get_or, length}
use borrow.Author.Tests.{eqb-false, eqb-true}
use Rattle.files.specs.Diagram.{Association, End, association_at, at_most, no_limit}
use Rattle.files.specs.WellFormedDiagram.{WfEnd}
use Rattle.diagrams.specs.declared.StoredDiagram.{StoredDiagram}
use Rattle.diagrams.specs.View.{association_in, diagram_of, end_in, upper_in}
use Rattle.diagrams.specs.Held.{Held}
use Rattle.diagrams.proofs.ViewLaws.{association-at, association-count}
use Rattle.rules.specs.Arrow.{carries_left, carries_right}
use Rattle.type_tables.specs.Rows.{carried_to, end_at, least, most, opposite}
use Rattle.type_tables.specs.RowsIn.{carried_in, other_end}

-- ---- upper limits: none is as good as 8

most-is : (up : ℕ) → most (upper_in up) ≡ min 8 up
unfolding most upper_in
most-is up = go (eqb up 65535) refl
  where
    go : (b : Bool) → eqb up 65535 ≡ b → most (cond b no_limit (at_most up)) ≡ min 8 up
    go true e = let q : up ≡ 65535 = eqb-true _ _ e in omega arith
    go false e = refl

-- ---- ends

pub other-below : (e n : ℕ) → e < n * 2 → other_end e < n * 2
unfolding other_end
other-below e n l = omega arith

module _ (d : StoredDiagram) where
  pub end-at : (e : ℕ) → e < d.associations.count * 2 → end_at (diagram_of d) e ≡ end_in d.associations e
  unfolding end_at association_in
  end-at e l =
      let h : e / 2 < d.associations.count = omega arith in
      ap (λ (a : Association). cond (eqb (e % 2) 0) a.left a.right) (association-at d (e / 2) h) ∙ go (eqb (e % 2) 0) refl
    where
      go : (b : Bool) → eqb (e % 2) 0 ≡ b → cond b (end_in d.associations (e / 2 * 2)) (end_in d.associations (e / 2 * 2 + 1)) ≡ end_in d.associations e
      go true q = let r : e % 2 ≡ 0 = eqb-true _ _ q in ap (end_in d.associations) (let s : e / 2 * 2 ≡ e = omega arith in s)
      go false q = let r : e % 2 ≡ 0 → ⊥ = eqb-false _ _ q in ap (end_in d.associations) (let s : e / 2 * 2 + 1 ≡ e = omega arith in s)

  pub opposite-is : (e : ℕ) → opposite (diagram_of d) e ≡ other_end e
  unfolding opposite other_end
  opposite-is e = go (eqb (e % 2) 0) refl
    where
      go : (b : Bool) → eqb (e % 2) 0 ≡ b → cond b (e + 1) (e - 1) ≡ e / 2 * 2 + (1 - e % 2)
      go true q = let r : e % 2 ≡ 0 = eqb-true _ _ q in omega arith
      go false q = let r : e % 2 ≡ 0 → ⊥ = eqb-false _ _ q in omega arith

  pub carried-is : (e : ℕ) → e < d.associations.count * 2 → carried_to (diagram_of d) e ≡ carried_in d.associations.arrows e
  unfolding carried_to carried_in association_in
  carried-is e l =
      let h : e / 2 < d.associations.count = omega arith in
      ap (λ (a : Association). cond (eqb (e % 2) 0) (carries_left a.arrow) (carries_right a.arrow)) (association-at d (e / 2) h)

  pub end-type : (e : ℕ) → e < d.associations.count * 2 → (end_at (diagram_of d) e).type ≡ get_or d.associations.types e 0
  unfolding end_in
  end-type e l = ap (λ (x : End). x.type) (end-at e l)

  pub end_low : (e : ℕ) → e < d.associations.count * 2 → least (end_at (diagram_of d) e).limits.low ≡ min 9 (get_or d.associations.lows e 0)
  unfolding end_in least
  end_low e l = ap (λ (x : End). min 9 x.limits.low) (end-at e l)

  pub end-up : (e : ℕ) → e < d.associations.count * 2 → most (end_at (diagram_of d) e).limits.up ≡ min 8 (get_or d.associations.ups e 0)
  unfolding end_in
  end-up e l = ap (λ (x : End). most x.limits.up) (end-at e l) ∙ most-is (get_or d.associations.ups e 0)

module _ (d : StoredDiagram) (held : Held d) where
  -- the type of each end is known
  pub type-known : (e : ℕ) → e < d.associations.count * 2 → get_or d.associations.types e 0 < length (diagram_of d).types
  unfolding end_at
  type-known e l = subst (λ (k : ℕ). k < length (diagram_of d).types) (end-type d e l) (go (eqb (e % 2) 0)).type-known
    where
      half : e / 2 < length (diagram_of d).associations
      half = omega (arith, association-count d)

      go : (b : Bool) → WfEnd (diagram_of d) (cond b (association_at (diagram_of d) (e / 2)).left (association_at (diagram_of d) (e / 2)).right)
      go true = (held.wf.association (e / 2) half).left-fits
      go false = (held.wf.association (e / 2) half).right-fits
