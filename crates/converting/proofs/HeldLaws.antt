-- Limits in memory that edition 1 has numbers for.
-- Assumes nothing.
use Prim.Native.Nat.{ℕ, ◌*◌, ◌+◌}
use mathlib.Core.Bool.{Bool, ◌&&◌, ◌||◌, cond, false, or-false, or-true, true}
use mathlib.Core.Path.{◌∙◌, ◌≡◌, ap, refl, sym}
use lib.Dec.{eqb, leb}
use lib.ListN.{get_or}
use Rattle.laws.specs.Bounded.{all}
use Rattle.laws.specs.Connective.{both}
use Rattle.laws.proofs.BoundedLaws.{all-ext}
use Rattle.laws.proofs.ConnectiveLaws.{and-is-both}
use Rattle.files.specs.Convert.{narrow, narrow_association, narrow_limits, narrow_upper}
use Rattle.files.specs.Diagram.{association_at, at_most, no_limit}
use Rattle.diagrams.specs.declared.Associations.{Associations}
use Rattle.diagrams.specs.declared.StoredDiagram.{StoredDiagram}
use Rattle.diagrams.specs.View.{association_in, diagram_of, end_in, upper_in}
use Rattle.diagrams.proofs.ViewLaws.{association-at, association-count}

narrow-upper : (up : ℕ) → (leb up 100 || eqb up 65535) ≡ narrow_upper (upper_in up)
unfolding narrow_upper upper_in
narrow-upper up = go (eqb up 65535)
  where
    go : (b : Bool) → (leb up 100 || b) ≡ narrow_upper (cond b no_limit (at_most up))
    go true = or-true (leb up 100)
    go false = or-false (leb up 100)

pub narrow-end : (a : Associations) (e most : ℕ) → most ≡ 100
    → leb (get_or a.lows e 0) most && (leb (get_or a.ups e 0) most || eqb (get_or a.ups e 0) 65535) ≡ narrow_limits (end_in a e).limits
unfolding narrow_limits end_in
narrow-end a e most q =
    let low : ℕ = get_or a.lows e 0 in
    let up : ℕ = get_or a.ups e 0 in
    ap (λ (m : ℕ). leb low m && (leb up m || eqb up 65535)) q ∙ and-is-both (leb low 100) (leb up 100 || eqb up 65535) ∙ ap (both (leb low 100)) (narrow-upper up)

-- both ends of association i
abbrev pub narrow_at : Associations → ℕ → Bool
narrow_at a i = narrow_limits (end_in a (i * 2)).limits && narrow_limits (end_in a (i * 2 + 1)).limits

pub narrow-diagram : (d : StoredDiagram) → all (narrow_at d.associations) d.associations.count ≡ narrow (diagram_of d)
unfolding narrow narrow_association association_in
narrow-diagram d =
    let a = d.associations in
    all-ext (narrow_at a) (λ i. narrow_association (association_at (diagram_of d) i)) a.count
    (λ i l.
    and-is-both (narrow_limits (end_in a (i * 2)).limits) (narrow_limits (end_in a (i * 2 + 1)).limits)
    ∙ ap narrow_association (sym (association-at d i l)))
    ∙ ap (all (λ i. narrow_association (association_at (diagram_of d) i))) (sym (association-count d))
