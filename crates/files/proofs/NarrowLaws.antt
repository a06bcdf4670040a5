-- A diagram is narrow where edition 1 has numbers for its limits; where it is not, it has a finite limit above 100.
-- Assumes nothing.
use Prim.Native.Nat.{ℕ}
use mathlib.Core.Bool.{false, true, true≢false}
use mathlib.Core.Logic.{◌↔◌, ◌⊎◌, inl, inr, ⊎_elim}
use mathlib.Core.Path.{◌≡◌, refl}
use lib.ListN.{length}
use borrow.Author.Tests.{le-leb, leb-false, leb-true, lt-leb}
use Rattle.files.specs.Convert.{HasWideLimit, WideLimits, WideUpper, narrow, narrow_association, narrow_limits, narrow_upper}
use Rattle.files.specs.Diagram.{Association, Diagram, Limits, Upper, association_at, at_most, no_limit}
use Rattle.files.specs.WellFormedDiagram.{FitsAssociation, FitsDiagram, FitsLimits, FitsUpper}
use Rattle.laws.proofs.BoundedLaws.{all-at, all-fails, all-not, all_of}
use Rattle.laws.proofs.ConnectiveLaws.{both-failed, both-fails, both_left, both_of, both_right}

-- ---- what fits edition 1

module _ (low : ℕ) where
  upper-fits : (up : Upper) → FitsUpper 2 low up → narrow_upper up ≡ true → FitsUpper 1 low up
  unfolding narrow_upper
  upper-fits (at_most n) w h = (w.0, leb-true n 100 h)
  upper-fits no_limit w h = tt

  upper-narrow : (up : Upper) → FitsUpper 1 low up → narrow_upper up ≡ true
  unfolding narrow_upper
  upper-narrow (at_most n) w = le-leb n 100 w.1
  upper-narrow no_limit w = refl

limits-fit : (l : Limits) → FitsLimits 2 l → narrow_limits l ≡ true → FitsLimits 1 l
unfolding narrow_limits
limits-fit l w h = record { low-fits = leb-true l.low 100 (both_left _ _ h); up-fits = upper-fits l.low l.up w.up-fits (both_right _ _ h) }

limits-narrow : (l : Limits) → FitsLimits 1 l → narrow_limits l ≡ true
unfolding narrow_limits
limits-narrow l w = both_of _ _ (le-leb l.low 100 w.low-fits) (upper-narrow l.low l.up w.up-fits)

association-fits : (a : Association) → FitsAssociation 2 a → narrow_association a ≡ true → FitsAssociation 1 a
unfolding narrow_association
association-fits a w h = (limits-fit a.left.limits w.0 (both_left _ _ h), limits-fit a.right.limits w.1 (both_right _ _ h))

association-narrow : (a : Association) → FitsAssociation 1 a → narrow_association a ≡ true
unfolding narrow_association
association-narrow a w = both_of _ _ (limits-narrow a.left.limits w.0) (limits-narrow a.right.limits w.1)

pub narrow-iff : (d : Diagram) → FitsDiagram 2 d → (narrow d ≡ true) ↔ FitsDiagram 1 d
unfolding narrow
narrow-iff d w = (
  (λ h i l. association-fits (association_at d i) (w i l) (all-at (λ i. narrow_association (association_at d i)) (length d.associations) h i l)),
  (λ f. all_of (λ i. narrow_association (association_at d i)) (length d.associations) (λ i l. association-narrow (association_at d i) (f i l))),
)

-- ---- what does not

upper-wide : (up : Upper) → narrow_upper up ≡ false → WideUpper up
unfolding narrow_upper
upper-wide (at_most n) h = leb-false n 100 h
upper-wide no_limit h = true≢false h

upper-not : (up : Upper) → WideUpper up → narrow_upper up ≡ false
unfolding narrow_upper
upper-not (at_most n) w = lt-leb n 100 w
upper-not no_limit w = absurd w

limits-wide : (l : Limits) → narrow_limits l ≡ false → WideLimits l
unfolding narrow_limits
limits-wide l h = ⊎_elim (λ p. inl (leb-false l.low 100 p)) (λ p. inr (upper-wide l.up p)) (both-fails _ _ h)

limits-not : (l : Limits) → WideLimits l → narrow_limits l ≡ false
unfolding narrow_limits
limits-not l w = both-failed _ _ (⊎_elim (λ p. inl (lt-leb l.low 100 p)) (λ p. inr (upper-not l.up p)) w)

association-wide : (a : Association) → narrow_association a ≡ false → WideLimits a.left.limits ⊎ WideLimits a.right.limits
unfolding narrow_association
association-wide a h = ⊎_elim (λ p. inl (limits-wide a.left.limits p)) (λ p. inr (limits-wide a.right.limits p)) (both-fails _ _ h)

association-not : (a : Association) → WideLimits a.left.limits ⊎ WideLimits a.right.limits → narrow_association a ≡ false
unfolding narrow_association
association-not a w = both-failed _ _ (⊎_elim (λ p. inl (limits-not a.left.limits p)) (λ p. inr (limits-not a.right.limits p)) w)

pub wide-iff : (d : Diagram) → (narrow d ≡ false) ↔ HasWideLimit d
unfolding narrow
wide-iff d = (
  (λ h. let w = all-fails (λ i. narrow_association (association_at d i)) (length d.associations) h in (w.0, w.1, association-wide (association_at d w.0) w.2)),
  (λ w. all-not (λ i. narrow_association (association_at d i)) (length d.associations) w.0 w.1 (association-not (association_at d w.0) w.2)),
)
