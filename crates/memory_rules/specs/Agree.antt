-- Two sites agree on the names of a diagram: as many objects, and the same answers for its type names and its role names.
-- An association past the last one has the empty role, for which both have no link.
-- Assumes nothing.
use Rattle.std.specs.Prelude.{◌<◌, ℕ, ◌≡◌, length}
use Rattle.files.specs.Diagram.{Diagram, association_at, type_at}
use Rattle.rules.specs.Arrow.{Side, target}
use Rattle.rules.specs.Site.{Site}

pub record Agree (d : Diagram) (x y : Site) : Type 0 where
  pub count : x.count ≡ y.count
  pub typed : (o i : ℕ) → o < x.count → i < length d.types → x.typed o (type_at d i).name ≡ y.typed o (type_at d i).name
  pub linked : (o : ℕ) (s : Side) (a p : ℕ) → o < x.count → p < x.count → x.linked o (target s (association_at d a)).role p ≡ y.linked o (target s (association_at d a)).role p
