-- What is known of the fields of an accepted file of edition e whose limits fit edition e'.
-- Assumes nothing.
use Rattle.std.specs.Prelude.{◌<◌, ℕ, true, List, ◌≡◌, length}
use Rattle.files.specs.DiagramLayout.{association_laid, association_of}
use Rattle.files.specs.Field.{Rows, cut, end, row}
use Rattle.files.specs.WellFormedDiagram.{FitsAssociation}

-- the content c of a field of tag t: its length has two bytes, an association is on its layout, and edition e' has numbers for its limits
pub record Fits (e e' t : ℕ) (c : List ℕ) : Type 0 where
  pub short : length c < 65536
  pub laid : t ≡ 0x50 → association_laid e c ≡ true
  pub limits-fit : t ≡ 0x50 → FitsAssociation e' (association_of e c)

-- each field of a whole file
abbrev pub AllFit : ℕ → ℕ → Rows → Type 0
AllFit e e' end = Unit {0}
AllFit e e' cut = ⊥
AllFit e e' (row t c rest) = Fits e e' t c × AllFit e e' rest
