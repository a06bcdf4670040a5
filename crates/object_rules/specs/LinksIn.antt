-- Rule 5 on numbers: what it says once instances are masks and role names are slots.
-- Assumes nothing.
use Rattle.std.specs.Prelude.{◌%◌, ◌*◌, ◌/◌, ℕ, Bool, List}
use Rattle.laws.specs.Bounded.{any}
use Rattle.laws.specs.Connective.{both, imp}
use Rattle.masks.specs.Masks.{link_in}
use Rattle.permits.specs.Permits.{permits_at}
use Rattle.object_rules.specs.ValuesIn.{own_slot}

-- rule 5, for the link at x, of object x / 256 in slot x / 8 % 32 to object x % 8, and n associations
unfoldable pub link_fits : List ℕ → List ℕ → List ℕ → List ℕ → List ℕ → ℕ → ℕ → Bool
link_fits links arrows types masks slots n x =
    imp (both (own_slot slots (n * 2) (x / 8 % 32)) (link_in links (x / 8 % 32) (x / 256) (x % 8)))
    (any (permits_at arrows types masks slots (x / 8 % 32) (x / 256) (x % 8)) n)
