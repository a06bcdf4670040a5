-- Rules 6 to 8 by the tables: for each type a mask of its instances, for each end the slot of its role. The left end of
-- association i is end i * 2, the right one end i * 2 + 1.
-- Assumes nothing.
use Rattle.std.specs.Prelude.{ℕ, ◌*◌, ◌+◌, ◌-◌, ◌<◌, ◌≤◌, Bool, List, get_or}
use Rattle.laws.specs.Bounded.{all}
use Rattle.laws.specs.Connective.{both, imp}
use Rattle.files.specs.Diagram.{Limits}
use Rattle.diagrams.specs.View.{upper_in}
use Rattle.diagrams.specs.declared.Associations.{Associations}
use Rattle.rules.specs.Arrow.{Side, carries_left, carries_right, counted_left, counted_right, mirrors, r1, r2}
use Rattle.rules.specs.Compile.{side_number}
use Rattle.masks.specs.Masks.{columns_fit, mirrors_fit, rows_fit}

-- what the code asks of the tables: few associations and objects, and a slot for each end
pub record Fits (a : Associations) (slots : List ℕ) (n : ℕ) : Type 0 where
  pub few : a.count ≤ 16
  pub known : (e : ℕ) → e < a.count * 2 → get_or slots e 0 < 32
  pub objects : n ≤ 8

-- the instances of an end's type, and an end's limits
abbrev pub instances_in : Associations → List ℕ → ℕ → ℕ
instances_in a masks e = get_or masks (get_or a.types e 0) 0

abbrev pub end_limits : Associations → ℕ → Limits
end_limits a e = record { low = get_or a.lows e 0; up = upper_in (get_or a.ups e 0) }

-- the ends of association i that a side's links come from and go to
abbrev pub source_end : Side → ℕ → ℕ
source_end s i = i * 2 + side_number s

abbrev pub target_end : Side → ℕ → ℕ
target_end s i = i * 2 + 1 - side_number s

module _ (a : Associations) (links masks slots : List ℕ) (n : ℕ) where
  -- rule 6 for a side of association i, with any limits; with those of the end that its links go to
  unfoldable pub targets_in : Side → ℕ → Limits → Bool
  targets_in s i limits = rows_fit links (get_or slots (target_end s i) 0) (instances_in a masks (source_end s i)) (instances_in a masks (target_end s i)) limits n

  unfoldable pub own_targets_in : Side → ℕ → Bool
  own_targets_in s i = targets_in s i (end_limits a (target_end s i))

  unfoldable pub rule6_at_in : ℕ → Bool
  rule6_at_in i = both (imp (carries_right (get_or a.arrows i 0)) (own_targets_in r2 i)) (imp (carries_left (get_or a.arrows i 0)) (own_targets_in r1 i))

  unfoldable pub rule6_in : Bool
  rule6_in = all rule6_at_in a.count

  -- rule 7 for a side of association i, with any limits; with those of the end that its links come from
  unfoldable pub sources_in : Side → ℕ → Limits → Bool
  sources_in s i limits = columns_fit links (get_or slots (target_end s i) 0) (instances_in a masks (source_end s i)) (instances_in a masks (target_end s i)) limits n

  unfoldable pub own_sources_in : Side → ℕ → Bool
  own_sources_in s i = sources_in s i (end_limits a (source_end s i))

  unfoldable pub rule7_at_in : ℕ → Bool
  rule7_at_in i = both (imp (counted_right (get_or a.arrows i 0)) (own_sources_in r2 i)) (imp (counted_left (get_or a.arrows i 0)) (own_sources_in r1 i))

  unfoldable pub rule7_in : Bool
  rule7_in = all rule7_at_in a.count

  -- rule 8 for association i, whatever its arrow
  unfoldable pub mirrored_in : ℕ → Bool
  mirrored_in i = mirrors_fit links (get_or slots (i * 2 + 1) 0) (get_or slots (i * 2) 0) (instances_in a masks (i * 2)) (instances_in a masks (i * 2 + 1)) n

  unfoldable pub rule8_at_in : ℕ → Bool
  rule8_at_in i = imp (mirrors (get_or a.arrows i 0)) (mirrored_in i)

  unfoldable pub rule8_in : Bool
  rule8_in = all rule8_at_in a.count
