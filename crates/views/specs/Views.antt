-- A diagram d through the indices of another one, old: what d asks of objects that are given by old's types and of links that are
-- given by old's role slots. "The two diagrams meet only through names". With d = old it is what a diagram asks by its own indices.
-- Assumes nothing.
use Rattle.std.specs.Prelude.{◌*◌, ◌+◌, max, min, suc, zero, ℕ, Bool, cond, eqb, ltb, length}
use Rattle.laws.specs.Bounded.{all, any}
use Rattle.laws.specs.Connective.{both, either, imp}
use Rattle.files.specs.Ancestor.{reaches}
use Rattle.files.specs.Diagram.{Diagram, association_at, is_composition, type_at}
use Rattle.records.specs.Slots.{role_count, role_name, role_slot, type_index}
use Rattle.rules.specs.Arrow.{counted_left, counted_right, mirrors}
use Rattle.type_tables.specs.Rows.{carried_to, end_at, least, most, opposite}

module _ (old d : Diagram) where
  -- an object of old's type t is an instance of d's type x
  unfoldable pub counts_as : ℕ → ℕ → Bool
  counts_as x t = any (λ i. both (eqb (type_index old (type_at d i).name) t) (reaches d i x)) (length d.types)

  -- old's slot of the role of d's end e, or the number of old's role slots where old has no such role
  unfoldable pub slot_by : ℕ → ℕ
  slot_by e = role_slot old (role_name d e)

  -- ---- rules 5 and 6, by type and slot

  -- the links of an object of type t in slot s are those to end e
  unfoldable pub leads_by : ℕ → ℕ → ℕ → Bool
  leads_by t s e = both (carried_to d e) (both (eqb (slot_by e) s) (counts_as (end_at d (opposite d e)).type t))

  -- an object of type u may be a target: there is such an end, and u is an instance of each
  unfoldable pub may_target_by : ℕ → ℕ → ℕ → Bool
  may_target_by t s u =
      both (any (leads_by t s) (role_count d)) (all (λ e. imp (leads_by t s e) (counts_as (end_at d e).type u)) (role_count d))

  -- the largest lower limit and the least upper one of the first n ends that are so; more than 8 objects there are not
  unfoldable pub low_among_by : ℕ → ℕ → ℕ → ℕ
  low_among_by t s zero = 0
  low_among_by t s (suc n) = cond (leads_by t s n) (max (low_among_by t s n) (least (end_at d n).limits.low)) (low_among_by t s n)

  unfoldable pub high_among_by : ℕ → ℕ → ℕ → ℕ
  high_among_by t s zero = 8
  high_among_by t s (suc n) = cond (leads_by t s n) (min (high_among_by t s n) (most (end_at d n).limits.up)) (high_among_by t s n)

  unfoldable pub low_by : ℕ → ℕ → ℕ
  low_by t s = low_among_by t s (role_count d)

  unfoldable pub high_by : ℕ → ℕ → ℕ
  high_by t s = high_among_by t s (role_count d)

  -- ---- rule 7, by association: the column of a target counts the sources of its links

  unfoldable pub is_counted : ℕ → Bool
  is_counted j = both (ltb j (length d.associations)) (either (counted_right (association_at d j).arrow) (counted_left (association_at d j).arrow))

  -- the end that the counted links go to
  unfoldable pub counted_end : ℕ → ℕ
  counted_end j = cond (counted_right (association_at d j).arrow) (j * 2 + 1) (j * 2)

  unfoldable pub column_slot : ℕ → ℕ
  column_slot j = cond (is_counted j) (slot_by (counted_end j)) 0

  -- an object of type t is a source that counts, a target that is asked
  unfoldable pub column_from : ℕ → ℕ → Bool
  column_from j t = both (is_counted j) (counts_as (end_at d (opposite d (counted_end j))).type t)

  unfoldable pub column_to : ℕ → ℕ → Bool
  column_to j t = both (is_counted j) (counts_as (end_at d (counted_end j)).type t)

  unfoldable pub column_low : ℕ → ℕ
  column_low j = least (end_at d (opposite d (counted_end j))).limits.low

  unfoldable pub column_high : ℕ → ℕ
  column_high j = most (end_at d (opposite d (counted_end j))).limits.up

  -- ---- rule 8, by association

  unfoldable pub is_mirror : ℕ → Bool
  is_mirror j = both (ltb j (length d.associations)) (mirrors (association_at d j).arrow)

  unfoldable pub mirror_right : ℕ → ℕ
  mirror_right j = cond (is_mirror j) (slot_by (j * 2 + 1)) 0

  unfoldable pub mirror_left : ℕ → ℕ
  mirror_left j = cond (is_mirror j) (slot_by (j * 2)) 0

  unfoldable pub mirror_from : ℕ → ℕ → Bool
  mirror_from j t = both (is_mirror j) (counts_as (association_at d j).left.type t)

  unfoldable pub mirror_to : ℕ → ℕ → Bool
  mirror_to j t = both (is_mirror j) (counts_as (association_at d j).right.type t)

  -- ---- rule 9, by association

  unfoldable pub is_composed : ℕ → Bool
  is_composed j = both (ltb j (length d.associations)) (is_composition (association_at d j))

  unfoldable pub whole_slot : ℕ → ℕ
  whole_slot j = cond (is_composed j) (slot_by (j * 2 + 1)) 0

  unfoldable pub whole_from : ℕ → ℕ → Bool
  whole_from j t = both (is_composed j) (counts_as (association_at d j).left.type t)

  unfoldable pub whole_to : ℕ → ℕ → Bool
  whole_to j t = both (is_composed j) (counts_as (association_at d j).right.type t)
