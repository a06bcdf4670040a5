-- 01 "The bench", 02 1/12 and 4/12: what a call changes. "No call changes a part of the bench that these papers don't say it changes."
-- Assumes nothing.
use Rattle.std.specs.Prelude.{ℕ, Bool, ◌&&◌, false, not, true, List, [], eqb}
use Rattle.std.proofs.Math.Option.{Option, none, some}
use Rattle.steps.specs.Bench.{Call, Clear, Compare, Compile, Convert, Evaluate, HandOut, Judge, Load, LoadText, Reply, is_refusal}

-- the parts of a bench
pub data Part : Type 0 where
  old_place : Part
  new_place : Part
  witness : Part

-- the parts that an accepted call may change, and what the buffer holds that it is lent, if it is lent one
pub record Effect : Type 0 where
  pub on : Part → Bool
  pub lends : Option (List ℕ)

-- "leave the bench as it came"
abbrev pub nowhere : Part → Bool
nowhere x = false

-- "the witness is dropped", and "load and clear leave the other place as it was"
abbrev pub at_place : ℕ → Part → Bool
at_place p old_place = eqb p 0
at_place p new_place = not (eqb p 0)
at_place p witness = true

-- "compare changes only the witness"
abbrev pub at_witness : Part → Bool
at_witness old_place = false
at_witness new_place = false
at_witness witness = true

unfoldable pub effect : Call → Effect
effect (Load p file) = record { on = at_place p; lends = none }
effect (Clear p) = record { on = at_place p; lends = none }
effect (Judge p file) = record { on = nowhere; lends = none }
effect (Compile p) = record { on = nowhere; lends = none }
effect (Evaluate p file) = record { on = nowhere; lends = none }
effect (Compare bound) = record { on = at_witness; lends = none }
effect (HandOut buffer) = record { on = nowhere; lends = some buffer }
effect (LoadText p text) = record { on = at_place p; lends = none }
effect (Convert file buffer) = record { on = nowhere; lends = some buffer }

-- a refusal changes nothing
unfoldable pub changes : Call → Reply → Part → Bool
changes c reply x = not (is_refusal reply) && (effect c).on x

-- what the lent buffer holds before the call; [] where none is lent
abbrev pub bytes_of : Option (List ℕ) → List ℕ
bytes_of none = []
bytes_of (some buffer) = buffer

unfoldable pub lent : Call → List ℕ
lent c = bytes_of (effect c).lends
