-- Two lines each, the one with both arrowheads in one diagram and the other in the other: no difference, whichever is old.
-- Assumes nothing.
use Prim.Native.Nat.{ℕ}
use native.Mathlib.Omega.{arith}
use mathlib.Core.List.{[], ◌∷◌}
use mathlib.Core.Option.{some}
use mathlib.Core.Path.{◌≡◌, refl}
use Rattle.files.specs.Diagram.{Association, Diagram, at_most}
use Rattle.files.specs.Name.{Name}
use Rattle.rules.specs.Heads.{all_headed, headed, headed_at}
use Rattle.steps.specs.Bench.{Bench, Compare, Outcome, no_difference}
use Rattle.steps.specs.Step.{Step}
use Rattle.steps.proofs.Demands.{same-heads}

-- from type 0 to type 1, 0..1 at both ends
abbrev line : ℕ → Name → Name → Association
line arrow left right = record {
  form = 0;
  arrow = arrow;
  left = record { type = 0; limits = record { low = 0; up = at_most 1 }; role = left };
  right = record { type = 1; limits = record { low = 0; up = at_most 1 }; role = right };
}

-- classes A, B; A [0..1] a .. b [0..1] B and A [0..1] c .. d [0..1] B
abbrev two_lines : ℕ → ℕ → Diagram
two_lines one other = record {
  value_types = [];
  types = record { kind = 0; name = 0x41 ∷ []; parents = [] } ∷ record { kind = 0; name = 0x42 ∷ []; parents = [] } ∷ [];
  attributes = [];
  associations = line one (0x61 ∷ []) (0x62 ∷ []) ∷ line other (0x63 ∷ []) (0x64 ∷ []) ∷ [];
}

pub crossed : (b : Bench) → b.old ≡ some (two_lines 3 4) → b.new ≡ some (two_lines 4 3) → (o : Outcome) → Step b (Compare 8) o → o.reply ≡ no_difference
unfolding all_headed headed_at headed
crossed b eo en = same-heads b (two_lines 3 4) (two_lines 4 3) eo en refl 8 (omega arith)

pub crossed-back : (b : Bench) → b.old ≡ some (two_lines 4 3) → b.new ≡ some (two_lines 3 4) → (o : Outcome) → Step b (Compare 8) o → o.reply ≡ no_difference
unfolding all_headed headed_at headed
crossed-back b eo en = same-heads b (two_lines 4 3) (two_lines 3 4) eo en refl 8 (omega arith)
