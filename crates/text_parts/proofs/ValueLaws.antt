-- The value of a run of digits, capped: the digits before may be capped at each step, since ten times a number that reaches the cap
-- reaches it too.
-- Assumes nothing.
use Prim.Native.Nat.{ℕ, ◌*◌, ◌+◌, ◌-◌}
use mathlib.Core.List.{List, [], ◌∷◌}
use mathlib.Core.Path.{◌≡◌, ap, sym, ◌∙◌}
use native.Mathlib.Omega.{arith}
use Rattle.std.specs.List.{fold}
use Rattle.texts.specs.Declaration.{value, value_from}
use Rattle.text_parts.specs.Ends.{capped}

abbrev capped_from : ℕ → List ℕ → ℕ
capped_from v w = capped (value_from v w)

from-capped : (v : ℕ) (w : List ℕ) → capped_from v w ≡ capped_from (capped v) w
unfolding value_from
from-capped v [] = omega arith
from-capped v (x ∷ w) =
    let e : capped (v * 10 + (x - 0x30)) ≡ capped (capped v * 10 + (x - 0x30)) = omega arith in
    from-capped (v * 10 + (x - 0x30)) w ∙ ap (λ (u : ℕ). capped_from u w) e ∙ sym (from-capped (capped v * 10 + (x - 0x30)) w)

-- one digit more, as the code has it
abbrev pub digit_on : ℕ → ℕ → ℕ
digit_on v b = capped (capped v * 10 + (b - 48))

folded : (w : List ℕ) (v : ℕ) → v ≡ capped v → fold digit_on v w ≡ capped_from v w
unfolding value_from
folded [] v h = h
folded (x ∷ w) v h =
    let e : digit_on v x ≡ capped (v * 10 + (x - 0x30)) = omega arith in
    folded w (digit_on v x) (omega arith) ∙ ap (λ (u : ℕ). capped_from u w) e ∙ sym (from-capped (v * 10 + (x - 0x30)) w)

pub value-folded : (w : List ℕ) → fold digit_on 0 w ≡ capped (value w)
unfolding value
value-folded w = folded w 0 (omega arith)
