use native.Mathlib.Omega.{arith}
use Prim.Native.Nat.{ℕ, ◌%◌}
use mathlib.Core.List.{[], ◌∷◌}
use mathlib.Core.Path.{ap, ◌∙◌}
use Rattle.fields.proofs.HeadLaws.{high-whole}
use Rattle.fields.proofs.two_bytes.Goals as goal

pub returns : goal.returns
returns c = let n = c.args.n in
    c.to_be_bytes.ensures ∙ ap (λ (high : ℕ). high ∷ n % 256 ∷ []) (high-whole n (omega arith))
