-- Types are numbers below 24.
-- Assumes nothing.
use Prim.Native.Nat.{ℕ}
use mathlib.Core.Path.{◌≡◌, ap, ◌∙◌}
use native.Mathlib.Omega.{arith}
use lib.ListN.{get_or}
use Rattle.worlds.proofs.Types.of.Goals as goal

pub returns : goal.returns
returns c =
    let a = c.args in
    let e : c.from-2.result ≡ get_or a.self.now.at a.o 0 = c.from-2.ensures ∙ ap (λ (i : ℕ). get_or a.self.now.at i 0) c.from.ensures in
    let f = a.self.now.small a.o in
    (e, omega arith)
