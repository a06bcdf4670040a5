-- Types are numbers below 24.
-- Assumes nothing.
use Prim.Native.Nat.{ℕ, ◌*◌, ◌+◌}
use mathlib.Core.Path.{◌≡◌, ap, ◌∙◌}
use native.Mathlib.Omega.{arith}
use lib.ListN.{get_or}
use Rattle.worlds.proofs.Types.row.Goals as goal

pub returns : goal.returns
returns c =
    let a = c.args in
    let e : c.place.result ≡ get_or a.self.now.at a.o 0 * 32 + a.s = c.place.ensures ∙ ap (λ (i : ℕ). get_or a.self.now.at i 0 * 32 + a.s) c.from.ensures in
    let f = a.self.now.small a.o in
    (e, omega arith)
