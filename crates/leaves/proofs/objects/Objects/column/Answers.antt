-- `column` meets its contract: target by target.
-- Assumes nothing.
use Prim.Native.Nat.{ℕ}
use native.Mathlib.Omega.{arith}
use borrow.Author.Rules.{rules}
use borrow.Author.Tests.{tests}
use mathlib.Core.Bool.{cond}
use mathlib.Core.Path.{◌≡◌, refl}
use Rattle.laws.specs.Bits.{bit}
use Rattle.link_search.specs.Families.{no_limits}
use Rattle.link_search.specs.declared.asked.Limits.{Limits}
use Rattle.leaves.proofs.MadeLaws.{entry-made}
use Rattle.leaves.proofs.objects.Objects.column.Goals as goal

-- the limits of target p
abbrev One : ℕ → Limits → ℕ → Limits → Type 0
One asked l p r = (r.low ≡ cond (bit p asked) l.low 0) × (r.high ≡ cond (bit p asked) l.high 8)

pub returns : goal.returns
returns c =
    let a = c.args in
    let f = entry-made no_limits (One a.asked a.limits) (λ x b q h k. search (rules, tests)) (omega arith) c.from_fn.ensures.items in
    record { slot-is = refl; from-are = c.among.ensures; low = λ p h. (f p h).0; high = λ p h. (f p h).1 }
