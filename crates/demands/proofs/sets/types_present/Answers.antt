-- `sets::types_present` meets its contract: one object after the other.
-- Assumes nothing.
use Prim.Native.Nat.{ℕ}
use mathlib.Core.Path.{◌≡◌, refl}
use borrow.Author.Rules.{rules}
use borrow.Author.Tests.{tests}
use Rattle.laws.specs.Bits.{bit}
use Rattle.laws.proofs.RangeLaws.{fold-range}
use Rattle.demands.specs.Wishes.{present}
use Rattle.demands.proofs.SetLaws.{present-begin, present-more}
use Rattle.demands.proofs.sets.types_present.Goals as goal

pub returns : goal.returns
returns c =
    let types = c.args.types.now.at in
    fold-range (λ i m. (t : ℕ) → bit t m ≡ present types i t) c.args.k (λ i m r q l p k. (search (rules, tests), present-more types i m r p (λ t. search (rules, tests)))) c.fold.ensures.ran refl (present-begin types)
