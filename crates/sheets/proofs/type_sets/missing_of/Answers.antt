use Prim.Native.Nat.{ℕ}
use mathlib.Core.Path.{◌≡◌, refl}
use borrow.Author.Rules.{rules}
use borrow.Author.Tests.{tests}
use Rattle.laws.specs.Bits.{bit}
use Rattle.laws.specs.Bounded.{any}
use Rattle.laws.proofs.RangeLaws.{fold-range}
use Rattle.sheets.proofs.TypeSetLaws.{joined-begin, joined-next}
use Rattle.sheets.specs.MasksBy.{missing_in}
use Rattle.sheets.proofs.type_sets.missing_of.Goals as goal

pub returns : goal.returns
returns c =
    let x = c.args.ends.now in
    let missing : ℕ → ℕ = missing_in x.sets x.asked.now.arrows x.slots x.asked.now.lows in
    let all : (t : ℕ) → bit t c.fold.result ≡ any (λ e. bit t (missing e)) c.count.result
    = fold-range (λ i m. (t : ℕ) → bit t m ≡ any (λ e. bit t (missing e)) i) c.count.result (λ i m r q l p k. (search (rules, tests), joined-next missing i m r (search (rules, tests)) p)) c.fold.ensures.ran refl (joined-begin missing) in
    rw c.count.ensures at all
