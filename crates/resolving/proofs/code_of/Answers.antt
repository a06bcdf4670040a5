use borrow.Author.Rules.{rules}
use borrow.Author.Tests.{tests}
use mathlib.Core.Path.{◌≡◌, refl, sym, subst, ◌∙◌}
use Prim.Native.Nat.{ℕ, ◌≤◌}
use Rattle.laws.specs.Bounded.{first}
use Rattle.laws.proofs.FirstLaws.{first-le}
use Rattle.laws.proofs.RangeLaws.{first-range}
use Rattle.resolving.specs.Lookup.{is_code_in}
use Rattle.resolving.proofs.code_of.Goals as goal

pub returns : goal.returns
returns c =
    let p = is_code_in c.args.names.now c.args.sizes.now c.args.constants.now c.args.n c.args.t.now c.args.c.now in
    let e : c.unwrap_or.result ≡ first p 96 =
    c.unwrap_or.ensures ∙ first-range p 96 c.find.result c.find.new.self c.find.ensures.ran refl (λ x b q k. search (rules, tests)) in
    (e, subst (λ (r : ℕ). r ≤ 96) (sym e) (first-le p 96))
