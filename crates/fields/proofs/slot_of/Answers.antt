use borrow.Author.Rules.{rules}
use borrow.Author.Tests.{tests}
use mathlib.Core.Path.{◌≡◌, refl, sym, subst, ◌∙◌}
use Prim.Native.Nat.{ℕ, ◌≤◌}
use Rattle.files.specs.Name.{same_name}
use Rattle.laws.proofs.FirstLaws.{first-le}
use Rattle.laws.proofs.RangeLaws.{first-range}
use Rattle.fields.specs.Slot.{slot_name, slot_of}
use Rattle.fields.proofs.slot_of.Goals as goal

pub returns : goal.returns
unfolding slot_of
returns c =
    let p = λ (i : ℕ). same_name (slot_name c.args.names.now i) c.args.w.now in
    let e : c.unwrap_or.result ≡ slot_of c.args.names.now c.args.k c.args.w.now =
    c.unwrap_or.ensures ∙ first-range p c.args.k c.find.result c.find.new.self c.find.ensures.ran refl (λ x b q k. search (rules, tests)) in
    (e, subst (λ (r : ℕ). r ≤ c.args.k) (sym e) (first-le p c.args.k))
