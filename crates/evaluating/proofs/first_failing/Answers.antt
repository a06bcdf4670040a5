use mathlib.Core.Bool.{not}
use mathlib.Core.Path.{refl, ◌∙◌}
use borrow.Author.Rules.{rules}
use borrow.Author.Tests.{tests}
use Rattle.laws.proofs.RangeLaws.{first-range}
use Rattle.rules.specs.Evaluate.{holds}
use Rattle.memory_rules.specs.SiteIn.{site_in}
use Rattle.entries.specs.View.{entry_in}
use Rattle.evaluating.proofs.KnownLaws.{failing-is, first-fails}
use Rattle.evaluating.proofs.first_failing.Goals as goal

pub returns : goal.returns
unfolding entry_in
returns c = λ d m j.
    let e = c.args.e.now in
    failing-is d (site_in d m) e
    (c.unwrap_or.ensures
    ∙ first-range (λ k. not (holds d (site_in d m) (entry_in e k))) e.number c.find.result c.find.new.self c.find.ensures.ran refl (λ x b q k. search (rules, tests))
    ∙ first-fails (λ k. holds d (site_in d m) (entry_in e k)) e.number)
