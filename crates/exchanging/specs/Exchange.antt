-- Two objects of a site exchange their numbers. No rule speaks of a number, so that no judgement changes.
-- Assumes nothing.
use Rattle.std.specs.Prelude.{◌<◌, ℕ, ◌≡◌}
use Rattle.laws.specs.Swap.{swap}
use Rattle.files.specs.Diagram.{Diagram}
use Rattle.files.specs.Record.{Link, Value}
use Rattle.rules.specs.Judge.{lowest_broken}
use Rattle.rules.specs.LinkRules.{rule5, rule6, rule7, rule8}
use Rattle.rules.specs.Site.{Site}
use Rattle.rules.specs.TypeRules.{rule1, rule2}
use Rattle.rules.specs.ValueRules.{rule3, rule4}
use Rattle.rules.specs.WholeRule.{rule9}

-- a value and a link, their objects exchanged
abbrev pub exchanged_value : ℕ → ℕ → Value → Value
exchanged_value i j v = record { object = swap i j v.object; attribute = v.attribute; value_type = v.value_type; constant = v.constant }

abbrev pub exchanged_link : ℕ → ℕ → Link → Link
exchanged_link i j k = record { from = swap i j k.from; role = k.role; to = swap i j k.to }

-- a site in which i is what j was, and j what i was. A value or a link of it is one of the site with its objects exchanged.
abbrev pub exchanged : ℕ → ℕ → Site → Site
exchanged i j x = record {
  count = x.count;
  typed = λ o w. x.typed (swap i j o) w;
  valued = λ o w. x.valued (swap i j o) w;
  linked = λ o w p. x.linked (swap i j o) w (swap i j p);
  each_value = λ test. x.each_value (λ v. test (exchanged_value i j v));
  each_link = λ test. x.each_link (λ k. test (exchanged_link i j k));
}

-- each of the nine rules says the same of two sites
pub record SameRules (d : Diagram) (x y : Site) : Type 0 where
  pub first : rule1 d x ≡ rule1 d y
  pub second : rule2 d x ≡ rule2 d y
  pub third : rule3 d x ≡ rule3 d y
  pub fourth : rule4 d x ≡ rule4 d y
  pub fifth : rule5 d x ≡ rule5 d y
  pub sixth : rule6 d x ≡ rule6 d y
  pub seventh : rule7 d x ≡ rule7 d y
  pub eighth : rule8 d x ≡ rule8 d y
  pub ninth : rule9 d x ≡ rule9 d y

-- ---- what is proved (proofs/ExchangeLaws): exchanging two objects of a site changes no rule's answer, and no judgement

abbrev pub ExchangeKeepsRules : Type 0
ExchangeKeepsRules = (d : Diagram) (x : Site) (i j : ℕ) → i < x.count → j < x.count → SameRules d (exchanged i j x) x

abbrev pub ExchangeKeeps : Type 0
ExchangeKeeps = (d : Diagram) (x : Site) (i j : ℕ) → i < x.count → j < x.count → lowest_broken d (exchanged i j x) ≡ lowest_broken d x
