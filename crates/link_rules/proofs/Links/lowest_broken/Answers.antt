use mathlib.Core.Path.{◌≡◌}
use Rattle.laws.proofs.SearchLaws.{chain}
use Rattle.memory_rules.specs.SiteIn.{site_in}
use Rattle.rules.specs.LinkRules.{rule6, rule7, rule8}
use Rattle.rules.specs.WholeRule.{rule9}
use Rattle.link_rules.proofs.Links.lowest_broken.Goals as goal

pub returns-then-not-rule6 : goal.returns-then-not-rule6
returns-then-not-rule6 c = λ d m h.
    let e6 : c.rule6.result ≡ rule6 d (site_in d m) = c.rule6.ensures.1 d m h in
    search chain depth 14 fits 20000

pub returns-then-not-rule7 : goal.returns-then-not-rule7
returns-then-not-rule7 c = λ d m h.
    let e6 : c.rule6.result ≡ rule6 d (site_in d m) = c.rule6.ensures.1 d m h in
    let e7 : c.rule7.result ≡ rule7 d (site_in d m) = c.rule7.ensures.1 d m h in
    search chain depth 14 fits 20000

pub returns-then-not-rule8 : goal.returns-then-not-rule8
returns-then-not-rule8 c = λ d m h.
    let e6 : c.rule6.result ≡ rule6 d (site_in d m) = c.rule6.ensures.1 d m h in
    let e7 : c.rule7.result ≡ rule7 d (site_in d m) = c.rule7.ensures.1 d m h in
    let e8 : c.rule8.result ≡ rule8 d (site_in d m) = c.rule8.ensures.1 d m h in
    search chain depth 14 fits 20000

pub returns-then-not-rule9 : goal.returns-then-not-rule9
returns-then-not-rule9 c = λ d m h.
    let e6 : c.rule6.result ≡ rule6 d (site_in d m) = c.rule6.ensures.1 d m h in
    let e7 : c.rule7.result ≡ rule7 d (site_in d m) = c.rule7.ensures.1 d m h in
    let e8 : c.rule8.result ≡ rule8 d (site_in d m) = c.rule8.ensures.1 d m h in
    let e9 : c.rule9.result ≡ rule9 d (site_in d m) = c.rule9.ensures.1 d m h in
    search chain depth 14 fits 20000

pub returns : goal.returns
returns c = λ d m h.
    let e6 : c.rule6.result ≡ rule6 d (site_in d m) = c.rule6.ensures.1 d m h in
    let e7 : c.rule7.result ≡ rule7 d (site_in d m) = c.rule7.ensures.1 d m h in
    let e8 : c.rule8.result ≡ rule8 d (site_in d m) = c.rule8.ensures.1 d m h in
    let e9 : c.rule9.result ≡ rule9 d (site_in d m) = c.rule9.ensures.1 d m h in
    search chain depth 14 fits 20000
