-- `links` meets its contract, by the number of open bits: a law for each way out.
-- Assumes nothing.
use native.Mathlib.Omega.{arith}
use borrow.Author.Rules.{rules}
use mathlib.Core.Path.{sym, ◌∙◌}
use Rattle.link_search.specs.Families.{Fits}
use Rattle.link_search.specs.Answers.{Wanted}
use Rattle.link_search.proofs.NetLaws.{tried, try-falls, try-long, try-long-may, again-falls, again-long, again-long-may, answer-none}
use Rattle.link_search.proofs.+links.Goals as goal

pub links-requires : goal.links-requires
links-requires t c =
    let a = c.args in
    let b = a.bounds.now in
    let s : Wanted b.may c.in-Some.spot = rw c.in-Some.is at c.in_ok-spot.ensures in
    let w = tried b.must b.may c.in-Some.spot s c.requires.0 c.requires.1 c.with.ensures c.without.ensures in
    let R = Fits a.net.now in
    let f = try-falls R w in
    (search (rules, f), (try-long R w, try-long-may R w))

pub links-requires-2 : goal.links-requires-2
links-requires-2 t c =
    let a = c.args in
    let b = a.bounds.now in
    let s : Wanted b.may c.in-Some.spot = rw c.in-Some.is at c.in_ok-spot.ensures in
    let w = tried b.must b.may c.in-Some.spot s c.requires.0 c.requires.1 c.with.ensures c.without.ensures in
    let R = Fits a.net.now in
    let e = sym c.is_ok.ensures.value ∙ c.if-is_ok.false in
    let f = again-falls R w c.links.ensures e in
    (omega (arith, f), (again-long R w c.links.ensures e, again-long-may R w c.links.ensures e))

pub returns : goal.returns
returns t c =
    let a = c.args in
    let b = a.bounds.now in
    let s : Wanted b.may c.in-Some.spot = rw c.in-Some.is at c.in_ok-spot.ensures in
    let w = tried b.must b.may c.in-Some.spot s c.requires.0 c.requires.1 c.with.ensures c.without.ensures in
    answer-none (Fits a.net.now) w c.links.ensures (sym c.is_ok.ensures.value ∙ c.if-is_ok.false) c.links-2.ensures (sym c.is_ok-2.ensures.value ∙ c.if-is_ok-2.false)
