use Rattle.std.proofs.Common.{arith, rules}
use Rattle.text_checks.proofs.TakenLaws.{taken-begin, taken-done, taken-full, taken-pass, taken-push, type-short}
use Rattle.text_checks.proofs.push_types_of.Goals as goal
use Rattle.text_checks.proofs.push_types_of.Goals.{else-not-has, then-not-has}

pub loop-i-init : goal.loop-i-init
loop-i-init c = search (rules, taken-begin)

pub returns-then-names-eq13 : goal.returns-then-names-eq13
returns-then-names-eq13 c = search (rules, taken-full)

pub push-requires : goal.push-requires
push-requires c = (omega (arith, c.loop-i.invariant.few), search (rules, type-short))

pub loop-i-preserved : goal.loop-i-preserved
loop-i-preserved c =
    let i = c.loop-i.invariant in
    let w = c.attribute_type-w.ensures in
    let f = c.has.ensures in
    elim c.if-not-has.branch [
      | then-not-has b ↦ rw b.names-is (taken-push i c.requires.1.0 (search rules) c.if-names-eq13.false w f b.if-not-has.true b.push.ensures.1 b.push.ensures.0)
      | else-not-has b ↦ rw b.names-is (taken-pass i c.requires.1.0 (search rules) c.if-names-eq13.false w f b.if-not-has.false)
    ]

pub returns : goal.returns
returns c = search (rules, taken-done)
