use Rattle.std.proofs.Common.{arith, rules}
use Rattle.text_checks.proofs.CollectedLaws.{collected-begin, collected-done, collected-full, collected-pass, collected-push, name-short}
use Rattle.text_checks.proofs.names_of_kind.Goals as goal
use Rattle.text_checks.proofs.names_of_kind.Goals.{else-is_kind, then-is_kind}

pub loop-k-init : goal.loop-k-init
loop-k-init c = search (rules, collected-begin)

pub returns-then-names-most : goal.returns-then-names-most
returns-then-names-most c = search (rules, collected-full)

pub push-requires : goal.push-requires
push-requires c = (search rules, search (rules, name-short))

pub loop-k-preserved : goal.loop-k-preserved
loop-k-preserved c =
    let i = c.loop-k.invariant in
    elim c.if-is_kind.branch [
      | then-is_kind b ↦ rw b.names-is (omega (arith, i.0, c.if-names-most.false, b.push.ensures.0), collected-push _ _ _ _ i.1 c.is_kind.ensures b.if-is_kind.true b.name.ensures b.push.ensures.1)
      | else-is_kind b ↦ rw b.names-is (i.0, collected-pass _ _ _ _ i.1 c.is_kind.ensures b.if-is_kind.false)
    ]

pub returns : goal.returns
returns c = search (rules, collected-done)
