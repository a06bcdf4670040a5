use Rattle.std.proofs.Common.{◌≡◌, arith, refl, rules}
use Rattle.text_rows.specs.Noted.{unpassed}
use Rattle.text_rows.proofs.EndLaws.{behind-after, behind-is, behind-self, behind-start, continues-next, continues-self, ends-none, ends-some}
use Rattle.text_rows.proofs.RowLaws.{rest-shorter}
use Rattle.text_rows.proofs.ScanLaws.{scanned-begin, scanned-end, scanned-next, scanned-room, scanned-stop}
use Rattle.text_rows.proofs.scan_row.Goals as goal

pub loop-token-init : goal.loop-token-init
loop-token-init c =
    let none : c.default-states.result ≡ unpassed = search rules in
    record { low = omega arith; behind = behind-self _; continues = continues-self _ _; scanned = rw none (scanned-begin _) }

pub overflow_sub-at : goal.overflow_sub-at
overflow_sub-at c = (behind-is _ _ (behind-start (rw c.in-Some.is at c.next_token.ensures) c.loop-token.invariant.behind)).0

pub with_token-requires : goal.with_token-requires
with_token-requires c =
    let i = c.loop-token.invariant in
    let r = scanned-room (rw c.in-Some.is at c.next_token.ensures) i.behind i.scanned in
    rw c.from-k.ensures (omega (arith, c.well_formed.0))

pub invariant_of-result : goal.invariant_of-result
invariant_of-result c =
    let h = rw c.in-Some.is at c.next_token.ensures in
    let i = c.loop-token.invariant in
    record {
      scans = scanned-stop h i.behind i.scanned (rw (c.with_token.ensures, c.from-k.ensures)) (search rules);
      ends = ends-some h i.continues (search rules) i.behind _ refl;
    }

pub loop-token-smaller : goal.loop-token-smaller
loop-token-smaller c = rest-shorter (rw c.in-Some.is at c.next_token.ensures)

pub loop-token-preserved : goal.loop-token-preserved
loop-token-preserved c =
    let h = rw c.in-Some.is at c.next_token.ensures in
    let i = c.loop-token.invariant in
    record {
      low = c.in-Some.token.state.in_table;
      behind = behind-after h i.behind;
      continues = continues-next h i.continues (search rules);
      scanned = scanned-next h i.behind i.scanned (rw (c.with_token.ensures, c.from-k.ensures)) (search rules);
    }

pub invariant_of-result-2 : goal.invariant_of-result-2
invariant_of-result-2 c =
    let i = c.loop-token.invariant in
    let none = rw c.in_default.is at c.next_token.ensures in
    record {
      scans = scanned-end _ _ none i.scanned;
      ends = ends-none _ _ _ _ i.continues none;
    }

pub invariant_of-state : goal.invariant_of-state
invariant_of-state c = record { in_table = c.loop-token.invariant.low }
