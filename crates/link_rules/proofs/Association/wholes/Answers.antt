use Prim.Native.Nat.{◌*◌, ◌+◌}
use native.Mathlib.Omega.{arith}
use mathlib.Core.Path.{◌≡◌}
use borrow.Author.Tests.{ne_eqb, eq-eqb}
use Rattle.link_rules.proofs.WholeLaws.{whole-none, whole-some}
use Rattle.link_rules.proofs.Association.wholes.Goals as goal

pub returns-then-self-ne1 : goal.returns-then-self-ne1
returns-then-self-ne1 c = whole-none _ _ _ _ _ _ _ (search ne_eqb)

pub returns : goal.returns
returns c =
    let left : c.source.result ≡ c.args.self.now.index * 2 = omega arith in
    let right : c.target.result ≡ c.args.self.now.index * 2 + 1 = omega arith in
    let f = c.role.ensures in
    whole-some _ _ _ _ _ _ _ _ (search eq-eqb) (rw right at f.slot) (rw left at f.from) (rw right at f.to) (rw (f.links, f.count) at c.wholes_by.ensures)
