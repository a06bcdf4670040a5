-- `look_mirrors` meets its contract: what a mirror rules out, no net between has.
-- Assumes nothing.
use Prim.Native.Nat.{◌<◌}
use mathlib.Core.List.{[]}
use mathlib.Core.Path.{subst}
use Rattle.std.proofs.lemmas.List.{get_or_default}
use native.Mathlib.Omega.{arith}
use Rattle.link_search.specs.Families.{MirrorKept, Mirrors, mirror_in}
use Rattle.link_search.specs.declared.asked.Mirror.{Mirror}
use Rattle.link_search.proofs.SeenLaws.{looked-err}
use Rattle.link_search.proofs.mirrors.look_mirrors.Goals as goal

pub returns-in_err-spot : goal.returns-in_err-spot
returns-in_err-spot c =
    let a = c.args in
    looked-err (Mirrors a.mirrors.now) a.bounds.now.must a.bounds.now.may c.from_residual.result c.from_residual.ensures.0
    (λ w b ok.
    let j = c.loop-mirror.mirror-index in
    let l : j < 16 = omega (arith, c.loop-mirror-test.true, c.told-mirrors) in
    c.in_err-spot.ensures w b (subst (λ (x : Mirror). MirrorKept x w) (get_or_default a.mirrors.now j (mirror_in [] 0) _ (omega arith)) (ok.at j l)))
