-- The mirrors that were passed hold by what must stand.
use Prim.Native.Nat.{ℕ, ◌<◌}
use Rattle.link_search.specs.Nets.{net_of}
use Rattle.link_search.specs.Families.{MirrorKept, mirror_in}
use Rattle.link_search.proofs.mirrors.look_mirrors.Given as goal

abbrev pub invariant-loop-mirror : goal.invariant-loop-mirror
invariant-loop-mirror l = (j : ℕ) → j < l.mirror-index → MirrorKept (mirror_in l.mirrors j) (net_of l.bounds.must)
