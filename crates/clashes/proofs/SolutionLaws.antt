-- What a solution keeps, and how a property that all solutions have refutes a query.
-- Assumes nothing.
use Prim.Native.Nat.{◌<◌, ℕ}
use mathlib.Core.List.{List}
use mathlib.Core.Path.{◌∙◌}
use Rattle.growing.specs.World.{World}
use Rattle.growing.specs.Growth.{Extends, Nowhere}
use Rattle.worlds.specs.declared.Query.{Query}
use Rattle.worlds.specs.Asked.{Solution}
use Rattle.worlds.specs.Coherent.{SourceTable}
use Rattle.worlds.specs.Kept.{Sheet}
use Rattle.clashes.specs.Sources.{SourcesKept}
use Rattle.clashes.specs.Refuted.{Begun, BitsKept, Refuted}
use Rattle.clashes.specs.Clashes.{FirstColumn}

module _ (x : Sheet) (q : Query) (n : ℕ) where
  -- the table of sources is the table of targets, turned
  pub sources-kept : (sources : List ℕ) → SourceTable x.targets sources → (w : World) → Solution x q n w → SourcesKept sources w
  sources-kept sources turned w s = record {
    at = λ i o p l a b h. turned.at (w.kind o) i (w.kind p) (s.allowed.known o a) l (s.allowed.known p b) ∙ s.allowed.rows.allowed i o p l a b h;
  }

  begun : (types : List ℕ) (forb : ℕ) (w : World) → Extends types q.seeds forb n w → Solution x q n w → Begun types q.seeds w
  begun types forb w e s = record { many = e.many; eight = s.allowed.few; known = s.allowed.known; kept = e.kept }

  pub nowhere-by : (types : List ℕ) (forb : ℕ) (P : World → Type 0) → ((w : World) → Solution x q n w → P w) → Refuted P types q.seeds
      → Nowhere (Solution x q n) types q.seeds forb n
  nowhere-by types forb P f r w e s = r.at w (begun types forb w e s) (f w s)

  pub bits-kept : (w : World) → Solution x q n w → BitsKept q.must q.shut w
  bits-kept w s = record { must-stand = s.asked.must; must-not = s.asked.shut }

  pub first-column : (sources : List ℕ) → SourceTable x.targets sources → 0 < q.seeds → (w : World) → Solution x q n w
      → FirstColumn x.targets sources x.lows x.highs x.lines q.column.slot q.column.from q.column.least q.column.most w
  first-column sources turned some w s = record {
    rows = s.allowed.rows;
    back = sources-kept sources turned w s;
    columns = s.allowed.columns;
    mirrors = s.allowed.mirrors;
    wholes = s.allowed.wholes;
    within = s.asked.column some;
  }
