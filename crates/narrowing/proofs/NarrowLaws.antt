-- A sheet with a narrower table of targets allows the same worlds.
-- Assumes nothing.
use Prim.Native.Nat.{◌*◌, ◌+◌, ℕ}
use mathlib.Core.List.{List}
use native.Mathlib.Omega.{arith}
use Rattle.growing.specs.World.{World}
use Rattle.worlds.specs.Kept.{Allowed, Sheet, sheet}
use Rattle.narrowing.specs.Narrow.{Narrows}

module _ (x : Sheet) (r : List ℕ) (n : Narrows x r) (w : World) where
  abbrev pub narrow : Sheet
  narrow = sheet x.usable x.singles r x.lows x.highs x.lines

  pub to_narrow : Allowed x w → Allowed narrow w
  to_narrow a = record {
    few = a.few;
    past = a.past;
    inside = a.inside;
    known = a.known;
    usable = a.usable;
    singles = a.singles;
    rows = record { allowed = n.kept w a; limited = a.rows.limited };
    columns = a.columns;
    mirrors = a.mirrors;
    wholes = a.wholes;
  }

  pub from-narrow : Allowed narrow w → Allowed x w
  from-narrow a = record {
    few = a.few;
    past = a.past;
    inside = a.inside;
    known = a.known;
    usable = a.usable;
    singles = a.singles;
    rows = record {
      allowed = λ s o p ls lo lp e. n.less (w.kind o * 32 + s) (w.kind p) (let k = a.known o lo in omega arith) (a.rows.allowed s o p ls lo lp e);
      limited = a.rows.limited;
    };
    columns = a.columns;
    mirrors = a.mirrors;
    wholes = a.wholes;
  }
