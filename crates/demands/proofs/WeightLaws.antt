-- A world that is looked for begins as weights take it, so that what is lacking by weights is a need.
-- Assumes nothing.
use Rattle.std.specs.Prelude.{IfSome, Option}
use Prim.Native.Nat.{◌≤◌, ℕ}
use mathlib.Core.List.{List}
use Rattle.growing.specs.World.{World}
use Rattle.growing.specs.Demand.{extras}
use Rattle.worlds.specs.declared.Lines.{Lines}
use Rattle.worlds.specs.declared.Query.{Query}
use Rattle.worlds.specs.Asked.{Satisfies}
use Rattle.worlds.specs.Kept.{Allowed, sheet}
use Rattle.weights.specs.declared.Shortage.{Shortage}
use Rattle.weights.specs.Weigh.{Begins, Short}
use Rattle.demands.specs.declared.Start.{Start}
use Rattle.demands.specs.Wishes.{Sharpens, Started}
use Rattle.demands.proofs.NeedLaws.{sharp-from, sharp-trans}

begins : (s : Start) (w : World) → Started s w → Begins s.types.at s.k s.free w
begins s w h = record { many = h.many; known = h.known; kept = h.kept; extra = h.extra }

-- all worlds that the tables allow, whatever the usable types and the singletons are, and that the query asks for
abbrev pub Weighed : List ℕ → List ℕ → List ℕ → Lines → Query → Start → Option ℕ → Option ℕ → Type 0
Weighed targets lows highs x q s a b = (usable singles : ℕ) → Sharpens (λ w. Allowed (sheet usable singles targets lows highs x) w × Satisfies q w) s a b

-- one more way of counting
pub weigh-more : (targets lows highs : List ℕ) (x : Lines) (q : Query) (s : Start) (a b c : Option ℕ) (r : Option Shortage) → Weighed targets lows highs x q s a b
    → Short targets lows highs x q s.types.at s.k s.free r → Sharpens (λ w. IfSome r (λ x. x.c ≤ extras x.g s.k w)) s b c → Weighed targets lows highs x q s a c
weigh-more targets lows highs x q s a b c r f short g usable singles =
    sharp-trans s a b c (f usable singles) (sharp-from s b c (λ w h p. short.at usable singles w (begins s w h) p.0 p.1) g)
