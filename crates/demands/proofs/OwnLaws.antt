-- What a query asks of its first object: a wish that the object's row or column sharpens, the query sharpens.
-- Assumes nothing.
use Rattle.std.specs.Prelude.{Option}
use Prim.Native.Nat.{◌<◌, ℕ}
use mathlib.Core.List.{List}
use Rattle.growing.specs.World.{source_count, target_count}
use Rattle.link_search.specs.Nets.{InLimits}
use Rattle.worlds.specs.declared.Query.{Query}
use Rattle.worlds.specs.Asked.{Satisfies}
use Rattle.demands.specs.declared.Start.{Start}
use Rattle.demands.specs.Wishes.{Sharpens}
use Rattle.clashes.specs.Sources.{SourcesKept}
use Rattle.demands.specs.Families.{RowsOpen}
use Rattle.demands.proofs.NeedLaws.{sharp-from, sharp-trans}

pub own-sharp : (targets sources lows highs : List ℕ) (q : Query) (s : Start) (a b c : Option ℕ) → 0 < q.seeds
    → Sharpens (λ w. RowsOpen targets lows highs q.shut w × InLimits q.row.low q.row.high (target_count w q.row.slot 0)) s a b
    → Sharpens (λ w. SourcesKept sources w × InLimits q.column.least q.column.most (source_count w q.column.slot q.column.from 0)) s b c
    → Sharpens (λ w. RowsOpen targets lows highs q.shut w × SourcesKept sources w × Satisfies q w) s a c
own-sharp targets sources lows highs q s a b c some f g =
    sharp-trans s a b c (sharp-from s a b (λ w _ h. (h.0, h.2.row some)) f) (sharp-from s b c (λ w _ h. (h.1, h.2.column some)) g)
