-- `is_stuck` meets its contract: nothing found among the seeds alone.
-- Assumes nothing.
use mathlib.Core.Bool.{false, not}
use mathlib.Core.Path.{◌∙◌, ap, subst, sym}
use lib.ListN.{replicate}
use Rattle.std.specs.Prelude.{is_some}
use Rattle.growing.specs.Growth.{Ended}
use Rattle.worlds.specs.Asked.{Sane, Solution, world_built}
use Rattle.worlds.specs.Coherent.{Slotted}
use Rattle.worlds.specs.Kept.{sheet}
use Rattle.worlds.specs.declared.Lines.{Lines}
use Rattle.worlds.specs.declared.Query.{Query}
use Rattle.relaxing.specs.Relaxed.{freed}
use Rattle.relaxing.proofs.CutLaws.{slotted-unforced, sane-freed, stuck}
use Rattle.relaxing.proofs.is_stuck.Goals as goal

pub ends-requires : goal.ends-requires
ends-requires c = (
  subst Slotted (sym c.without_lows.ensures) (slotted-unforced c.args.lines.now c.requires.0),
  subst Sane (sym c.without_least.ensures) (sane-freed c.args.q.now c.requires.1),
  c.requires.1.few,
)

pub returns : goal.returns
returns c =
    let a = c.args in
    let m = world_built a.q.now.seeds c.ends.result in
    let ok = is_some c.ends.result in
    λ t singles n lows. stuck (sheet a.usable singles a.targets.now lows a.highs.now a.lines.now) a.q.now a.types.at m c.requires.1
    (subst (λ (y : Lines). Ended (Solution (sheet a.usable 0 a.targets.now (replicate 768 0) a.highs.now y) (freed a.q.now) a.q.now.seeds) a.types.at a.q.now.seeds false ok m) c.without_lows.ensures
    (subst (λ (y : Query). Ended (Solution (sheet a.usable 0 a.targets.now (replicate 768 0) a.highs.now c.without_lows.result) y a.q.now.seeds) a.types.at a.q.now.seeds false ok m) c.without_least.ensures c.ends.ensures))
    (c.is_none.ensures ∙ ap not t) n
