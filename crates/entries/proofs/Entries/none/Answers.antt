use mathlib.Core.Path.{ap}
use lib.ListN.{replicate}
use Rattle.rules.specs.Compile.{Entry}
use Rattle.entries.specs.declared.Entry as stored
use Rattle.entries.specs.declared.Entries.{Entries}
use Rattle.entries.specs.View.{no_entries}
use Rattle.entries.proofs.Entries.none.Goals as goal

pub returns : goal.returns
unfolding no_entries
returns c =
    let kept : Entry → stored.Entry = λ x. record { kind = x.kind; association = x.association; side = x.side; low = x.low; up = x.up } in
    let filled : stored.Entry → Entries = λ x. record { number = 0; list = replicate 64 x } in
    ap (λ (x : Entry). filled (kept x)) c.bare.ensures
