use mathlib.Core.Path.{◌∙◌}
use Rattle.compiling.proofs.ByteLaws.{compiled-bytes}
use Rattle.compiling.proofs.GatherLaws.{compiled-number}
use Rattle.compiling.proofs.compile.Goals as goal

pub returns : goal.returns
returns c = let d = c.args.d.stored in
    let e = c.compile_entries-e in
    record { number = compiled-number d e.result e.ensures; list = c.list_bytes-list.ensures ∙ compiled-bytes d e.result e.ensures }
