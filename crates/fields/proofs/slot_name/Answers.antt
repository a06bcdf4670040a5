use Prim.Native.Nat.{◌+◌, ◌*◌, min}
use lib.ListN.{drop, get_or, take}
use mathlib.Core.Path.{◌≡◌, ap₂, ◌∙◌}
use native.Mathlib.Omega.{arith}
use Rattle.fields.specs.Slot.{slot_name}
use Rattle.fields.proofs.slot_name.Goals as goal

pub returns : goal.returns
unfolding slot_name
returns c =
    let first : c.from.result ≡ get_or c.args.names.now (c.args.i * 17) 0 = cc in
    let size : c.min.result ≡ min 16 (get_or c.args.names.now (c.args.i * 17) 0) = omega arith in
    let behind : c.past.result.now ≡ drop (c.args.i * 17 + 1) c.args.names.now = cc in
    c.front.ensures ∙ ap₂ take size behind
