use Prim.Native.Nat.{ℕ}
use mathlib.Core.Path.{◌∙◌, ap}
use Rattle.laws.specs.Bits.{bit}
use Rattle.sheets.proofs.TypeSetLaws.{missing-is}
use Rattle.sheets.proofs.single_missing.Goals as goal

pub returns : goal.returns
returns c =
    c.has.ensures ∙ ap (λ (i : ℕ). bit i c.singles_by.result) c.from.ensures ∙ missing-is c.args.by.now.old.now.stored c.args.by.now.new.now.stored c.singles_by.result c.singles_by.ensures
