use Prim.Native.Nat.{ℕ}
use mathlib.Core.List.{[], ◌∷◌}
use mathlib.Core.Path.{ap, ◌∙◌}
use Rattle.compiling.proofs.EntryLaws.{limited-none, limited-some}
use Rattle.entries.proofs.AppendLaws.{appends-as}
use Rattle.entries.specs.View.{entry_of}
use Rattle.compiling.proofs.push_limited.Goals as goal
use Rattle.compiling.proofs.push_limited.Goals.{then-up-eq65535, else-up-eq65535}

pub returns : goal.returns
returns c =
    let a = c.args in
    let kept = λ (p : ℕ × ℕ). entry_of p.0 a.association a.side a.low p.1 ∷ [] in
    let pushed = c.push.ensures in elim c.if-up-eq65535.branch [
      | then-up-eq65535 w ↦ (appends-as pushed.0 (ap kept w.kind-is ∙ limited-none a.kind a.association a.side a.low a.up c.requires.1.1 w.if-up-eq65535.true), pushed.1)
      | else-up-eq65535 w ↦ (appends-as pushed.0 (ap kept w.kind-is ∙ limited-some a.kind a.association a.side a.low a.up c.requires.1.1 w.if-up-eq65535.false), pushed.1)
    ]
