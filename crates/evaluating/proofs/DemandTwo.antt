-- Demand 2 over the code's replies: evaluate replies the number of compiled predicates exactly when rules 6 to 9 hold of the
-- record, for every accepted record file.
-- Assumes nothing.
use Prim.Native.Nat.{ℕ}
use native.Mathlib.Omega.{arith}
use mathlib.Core.Bool.{true}
use mathlib.Core.List.{List}
use mathlib.Core.Logic.{◌↔◌}
use mathlib.Core.Path.{◌≡◌, ap, sym, ◌∙◌}
use lib.ListN.{length}
use Rattle.files.specs.Record.{Record}
use Rattle.files.specs.RecordFile.{read_record}
use Rattle.files.specs.Refusal.{accepted, refusal_of}
use Rattle.diagrams.specs.declared.StoredDiagram.{StoredDiagram}
use Rattle.diagrams.specs.View.{diagram_of}
use Rattle.diagrams.specs.Held.{Held}
use Rattle.rules.specs.Site.{site_of}
use Rattle.rules.specs.LinkRules.{rule6, rule7, rule8}
use Rattle.rules.specs.WholeRule.{rule9}
use Rattle.rules.specs.Compile.{compile}
use Rattle.rules.proofs.DemandTwo.{evaluate-iff}
use Rattle.std.specs.Prelude.{Result, Ok, Err}
use Rattle.fields.specs.Refusal.{number_of}
use Rattle.fields.specs.declared.Refusal.{Refusal}
use Rattle.fields.proofs.RefusalLaws.{numbered}
use Rattle.evaluating.specs.Evaluates.{Evaluates}

-- a file that is accepted is not refused
never : (file : List ℕ) (y : Refusal) → number_of y ≡ refusal_of (read_record file) → (r : Record) → read_record file ≡ accepted r → ⊥
unfolding refusal_of
never file y h r e = let n = numbered y in omega (arith, h ∙ ap refusal_of e)

pub replies-number-iff : (d : StoredDiagram) → Held d → (file : List ℕ) (v : Result ℕ Refusal) → Evaluates (diagram_of d) file v → (r : Record) → read_record file ≡ accepted r
    → (v ≡ Ok (length (compile (diagram_of d))))
    ↔ ((rule6 (diagram_of d) (site_of r) ≡ true) × (rule7 (diagram_of d) (site_of r) ≡ true) × (rule8 (diagram_of d) (site_of r) ≡ true) × (rule9 (diagram_of d) (site_of r) ≡ true))
replies-number-iff d held file (Ok n) h r e =
    let iff = evaluate-iff (diagram_of d) held.wf r in
    ((λ q. let same : n ≡ length (compile (diagram_of d)) = cc in iff.0 (sym (h.first r e) ∙ same)), (λ w. ap Ok (h.first r e ∙ iff.1 w)))
replies-number-iff d held file (Err y) h r e = absurd (never file y h.refusal r e)
