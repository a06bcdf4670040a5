-- The file of the diagram that declarations declare has at most 4,000 numbers, as that of each well-formed diagram, where their
-- counts fit, whether names stand twice or not.
-- Assumes nothing.
use Prim.Native.Nat.{◌≤◌}
use mathlib.Core.Bool.{false}
use mathlib.Core.List.{List}
use mathlib.Core.Logic.{inr}
use mathlib.Core.Path.{◌≡◌, refl}
use lib.ListN.{length}
use Rattle.files.specs.DiagramBytes.{write_diagram}
use Rattle.texts.specs.Declaration.{Declaration}
use Rattle.texts.specs.Declared.{declared}
use Rattle.texts.specs.TextChecks.{is_overfull}
use Rattle.texts.specs.WellFormedDeclaration.{WfDeclarations}
use Rattle.files.proofs.DiagramSize.{laid-written-most}
use Rattle.texts.proofs.DeclaredCountLaws.{few}
use Rattle.texts.proofs.DeclaredLaidLaws.{declared-laid}

pub text-size : (ds : List Declaration) → WfDeclarations ds → is_overfull ds ≡ false → length (write_diagram 2 (declared ds)) ≤ 4000
text-size ds wf e = laid-written-most 2 (inr refl) (declared ds) (declared-laid ds wf (few ds e))
