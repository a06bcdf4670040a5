-- The tables of both diagrams all together.
-- Assumes nothing.
use Prim.Native.Nat.{ℕ}
use mathlib.Core.Bool.{Bool}
use mathlib.Core.List.{List}
use mathlib.Core.Path.{◌∙◌, ◌≡◌, ap₂}
use lib.Bits.{bit_or}
use Rattle.laws.specs.Connective.{either}
use Rattle.laws.proofs.BitLaws.{bit-or}
use Rattle.diagrams.specs.Held.{Held}
use Rattle.diagrams.specs.View.{diagram_of}
use Rattle.diagrams.specs.declared.StoredDiagram.{StoredDiagram}
use Rattle.worlds.specs.Coherent.{Slotted, SourceTable}
use Rattle.worlds.specs.Kept.{sheet}
use Rattle.worlds.specs.Tables.{LinesOf, MissingLinks, RowTables, SingleTypes, UsableTypes, single_missing}
use Rattle.worlds.specs.declared.Lines.{Lines}
use Rattle.narrowing.specs.Narrow.{Narrows}
use Rattle.type_values.specs.Bad.{BadTypes}
use Rattle.sheets.proofs.SheetLaws.{sheet-of}
use Rattle.searching.specs.Ready.{Ready}

module _ (old new : StoredDiagram) {own targets sources lows highs targets2 lows2 highs2 : List ℕ} {lines lines2 : Lines} {usable singles singles2 values roles : ℕ} {missing : Bool}
    {slotted : Slotted lines} {turned : SourceTable targets sources} where
  pub ready : Held old → RowTables (diagram_of old) (diagram_of old) own lows highs → ((singles : ℕ) (lows : List ℕ) (x : Lines) → Narrows (sheet usable singles own lows highs x) targets) → LinesOf (diagram_of old) (diagram_of old) lines
      → UsableTypes (diagram_of old) usable → SingleTypes (diagram_of old) (diagram_of old) singles → RowTables (diagram_of old) (diagram_of new) targets2 lows2 highs2
      → LinesOf (diagram_of old) (diagram_of new) lines2 → SingleTypes (diagram_of old) (diagram_of new) singles2 → missing ≡ single_missing (diagram_of old) (diagram_of new)
      → BadTypes (diagram_of old) (diagram_of new) values → MissingLinks (diagram_of old) (diagram_of new) roles
      → Ready (diagram_of old) (diagram_of new)
      (record { targets = targets; sources = sources; lows = lows; highs = highs; lines = lines; usable = usable; singles = singles; slotted = slotted; turned = turned })
      (record { targets = targets2; lows = lows2; highs = highs2; lines = lines2; bad = bit_or values roles; singles = singles2; missing = missing })
  unfolding either
  ready held rows narrow of-lines of-usable of-singles rows2 of-lines2 of-singles2 is bad lacking = record {
    own = own;
    sheet-is = sheet-of old held usable singles own lows highs lines of-usable of-singles rows of-lines;
    narrow-is = narrow singles lows lines;
    others-are = record {
      bad-is = λ t l. bit-or t values roles ∙ ap₂ (λ (a b : Bool). either a b) (bad.at t l) (lacking.at t l);
      of-singles = of-singles2;
      missing-is = is;
      of-rows = rows2;
      of-lines = of-lines2;
    };
  }
