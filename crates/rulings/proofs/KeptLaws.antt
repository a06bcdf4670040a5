-- Rules 2 and 5 to 9 of a diagram d hold on the site of a record in memory, by old's indices, exactly when its world keeps d's tables.
-- Assumes nothing.
use Prim.Native.Nat.{◌<◌, ℕ}
use mathlib.Core.Bool.{false}
use mathlib.Core.List.{List}
use mathlib.Core.Path.{◌≡◌}
use Rattle.files.specs.Diagram.{Diagram}
use Rattle.files.specs.WellFormedDiagram.{WfDiagram}
use Rattle.records.specs.declared.MemoryRecord.{MemoryRecord}
use Rattle.memory_rules.specs.SiteIn.{site_in}
use Rattle.worlds.specs.declared.Lines.{Lines}
use Rattle.worlds.specs.Kept.{AllKept, TypesAvoided, world_of}
use Rattle.worlds.specs.Tables.{LinesOf, RowTables, SingleTypes, links_missing, single_missing}
use Rattle.rulings.specs.Ruled.{Ruled}
use Rattle.rulings.specs.Shaped.{Shaped, kind_in}
use Rattle.rulings.proofs.ColumnLaws.{rule7-kept}
use Rattle.rulings.proofs.MirrorLaws.{rule8-kept}
use Rattle.rulings.proofs.RowLaws.{rows-kept}
use Rattle.rulings.proofs.SingleLaws.{rule2-kept}
use Rattle.rulings.proofs.WholeLaws.{rule9-kept}

module _ (old d : Diagram) (wo : WfDiagram old) (wd : WfDiagram d) (m : MemoryRecord) (h : Shaped old m) (singles : ℕ) (targets lows highs : List ℕ) (x : Lines)
    (of-singles : SingleTypes old d singles) (of-rows : RowTables old d targets lows highs) (of-lines : LinesOf old d x) where
  pub ruled-keeps : (bad : ℕ) → Ruled d (site_in old m) → TypesAvoided bad (world_of m) → AllKept bad singles (single_missing old d) targets lows highs x (world_of m)
  ruled-keeps bad r avoided =
      let two = (rule2-kept old d m wo h singles of-singles).0 r.second in
      record {
        types = avoided;
        present = two.0;
        singles-kept = two.1;
        rows = ((rows-kept old d wo m h targets lows highs of-rows).0 (r.fifth, r.sixth)).0;
        columns = (rule7-kept old d wo wd m h x of-lines).0 r.seventh;
        mirrors = (rule8-kept old d wo wd m h x of-lines).0 r.eighth;
        wholes = (rule9-kept old d wo wd m h x of-lines).0 r.ninth;
      }

  -- no object of such a record is asked for links that it has no slot for
  pub ruled-none-missing : Ruled d (site_in old m) → (o : ℕ) → o < m.count → links_missing old d (kind_in m o) ≡ false
  ruled-none-missing r = ((rows-kept old d wo m h targets lows highs of-rows).0 (r.fifth, r.sixth)).1

  pub keeps-ruled : (bad : ℕ) → ((o : ℕ) → o < m.count → links_missing old d (kind_in m o) ≡ false) → AllKept bad singles (single_missing old d) targets lows highs x (world_of m) → Ruled d (site_in old m)
  keeps-ruled bad none k =
      let five = (rows-kept old d wo m h targets lows highs of-rows).1 (k.rows, none) in
      record {
        second = (rule2-kept old d m wo h singles of-singles).1 (k.present, k.singles-kept);
        fifth = five.0;
        sixth = five.1;
        seventh = (rule7-kept old d wo wd m h x of-lines).1 k.columns;
        eighth = (rule8-kept old d wo wd m h x of-lines).1 k.mirrors;
        ninth = (rule9-kept old d wo wd m h x of-lines).1 k.wholes;
      }
