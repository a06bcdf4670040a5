-- Each way out of the search. Where every allowed world of n objects keeps new's tables, every legal record is legal for new; where one
-- does not, the record that is filled for it is a witness.
-- Assumes nothing.
use Prim.Native.Nat.{◌<◌, ℕ}
use mathlib.Core.Bool.{false, true}
use mathlib.Core.List.{List}
use mathlib.Core.Path.{◌∙◌, ◌≡◌, refl, sym}
use lib.ListN.{get_or, length}
use borrow.Author.Tests.{ltb-true}
use Rattle.std.specs.Prelude.{None, Some}
use Rattle.laws.proofs.ConnectiveLaws.{both_left}
use Rattle.files.specs.Diagram.{Diagram}
use Rattle.files.specs.Record.{Record, object_count}
use Rattle.files.specs.WellFormedDiagram.{WfDiagram}
use Rattle.records.specs.declared.MemoryRecord.{MemoryRecord}
use Rattle.fillings.specs.Memory.{memory_of}
use Rattle.fillings.proofs.MemoryLaws.{memory-stands}
use Rattle.worlds.specs.Asked.{Breaks, world_built}
use Rattle.worlds.specs.Kept as worlds
use Rattle.worlds.specs.Kept.{KeepsOthers, Sheet, sheet_of, world_in, world_of}
use Rattle.worlds.specs.declared.Others.{Others}
use Rattle.worlds.specs.declared.Site.{Site}
use Rattle.worlds.specs.declared.Tables.{Tables}
use Rattle.narrowing.proofs.NarrowLaws.{from-narrow, to_narrow}
use Rattle.type_values.specs.Filled.{Filled}
use Rattle.differing.proofs.CompleteLaws.{keeps-legal, legal-allowed}
use Rattle.differing.proofs.FilledLaws.{filled-witness}
use Rattle.searching.specs.Answer.{Level}
use Rattle.searching.specs.Ready.{Ready}

module _ {old new : Diagram} {t : Tables} {o : Others} (n : ℕ) (wo : WfDiagram old) (wn : WfDiagram new) (ready : Ready old new t o) where
  -- old's sheet with its own table
  abbrev own : Sheet
  own = worlds.sheet t.usable t.singles ready.own t.lows t.highs t.lines

  -- a record has as many objects in memory
  memory-size : (r : Record) → object_count r ≡ n → (world_of (memory_of old r)).size ≡ n
  unfolding world_in memory_of
  memory-size r e = e

  pub level-none : Breaks (sheet_of t) (KeepsOthers o) n false (world_built n None) → Level old new n None
  level-none breaks = record {
    count = tt;
    sound = tt;
    complete = λ r wfr size legal illegal.
        let h = memory-stands old r wo wfr in
        illegal (keeps-legal old new r (memory_of old r) h legal wn o.bad o.singles o.missing o.targets o.lows o.highs o.lines ready.others-are
        (breaks.kept refl (world_of (memory_of old r)) (to_narrow own t.targets ready.narrow-is (world_of (memory_of old r)) (legal-allowed old new r (memory_of old r) h legal own ready.sheet-is)) (memory-size r size)));
  }

  module _ (s : Site) (breaks : Breaks (sheet_of t) (KeepsOthers o) n true (world_in n s.types s.links)) where
    -- the types of what was found are types of old
    pub site-known : (p : ℕ) → p < n → get_or s.types p 0 < length old.types
    unfolding world_in
    site-known p l = ltb-true _ _ (both_left _ _ (sym (ready.sheet-is.usable.at (get_or s.types p 0)) ∙ (breaks.allowed refl).usable p l))

    pub level-found : (m : MemoryRecord) → Filled old new s.types s.links n m → Level old new n (Some m)
    level-found m filled = record {
      count = filled.count-is;
      sound = filled-witness old new wo wn own ready.sheet-is s.types s.links n m filled (from-narrow own t.targets ready.narrow-is (world_in n s.types s.links) (breaks.allowed refl)) o.bad o.singles o.missing o.targets o.lows o.highs o.lines ready.others-are (breaks.broken refl);
      complete = tt;
    }
