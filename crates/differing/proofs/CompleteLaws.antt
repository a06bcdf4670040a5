-- A record that is legal for old has an allowed world. If that world keeps the tables of new, the record is legal for new.
-- Assumes nothing.
use Prim.Native.Nat.{◌<◌, ℕ}
use mathlib.Core.Bool.{Bool, false}
use mathlib.Core.List.{List}
use mathlib.Core.Path.{◌∙◌, ◌≡◌, sym}
use Rattle.laws.specs.Bits.{bit}
use Rattle.laws.specs.Connective.{unless}
use Rattle.laws.proofs.ConnectiveLaws.{either-neither}
use Rattle.files.specs.Diagram.{Diagram}
use Rattle.files.specs.Record.{Record}
use Rattle.files.specs.WellFormedDiagram.{WfDiagram}
use Rattle.records.specs.declared.MemoryRecord.{MemoryRecord}
use Rattle.rules.specs.Judge.{Legal, judge, lowest_broken}
use Rattle.rules.specs.Site.{Site, site_of}
use Rattle.rules.proofs.JudgeLaws.{Keeps}
use Rattle.memory_rules.specs.Stands.{Stands}
use Rattle.memory_rules.specs.SiteIn.{site_in}
use Rattle.type_tables.proofs.PassedLaws.{type-known}
use Rattle.worlds.specs.Kept as worlds
use Rattle.worlds.specs.Kept.{Allowed, Sheet, world_in, world_of}
use Rattle.worlds.specs.Tables.{SheetOf, links_missing}
use Rattle.worlds.specs.declared.Lines.{Lines}
use Rattle.rulings.specs.Ruled.{Ruled}
use Rattle.rulings.specs.Shaped.{kind_in}
use Rattle.rulings.proofs.AllowedLaws.{ruled-allowed}
use Rattle.rulings.proofs.KeptLaws.{keeps-ruled}
use Rattle.rulings.proofs.LegalLaws.{legal-ruled, legal-shaped}
use Rattle.meeting.proofs.MeetingLaws.{rules-met}
use Rattle.type_values.specs.Bad.{bad_by}
use Rattle.type_values.proofs.GoodLaws.{good-keeps}
use Rattle.differing.specs.Others.{TablesOf}
use Rattle.differing.proofs.PossibleLaws.{legal-usable}

-- a site that keeps each of the nine rules is judged 0
pub keeps-judged : (d : Diagram) (x : Site) → Keeps d x → lowest_broken d x ≡ 0
unfolding lowest_broken unless
keeps-judged d x k = rw (k.first, k.second, k.third, k.fourth, k.fifth, k.sixth, k.seventh, k.eighth, k.ninth)

module _ (old new : Diagram) (r : Record) (m : MemoryRecord) (h : Stands old r m) (legal : Legal old r) where
  pub legal-allowed : (x : Sheet) → SheetOf old x → Allowed x (world_of m)
  legal-allowed x of = ruled-allowed old h.wf-diagram m x of (legal-shaped old r m h legal) (legal-usable old r m h legal x.usable of.usable) (legal-ruled old r m h legal)

  module _ (wn : WfDiagram new) (bad singles : ℕ) (missing : Bool) (targets lows highs : List ℕ) (x : Lines)
      (of : TablesOf old new bad singles missing targets lows highs x) (k : worlds.AllKept bad singles missing targets lows highs x (world_of m)) where
    neither : (o : ℕ) → o < m.count → bit (kind_in m o) bad ≡ false
    unfolding world_in
    neither o l = k.types.at o l

    good : (o : ℕ) → o < m.count → bad_by old new (kind_in m o) ≡ false
    good o l = (either-neither _ _ (sym (of.bad-is (kind_in m o) (type-known h legal o l)) ∙ neither o l)).0

    linked : (o : ℕ) → o < m.count → links_missing old new (kind_in m o) ≡ false
    linked o l = (either-neither _ _ (sym (of.bad-is (kind_in m o) (type-known h legal o l)) ∙ neither o l)).1

    ruled : Ruled new (site_in old m)
    ruled = keeps-ruled old new h.wf-diagram wn m (legal-shaped old r m h legal) singles targets lows highs x of.of-singles of.of-rows of.of-lines bad linked
        (record { types = k.types; present = sym of.missing-is ∙ k.present; singles-kept = k.singles-kept; rows = k.rows; columns = k.columns; mirrors = k.mirrors; wholes = k.wholes })

    pub keeps-legal : Legal new r
    unfolding judge
    keeps-legal =
        let met = rules-met old r m h legal new in
        let values = good-keeps old new r m h legal good in
        keeps-judged new (site_of r) (record {
          first = values.first;
          second = sym met.second ∙ ruled.second;
          third = values.third;
          fourth = values.fourth;
          fifth = sym met.fifth ∙ ruled.fifth;
          sixth = sym met.sixth ∙ ruled.sixth;
          seventh = sym met.seventh ∙ ruled.seventh;
          eighth = sym met.eighth ∙ ruled.eighth;
          ninth = sym met.ninth ∙ ruled.ninth;
        })
