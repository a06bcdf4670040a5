-- A record in memory whose world is allowed by old's tables, with values that old allows, is that of a record that is legal for old. If
-- its world does not keep the tables of new, and its values tell a bad type, that record is illegal for new.
-- Assumes nothing.
use Prim.Native.Nat.{◌-◌, ◌<◌, ◌≤◌, ℕ}
use native.Mathlib.Omega.{arith}
use mathlib.Core.Bool.{Bool, false, not, true}
use mathlib.Core.List.{List}
use mathlib.Core.Logic.{◌≢◌}
use mathlib.Core.Path.{◌∙◌, ◌≡◌, ap, sym}
use lib.ListN.{length}
use Rattle.laws.specs.Connective.{unless}
use Rattle.laws.proofs.ConnectiveLaws.{both_of}
use Rattle.laws.proofs.SearchLaws.{either-none}
use Rattle.files.specs.Diagram.{Diagram}
use Rattle.files.specs.WellFormedDiagram.{WfDiagram}
use Rattle.records.specs.Slots.{own_attribute}
use Rattle.records.specs.Written.{IsValue, Within, record_of, value_in}
use Rattle.records.specs.declared.MemoryRecord.{MemoryRecord}
use Rattle.rules.specs.Judge.{Illegal, Legal}
use Rattle.rules.specs.ValueRules.{rule4}
use Rattle.rules.proofs.JudgeLaws.{legal-keeps}
use Rattle.memory_rules.specs.JudgeIn.{lowest_in, rule3_in, rule5_in}
use Rattle.memory_rules.specs.SiteIn.{site_in}
use Rattle.memory_rules.specs.Stands.{Stands}
use Rattle.memory_rules.proofs.JudgeInLaws.{judge-in}
use Rattle.fillings.specs.Witness.{Witness}
use Rattle.standing.specs.Clean.{Clean}
use Rattle.standing.proofs.StandingLaws.{written_stands}
use Rattle.worlds.specs.Kept as worlds
use Rattle.worlds.specs.Kept.{Allowed, Sheet, TypesAvoided, world_in, world_of}
use Rattle.worlds.specs.Tables.{SheetOf, links_missing}
use Rattle.worlds.specs.declared.Lines.{Lines}
use Rattle.rulings.specs.Ruled.{Ruled}
use Rattle.rulings.specs.Shaped.{Shaped, kind_in}
use Rattle.rulings.proofs.AllowedLaws.{allowed-rule1, allowed-ruled, allowed-shaped}
use Rattle.rulings.proofs.KeptLaws.{ruled-keeps, ruled-none-missing}
use Rattle.meeting.proofs.MeetingLaws.{rules-met}
use Rattle.type_values.specs.Bad.{bad_by}
use Rattle.type_values.proofs.GoodLaws.{KeepsValues}
use Rattle.differing.specs.Others.{TablesOf}

-- values that old allows
pub record ValuesFit (old : Diagram) (m : MemoryRecord) : Type 0 where
  pub third : rule3_in old m ≡ true
  pub fourth : rule4 old (site_in old m) ≡ true
  pub are-values : (o s : ℕ) → o < m.count → s < length old.attributes → value_in m o s ≢ 0 → IsValue old (value_in m o s - 1)
  pub own : (o s : ℕ) → o < 8 → s < 32 → value_in m o s ≢ 0 → (o < m.count) × (own_attribute old s ≡ true)
  pub no-stray-values : m.strays.values ≡ false
  pub no-stray-links : m.strays.links ≡ false

module _ (old : Diagram) (wo : WfDiagram old) (m : MemoryRecord) (x : Sheet) (of : SheetOf old x) (a : Allowed x (world_of m)) (v : ValuesFit old m) where
  shaped : Shaped old m
  shaped = allowed-shaped old wo m x of a

  pub allowed-within : Within old m
  allowed-within =
      let few : length old.associations ≤ 16 = wo.few-associations in
      let objects : m.count ≤ 8 = shaped.few in
      record {
        few = shaped.few;
        types = shaped.known;
        values = v.are-values;
        targets = λ o s p l k j e. (shaped.inside o s p (omega arith) (omega arith) j e).1;
      }

  clean : Clean old m
  clean =
      record {
        values = v.own;
        links = λ o s p l k j e. let c = (shaped.inside o s p l k j e).0 in (c, shaped.own o s p c k j e);
        no-stray-values = v.no-stray-values;
        no-stray-links = v.no-stray-links;
      }

  pub allowed-stands : Stands old (record_of old m) m
  allowed-stands = written_stands old m wo allowed-within clean

  pub allowed-legal : Legal old (record_of old m)
  allowed-legal = sym (judge-in old (record_of old m) m allowed-stands) ∙ none
    where
      rule5 : rule5_in old m ≡ true
      rule5 = unfold rule5_in in both_of _ _ (ap not v.no-stray-links) (allowed-ruled old wo m x of a).fifth

      none : lowest_in old m ≡ 0
      none = unfold lowest_in unless in
          let k = allowed-ruled old wo m x of a in
          rw (allowed-rule1 old wo m x of a, k.second, v.third, v.fourth, rule5, k.sixth, k.seventh, k.eighth, k.ninth)

  module _ (new : Diagram) (wn : WfDiagram new) (bad singles : ℕ) (missing : Bool) (targets lows highs : List ℕ) (y : Lines)
      (tables : TablesOf old new bad singles missing targets lows highs y)
      (told : KeepsValues new (record_of old m) → (o : ℕ) → o < m.count → bad_by old new (kind_in m o) ≡ false)
      (broken : worlds.AllKept bad singles missing targets lows highs y (world_of m) → ⊥) where
    pub broken-illegal : Illegal new (record_of old m)
    broken-illegal legal =
        let k = legal-keeps new (record_of old m) legal in
        let met = rules-met old (record_of old m) m allowed-stands allowed-legal new in
        let ruled : Ruled new (site_in old m) = record {
          second = met.second ∙ k.second;
          fifth = met.fifth ∙ k.fifth;
          sixth = met.sixth ∙ k.sixth;
          seventh = met.seventh ∙ k.seventh;
          eighth = met.eighth ∙ k.eighth;
          ninth = met.ninth ∙ k.ninth;
        } in
        let good = told (record { first = k.first; third = k.third; fourth = k.fourth }) in
        let linked = ruled-none-missing old new wo wn m shaped singles targets lows highs y tables.of-singles tables.of-rows tables.of-lines ruled in
        let kept = ruled-keeps old new wo wn m shaped singles targets lows highs y tables.of-singles tables.of-rows tables.of-lines bad ruled (avoided good linked) in
        broken (record { types = kept.types; present = tables.missing-is ∙ kept.present; singles-kept = kept.singles-kept; rows = kept.rows; columns = kept.columns; mirrors = kept.mirrors; wholes = kept.wholes })
      where
        avoided : ((o : ℕ) → o < m.count → bad_by old new (kind_in m o) ≡ false) → ((o : ℕ) → o < m.count → links_missing old new (kind_in m o) ≡ false) → TypesAvoided bad (world_of m)
        avoided good linked = record { at = λ o l. unfold world_in in tables.bad-is (kind_in m o) (shaped.known o l) ∙ either-none (good o l) (linked o l) }

    pub allowed-witness : Witness old new m
    allowed-witness = record { within = allowed-within; legal = allowed-legal; illegal = broken-illegal }
