-- One diagram translated into another by names, as tables: for each thing of old that of new with the same name, or their number
-- where there is none.
-- Assumes nothing.
use Rattle.std.specs.Prelude.{◌<◌, ℕ, List, ◌≡◌, get_or, length}
use Rattle.files.specs.Diagram.{Diagram, attribute_at}
use Rattle.records.specs.Slots.{attribute_slot}
use Rattle.type_tables.specs.TypeTables.{Dues, TypePlaces}
use Rattle.type_values.specs.Lacking.{first_lacking, same_type}

pub record AttributePlaces (old new : Diagram) (slots : List ℕ) : Type 0 where
  pub exact : (s : ℕ) → s < length old.attributes → get_or slots s 0 ≡ attribute_slot new (attribute_at old s).name

pub record SameTypes (old new : Diagram) (types : List ℕ) : Type 0 where
  pub exact : (v : ℕ) → v < length old.value_types → get_or types v 0 ≡ same_type old new v

-- for each value type of old the first of its values that new lacks
pub record Lackings (old new : Diagram) (firsts : List ℕ) : Type 0 where
  pub exact : (v : ℕ) → v < length old.value_types → get_or firsts v 0 ≡ first_lacking old new v

-- all of them, with what is due by the types of each
pub record Translated (old new : Diagram) (olds news index slots back types firsts : List ℕ) : Type 0 where
  pub due-old : Dues old olds
  pub due-new : Dues new news
  pub types-placed : TypePlaces old new index
  pub forth : AttributePlaces old new slots
  pub back-placed : AttributePlaces new old back
  pub same-types : SameTypes old new types
  pub lackings : Lackings old new firsts
