-- Rules 1, 3 and 4 of a diagram `new` for an object that is given by a type of another diagram, `old`: whether an object of that
-- type can break them with values that old allows. "The two diagrams meet only through names".
-- Assumes nothing.
use Rattle.std.specs.Prelude.{◌%◌, ◌+◌, ◌/◌, ◌<◌, ◌≤◌, ℕ, Bool, false, not, true, [], ◌≡◌, eqb, get_or, length}
use Rattle.laws.specs.Bits.{bit}
use Rattle.laws.specs.Bounded.{all}
use Rattle.laws.specs.Connective.{both, imp, same}
use Rattle.files.specs.Diagram.{Diagram, attribute_at, type_at, value_type_at}
use Rattle.files.specs.Name.{Name, same_name}
use Rattle.files.specs.Record.{Value}
use Rattle.records.specs.Written.{constant_known}
use Rattle.rules.specs.Site.{Site}
use Rattle.rules.specs.TypeRules.{rule1_at}
use Rattle.rules.specs.ValueRules.{declared, rule4_at}
use Rattle.type_tables.specs.Due.{due}

-- one object whose type has this name, without values and links
unfoldable pub alone : Name → Site
alone w = record {
  count = 1;
  typed = λ o v. same_name v w;
  valued = λ o v. false;
  linked = λ o v p. false;
  each_value = λ test. true;
  each_link = λ test. true;
}

-- the value with code k, of that object, for the attribute in slot s
unfoldable pub coded_value : Diagram → ℕ → ℕ → Value
coded_value d s k =
    record { object = 0; attribute = (attribute_at d s).name; value_type = (value_type_at d (k / 8)).name; constant = get_or (value_type_at d (k / 8)).constants (k % 8) [] }

-- d allows an object of type t the value with code k in slot s
unfoldable pub allowed : Diagram → ℕ → ℕ → ℕ → Bool
allowed d t s k = both (eqb (due d t s) (1 + k / 8)) (constant_known d k)

module _ (old new : Diagram) (t : ℕ) where
  -- rule 1: the type's name is that of a class or singleton class of new
  unfoldable pub type_kept : Bool
  type_kept = rule1_at new (alone (type_at old t).name) 0

  -- rule 3: both diagrams declare this attribute name for the type, or none does
  unfoldable pub name_kept : Name → Bool
  name_kept w = same (declared old (alone (type_at old t).name) 0 w) (declared new (alone (type_at old t).name) 0 w)

  unfoldable pub names_kept : Bool
  names_kept =
      both (all (λ a. name_kept (attribute_at old a).name) (length old.attributes))
      (all (λ a. name_kept (attribute_at new a).name) (length new.attributes))

  -- rule 4: a value that old allows belongs to the value type of every declaration of new
  unfoldable pub code_kept : ℕ → ℕ → Bool
  code_kept s k = imp (allowed old t s k) (rule4_at new (alone (type_at old t).name) (coded_value old s k))

  unfoldable pub codes_kept : Bool
  codes_kept = all (λ s. all (code_kept s) 96) (length old.attributes)

  -- an object of type t breaks rule 1 or rule 3 of new, or can break rule 4
  unfoldable pub bad_by : Bool
  bad_by = not (both type_kept (both names_kept codes_kept))

-- the types that are so, one bit for each
pub record BadTypes (old new : Diagram) (mask : ℕ) : Type 0 where
  pub at : (t : ℕ) → t < length old.types → bit t mask ≡ bad_by old new t
  pub none : (t : ℕ) → length old.types ≤ t → bit t mask ≡ false
