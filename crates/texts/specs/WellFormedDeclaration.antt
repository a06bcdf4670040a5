-- 02 1/12: what holds of the declarations of a text that passes check 23, each by itself: names have 1 to 16 name bytes, ends have a
-- role and limits within a text's range, and what does not belong to a declaration is empty (proofs/DeclarationWellFormed, `belongs-wf`).
-- Besides this, at each index no name is over 16 bytes.
-- Assumes nothing.
use Rattle.std.specs.Prelude.{◌<◌, ◌≤◌, ℕ, false, true, List, [], ◌≡◌, get_or, length}
use Rattle.files.specs.Name.{Name, valid_name}
use Rattle.texts.specs.Declaration.{Declaration, DeclaredEnd, declaration_at, is_association, is_enumeration, is_interface_type, is_type}
use Rattle.texts.specs.TextChecks.{limits_forbidden}

-- each of these is a name
pub record ValidNames (ws : List Name) : Type 0 where
  pub each : (i : ℕ) → i < length ws → valid_name (get_or ws i []) ≡ true

pub record WfDeclaredEnd (e : DeclaredEnd) : Type 0 where
  pub role-named : valid_name e.role ≡ true
  pub limits-allowed : limits_forbidden e.limits ≡ false

pub record WfDeclaration (d : Declaration) : Type 0 where
  pub type-named : is_type d ≡ true → valid_name d.name ≡ true
  pub enumeration-named : is_enumeration d ≡ true → valid_name d.name ≡ true
  pub used-named : ValidNames d.attribute_types
  pub attributes-named : ValidNames d.attribute_names
  pub attributes-paired : length d.attribute_names ≡ length d.attribute_types
  pub constants-named : ValidNames d.constants
  pub arrow-first : is_association d ≡ true → 1 ≤ d.arrow
  pub arrow-last : is_association d ≡ true → d.arrow ≤ 4
  pub left-fits : is_association d ≡ true → WfDeclaredEnd d.left_end
  pub right-fits : is_association d ≡ true → WfDeclaredEnd d.right_end
  -- only a type has superclasses, interfaces and attributes, only an enumeration constants, and no interface a superclass
  pub no-superclasses : is_type d ≡ false → d.superclasses ≡ []
  pub no-interfaces : is_type d ≡ false → d.interfaces ≡ []
  pub no-attributes : is_type d ≡ false → d.attribute_types ≡ []
  pub no-constants : is_enumeration d ≡ false → d.constants ≡ []
  pub interface-alone : is_interface_type d ≡ true → d.superclasses ≡ []

pub record WfDeclarations (ds : List Declaration) : Type 0 where
  pub each : (k : ℕ) → k < length ds → WfDeclaration (declaration_at ds k)

-- ---- no name is over 16 bytes, whatever is read: also that of what stands for none, which is empty

pub record ShortEnd (e : DeclaredEnd) : Type 0 where
  pub type : length e.type ≤ 16
  pub role : length e.role ≤ 16

pub record ShortDeclaration (d : Declaration) : Type 0 where
  pub name : length d.name ≤ 16
  pub superclasses : (i : ℕ) → length (get_or d.superclasses i []) ≤ 16
  pub interfaces : (i : ℕ) → length (get_or d.interfaces i []) ≤ 16
  pub attribute_types : (i : ℕ) → length (get_or d.attribute_types i []) ≤ 16
  pub attribute_names : (i : ℕ) → length (get_or d.attribute_names i []) ≤ 16
  pub constants : (i : ℕ) → length (get_or d.constants i []) ≤ 16
  pub left_end : ShortEnd d.left_end
  pub right_end : ShortEnd d.right_end

pub record ShortNames (ds : List Declaration) : Type 0 where
  pub each : (k : ℕ) → ShortDeclaration (declaration_at ds k)
