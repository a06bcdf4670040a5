-- What the checks of a diagram's fields ask but for 5, that names differ and parents rise, and 8: its counts and contents are as 4 and 3
-- ask, its indices as 6 and 7. A well-formed diagram is so in each edition that its limits fit.
-- Assumes nothing.
use Prim.Native.Nat.{◌<◌, ◌≤◌, ℕ}
use mathlib.Core.Bool.{false, true}
use mathlib.Core.List.{[]}
use mathlib.Core.Path.{◌≡◌}
use lib.ListN.{get_or, length}
use Rattle.laws.specs.Bounded.{any}
use Rattle.files.specs.Diagram.{Association, Diagram, End, TypeDef, ValueType, association_at, attribute_at, is_interface, type_at, value_type_at}
use Rattle.files.specs.Name.{valid_name}
use Rattle.files.specs.WellFormedDiagram.{FitsDiagram, FitsLimits, WfDiagram}
use Rattle.files.proofs.TwiceLaws.{earlier}

-- ---- 3 and 4

pub record LaidValueType (v : ValueType) : Type 0 where
  pub named : valid_name v.name ≡ true
  pub few-constants : length v.constants ≤ 8
  pub constants-named : (i : ℕ) → i < length v.constants → valid_name (get_or v.constants i []) ≡ true

pub record LaidType (t : TypeDef) : Type 0 where
  pub kind-known : t.kind ≤ 3
  pub named : valid_name t.name ≡ true
  pub few-parents : length t.parents ≤ 4

-- in edition e
pub record LaidEnd (e : ℕ) (x : End) : Type 0 where
  pub limits-fit : FitsLimits e x.limits
  pub role-named : valid_name x.role ≡ true

pub record LaidAssociation (e : ℕ) (a : Association) : Type 0 where
  pub form-known : a.form ≤ 1
  pub arrow-first : 1 ≤ a.arrow
  pub arrow-last : a.arrow ≤ 4
  pub left_laid : LaidEnd e a.left
  pub right-laid : LaidEnd e a.right

pub record LaidDiagram (e : ℕ) (d : Diagram) : Type 0 where
  pub few-value-types : length d.value_types ≤ 12
  pub value-type : (i : ℕ) → i < length d.value_types → LaidValueType (value_type_at d i)
  pub few-types : length d.types ≤ 24
  pub type : (i : ℕ) → i < length d.types → LaidType (type_at d i)
  pub few-attributes : length d.attributes ≤ 32
  pub attribute-named : (i : ℕ) → i < length d.attributes → valid_name (attribute_at d i).name ≡ true
  pub few-associations : length d.associations ≤ 16
  pub association : (i : ℕ) → i < length d.associations → LaidAssociation e (association_at d i)

-- ---- 6 and 7

-- the parents of type i: 7 is asked only where the types before it have different names
pub record KnownParents (d : Diagram) (i : ℕ) : Type 0 where
  pub below : (s : ℕ) → s < length (type_at d i).parents → get_or (type_at d i).parents s 0 < i
  pub interfaces : any (earlier (λ j. (type_at d j).name)) i ≡ false → is_interface (type_at d i) ≡ true
      → (s : ℕ) → s < length (type_at d i).parents → is_interface (type_at d (get_or (type_at d i).parents s 0)) ≡ true

pub record KnownEnds (d : Diagram) (a : Association) : Type 0 where
  pub left-known : a.left.type < length d.types
  pub right-known : a.right.type < length d.types

pub record KnownIndices (d : Diagram) : Type 0 where
  pub parents : (i : ℕ) → i < length d.types → KnownParents d i
  pub owner-known : (i : ℕ) → i < length d.attributes → (attribute_at d i).owner < length d.types
  pub value-type-known : (i : ℕ) → i < length d.attributes → (attribute_at d i).value_type < length d.value_types
  pub ends : (i : ℕ) → i < length d.associations → KnownEnds d (association_at d i)

-- ---- a well-formed diagram

-- edition 2 has numbers for its limits
pub wf-wide : (d : Diagram) → WfDiagram d → FitsDiagram 2 d
wf-wide d w i l = let a = w.association i l in (a.left-fits.limits-fit, a.right-fits.limits-fit)

pub wf-laid : (e : ℕ) (d : Diagram) → WfDiagram d → FitsDiagram e d → LaidDiagram e d
wf-laid e d w f = record {
  few-value-types = w.few-value-types;
  value-type = λ i l. let v = w.value-type i l in record { named = v.named; few-constants = v.few-constants; constants-named = v.constants-named };
  few-types = w.few-types;
  type = λ i l. let t = w.type i l in record { kind-known = t.kind-known; named = t.named; few-parents = t.few-parents };
  few-attributes = w.few-attributes;
  attribute-named = λ i l. (w.attribute i l).named;
  few-associations = w.few-associations;
  association = λ i l.
      let a = w.association i l in
      record {
        form-known = a.form-known;
        arrow-first = a.arrow-first;
        arrow-last = a.arrow-last;
        left_laid = record { limits-fit = (f i l).0; role-named = a.left-fits.role-named };
        right-laid = record { limits-fit = (f i l).1; role-named = a.right-fits.role-named };
      };
}

pub wf-known : (d : Diagram) → WfDiagram d → KnownIndices d
wf-known d w = record {
  parents = λ i l. record { below = (w.type i l).parents-below; interfaces = λ once. (w.type i l).interface-parents };
  owner-known = λ i l. (w.attribute i l).owner-known;
  value-type-known = λ i l. (w.attribute i l).value-type-known;
  ends = λ i l. let a = w.association i l in record { left-known = a.left-fits.type-known; right-known = a.right-fits.type-known };
}
