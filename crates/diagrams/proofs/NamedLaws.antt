-- The names of a diagram in memory stand in its rows of names, by index.
-- Assumes nothing.
use Prim.Native.Nat.{◌%◌, ◌*◌, ◌+◌, ◌/◌, ◌<◌, ℕ}
use native.Mathlib.Omega.{arith}
use mathlib.Core.Bool.{Bool, cond, false, true}
use mathlib.Core.Path.{◌∙◌, ◌≡◌, ap, refl}
use lib.Dec.{eqb}
use lib.ListN.{length}
use borrow.Author.Tests.{eqb-false, eqb-true}
use Rattle.fields.specs.Slot.{slot_name}
use Rattle.files.specs.Diagram.{Association, Attribute, TypeDef, ValueType, association_at, attribute_at, type_at, value_type_at}
use Rattle.diagrams.specs.declared.StoredDiagram.{StoredDiagram}
use Rattle.diagrams.specs.View.{association_in, attribute_in, diagram_of, end_in, type_in, value_type_in}
use Rattle.diagrams.proofs.ViewLaws.{association-at, association-count, attribute-at, type-at, value-type-at}

module _ (d : StoredDiagram) where
  pub value-type-named : (v : ℕ) → v < d.values.count → (value_type_at (diagram_of d) v).name ≡ slot_name d.values.names v
  unfolding value_type_in
  value-type-named v l = ap (λ (t : ValueType). t.name) (value-type-at d v l)

  pub type-named : (i : ℕ) → i < d.types.count → (type_at (diagram_of d) i).name ≡ slot_name d.types.names i
  unfolding type_in
  type-named i l = ap (λ (t : TypeDef). t.name) (type-at d i l)

  pub attribute-named : (i : ℕ) → i < d.attributes.count → (attribute_at (diagram_of d) i).name ≡ slot_name d.attributes.names i
  unfolding attribute_in
  attribute-named i l = ap (λ (a : Attribute). a.name) (attribute-at d i l)

  -- ---- roles: the left end of each association, then its right end

  pub role-count : length (diagram_of d).associations * 2 ≡ d.associations.count * 2
  role-count = ap (λ (n : ℕ). n * 2) (association-count d)

  pub role-named : (e : ℕ) → e < d.associations.count * 2
      → cond (eqb (e % 2) 0) (association_at (diagram_of d) (e / 2)).left.role (association_at (diagram_of d) (e / 2)).right.role ≡ slot_name d.associations.roles e
  unfolding association_in end_in
  role-named e l =
      let h : e / 2 < d.associations.count = omega arith in
      ap (λ (a : Association). cond (eqb (e % 2) 0) a.left.role a.right.role) (association-at d (e / 2) h) ∙ go (eqb (e % 2) 0) refl
    where
      go : (b : Bool) → eqb (e % 2) 0 ≡ b
          → cond b (slot_name d.associations.roles (e / 2 * 2)) (slot_name d.associations.roles (e / 2 * 2 + 1)) ≡ slot_name d.associations.roles e
      go true q = ap (slot_name d.associations.roles) (let z : e % 2 ≡ 0 = eqb-true _ _ q in omega arith)
      go false q = ap (slot_name d.associations.roles) (let z : e % 2 ≡ 0 → ⊥ = eqb-false _ _ q in omega arith)
