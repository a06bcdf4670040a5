-- The attributes that declarations declare: as many as types are used, each of a known type and a known value type.
-- Assumes nothing.
use Prim.Native.Nat.{◌<◌, ℕ}
use native.Mathlib.Nat.{not-suc-le-zero}
use mathlib.Core.Bool.{true}
use mathlib.Core.List.{List, []}
use mathlib.Core.Logic.{⊎_elim}
use mathlib.Core.Path.{◌≡◌, subst, sym}
use lib.ListN.{length}
use Rattle.files.specs.Diagram.{Attribute, attribute_at}
use Rattle.files.specs.Name.{Name}
use Rattle.files.specs.WellFormedDiagram.{WfAttribute}
use Rattle.texts.specs.Declaration.{Declaration, declaration_at, is_type}
use Rattle.texts.specs.Declared.{attribute_of, attributes_in, declared, types_before, used_types}
use Rattle.texts.specs.WellFormedDeclaration.{WfDeclarations}
use Rattle.laws.proofs.ConnectiveLaws.{known}
use Rattle.laws.proofs.CountLaws.{tally-below}
use Rattle.laws.proofs.JoinedLaws.{get_or-each, joined-long, length-each}
use Rattle.laws.proofs.RowElementLaws.{joined-all}
use Rattle.texts.proofs.DeclaredCountLaws.{types-counted}
use Rattle.texts.proofs.ValueTypeLaws.{value-type-known}

abbrev no_attribute : Attribute
no_attribute = record { owner = 0; name = []; value_type = 0 }

module _ (ds : List Declaration) where
  attributes-in : (k : ℕ) → length (attributes_in ds k) ≡ length (declaration_at ds k).attribute_types
  unfolding attributes_in
  attributes-in k = length-each (attribute_of ds k) no_attribute (length (declaration_at ds k).attribute_types)

  pub attributes-counted : length (declared ds).attributes ≡ length (used_types ds)
  unfolding declared used_types
  attributes-counted = joined-long (attributes_in ds) (λ k. (declaration_at ds k).attribute_types) (length ds) (λ k l. attributes-in k)

  owner-is-type : WfDeclarations ds → (k i : ℕ) → k < length ds → i < length (declaration_at ds k).attribute_types → is_type (declaration_at ds k) ≡ true
  owner-is-type f k i l m =
      ⊎_elim (λ e. e) (λ e. absurd (not-suc-le-zero (subst (λ (ws : List Name). i < length ws) ((f.each k l).no-attributes e) m))) (known (is_type (declaration_at ds k)))

  owner-known : (k : ℕ) → k < length ds → is_type (declaration_at ds k) ≡ true → types_before ds k < types_before ds (length ds)
  unfolding types_before
  owner-known k l t = tally-below (λ j. is_type (declaration_at ds j)) k (length ds) l t

  one-wf : WfDeclarations ds → (k i : ℕ) → k < length ds → i < length (declaration_at ds k).attribute_types → WfAttribute (declared ds) (attribute_of ds k i)
  unfolding declared
  one-wf f k i l m = record {
    owner-known = subst (λ (n : ℕ). types_before ds k < n) (sym (types-counted ds)) (owner-known k l (owner-is-type f k i l m));
    named = let g = f.each k l in g.attributes-named.each i (subst (λ (n : ℕ). i < n) (sym g.attributes-paired) m);
    value-type-known = value-type-known ds k i l m;
  }

  pub attribute-wf : WfDeclarations ds → (i : ℕ) → i < length (declared ds).attributes → WfAttribute (declared ds) (attribute_at (declared ds) i)
  unfolding declared attributes_in
  attribute-wf f =
      joined-all (WfAttribute (declared ds)) no_attribute (attributes_in ds) (length ds) (λ k l i m.
      let h : i < length (declaration_at ds k).attribute_types = subst (λ (n : ℕ). i < n) (attributes-in k) m in
      subst (WfAttribute (declared ds)) (sym (get_or-each (attribute_of ds k) no_attribute (length (declaration_at ds k).attribute_types) i h)) (one-wf f k i l h))
