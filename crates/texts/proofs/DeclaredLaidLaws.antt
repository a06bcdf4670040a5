-- The diagram that declarations declare, where check 23 finds nothing in them: its counts and contents are as 01's checks 4 and 3 ask
-- where check 4 finds nothing, and its indices as 6 and 7 ask where check 24 finds nothing.
-- Assumes nothing.
use Prim.Native.Nat.{◌<◌, ℕ}
use native.Mathlib.Nat.{lt_trans}
use native.Mathlib.Omega.{arith}
use mathlib.Core.Bool.{false, true}
use mathlib.Core.List.{List}
use mathlib.Core.Path.{◌∙◌, ◌≡◌, ap, subst, sym}
use lib.ListN.{get_or, length}
use borrow.Author.Tests.{leb-true}
use Rattle.files.specs.Diagram.{Diagram, TypeDef, is_interface, type_at, value_type_at}
use Rattle.texts.specs.Declaration.{Declaration, declaration_at, is_interface_type, is_type}
use Rattle.texts.specs.Declared.{declared, type_def_of, types_before}
use Rattle.texts.specs.TextChecks.{has_unknown, has_unknown_end, has_unknown_parent}
use Rattle.texts.specs.WellFormedDeclaration.{WfDeclarations}
use Rattle.laws.proofs.BoundedLaws.{any-no}
use Rattle.laws.proofs.ConnectiveLaws.{either-neither}
use Rattle.laws.proofs.PickedLaws.{picked-each}
use Rattle.files.proofs.LaidDiagram.{KnownIndices, KnownParents, LaidDiagram, LaidType, LaidValueType}
use Rattle.texts.proofs.AssociationLaws.{association-known, association-laid}
use Rattle.texts.proofs.AttributeLaws.{attribute-wf, attributes-counted}
use Rattle.texts.proofs.DeclaredCountLaws.{Few, associations-counted, types-counted, value-types-counted}
use Rattle.texts.proofs.ParentLaws.{interface-parents, parents-below, parents-few}
use Rattle.texts.proofs.TypeLaws.{before-differ, type-is, type-place}
use Rattle.texts.proofs.ValueTypeLaws.{value-type-laid}

-- ---- counts and contents

module _ (ds : List Declaration) (wf : WfDeclarations ds) (few : Few ds) where
  value-type-declared : (i : ℕ) → i < length (declared ds).value_types → LaidValueType (value_type_at (declared ds) i)
  unfolding declared
  value-type-declared = value-type-laid ds wf few

  type-declared : (i : ℕ) → i < length (declared ds).types → LaidType (type_at (declared ds) i)
  unfolding declared is_type
  type-declared =
      picked-each LaidType (λ k. is_type (declaration_at ds k)) (type_def_of ds) _ (length ds) (λ k l t.
      let p = parents-few ds k in
      let q = few.parents k l in
      record { kind-known = leb-true (declaration_at ds k).what 3 t; named = (wf.each k l).type-named t; few-parents = omega arith })

  pub declared-laid : LaidDiagram 2 (declared ds)
  declared-laid =
      let v = value-types-counted ds in
      let v' = few.value-types in
      let t = types-counted ds in
      let t' = few.types in
      let a = attributes-counted ds in
      let a' = few.uses in
      let s = associations-counted ds in
      let s' = few.associations in
      record {
        few-value-types = omega arith;
        value-type = value-type-declared;
        few-types = omega arith;
        type = type-declared;
        few-attributes = omega arith;
        attribute-named = λ i l. (attribute-wf ds wf i l).named;
        few-associations = omega arith;
        association = association-laid ds wf;
      }

-- ---- indices

module _ (ds : List Declaration) (known : has_unknown ds ≡ false) where
  pub parents-known : (k : ℕ) → k < length ds → has_unknown_parent ds k ≡ false
  unfolding has_unknown
  parents-known k l = (either-neither _ _ (any-no _ (length ds) known k l)).0

  ends-known : (k : ℕ) → k < length ds → has_unknown_end ds k ≡ false
  unfolding has_unknown
  ends-known k l = (either-neither _ _ (any-no _ (length ds) known k l)).1

  abbrev d : Diagram
  d = declared ds

  parents-at : WfDeclarations ds → (k : ℕ) → k < length ds → is_type (declaration_at ds k) ≡ true → KnownParents d (types_before ds k)
  unfolding is_interface is_interface_type
  parents-at wf k l t =
      let h = parents-known k l in
      let e : type_def_of ds k ≡ type_at d (types_before ds k) = sym (type-is ds k l t) in
      record {
        below = subst (λ (x : TypeDef). (s : ℕ) → s < length x.parents → get_or x.parents s 0 < types_before ds k) e (parents-below ds k l h);
        interfaces = λ once.
            subst (λ (x : TypeDef). is_interface x ≡ true → (s : ℕ) → s < length x.parents → is_interface (type_at d (get_or x.parents s 0)) ≡ true) e (λ i.
            interface-parents ds k l h (before-differ ds k l h once) ((wf.each k l).interface-alone i) (λ x. is_interface (type_at d x) ≡ true)
            (λ j m u v. ap is_interface (type-is ds j (lt_trans m l) u) ∙ v));
      }

  parents-of : WfDeclarations ds → (i : ℕ) → i < length d.types → KnownParents d i
  parents-of wf i l = let p = type-place ds i l in subst (KnownParents d) p.index (parents-at wf p.place p.below p.is-type)

  pub declared_known : WfDeclarations ds → KnownIndices d
  declared_known wf = record {
    parents = parents-of wf;
    owner-known = λ i l. (attribute-wf ds wf i l).owner-known;
    value-type-known = λ i l. (attribute-wf ds wf i l).value-type-known;
    ends = association-known ds ends-known;
  }
