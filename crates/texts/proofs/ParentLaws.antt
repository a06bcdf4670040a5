-- The parents of a type where each is declared before: their indices are below the type's own, they rise strictly exactly when no
-- parent is named twice, and those of an interface are interfaces if the types before have different names.
-- Assumes nothing.
use Prim.Native.Nat.{◌<◌, ◌≤◌, suc, ℕ}
use native.Mathlib.Decide.{dec_lt}
use native.Mathlib.Nat.{le_of_lt, lt-suc_self, lt_trans, not-suc-le-zero}
use native.Mathlib.Omega.{arith}
use mathlib.Core.Bool.{false, not, true}
use mathlib.Core.List.{List, []}
use mathlib.Core.Path.{◌∙◌, ◌≡◌, ap, subst, sym}
use lib.ListN.{get_or, length}
use borrow.Author.Tests.{not-false}
use Rattle.files.specs.DiagramFile.{rising}
use Rattle.files.specs.Name.{Name, differ, same_name}
use Rattle.texts.specs.Declaration.{Declaration, declaration_at, is_class, is_interface_type, is_type}
use Rattle.texts.specs.Declared.{parent_names, parents_of, type_first, type_index, types_before}
use Rattle.texts.specs.TextChecks.{has_unknown_parent, is_declared}
use Rattle.laws.proofs.BoundedLaws.{any_at, any-ext, any-no}
use Rattle.laws.proofs.ConnectiveLaws.{both_left, both_right, either-neither, true-false}
use Rattle.laws.proofs.RowElementLaws.{append-all}
use Rattle.laws.proofs.SortedLaws.{sorted-each, sorted-most, sorted-once}
use Rattle.files.proofs.NameLaws.{key-same, same_key}
use Rattle.files.proofs.TwiceLaws.{not-differ}
use Rattle.texts.proofs.TypeIndexLaws.{Known, class-is-type, interface-is-type, known_by, known-declared, type-index-below, type-index-same}

pub parents-few : (ds : List Declaration) (k : ℕ) → length (parents_of ds k) ≤ length (parent_names (declaration_at ds k))
unfolding parents_of
parents-few ds k =
    let ws = parent_names (declaration_at ds k) in sorted-most (λ i. type_index ds (get_or ws i [])) (length ws) (types_before ds k)

module _ (ds : List Declaration) (k : ℕ) (l : k < length ds) (known : has_unknown_parent ds k ≡ false) where
  abbrev d : Declaration
  d = declaration_at ds k

  superclass-declared : (i : ℕ) → i < length d.superclasses → is_declared is_class ds k (get_or d.superclasses i []) ≡ true
  unfolding has_unknown_parent
  superclass-declared i h = not-false _ (any-no _ (length d.superclasses) (either-neither _ _ known).0 i h)

  pub interface-declared : (i : ℕ) → i < length d.interfaces → is_declared is_interface_type ds k (get_or d.interfaces i []) ≡ true
  unfolding has_unknown_parent
  interface-declared i h = not-false _ (any-no _ (length d.interfaces) (either-neither _ _ known).1 i h)

  parent-known : (i : ℕ) → i < length (parent_names d) → Known ds (get_or (parent_names d) i []) k
  parent-known =
      append-all (λ w. Known ds w k) [] d.superclasses d.interfaces
      (λ i h. known-declared ds is_class class-is-type k (le_of_lt l) _ (superclass-declared i h))
      (λ i h. known-declared ds is_interface_type interface-is-type k (le_of_lt l) _ (interface-declared i h))

  pub parents-each : (P : ℕ → Type 0) → ((i : ℕ) → i < length (parent_names d) → P (type_index ds (get_or (parent_names d) i [])))
      → (s : ℕ) → s < length (parents_of ds k) → P (get_or (parents_of ds k) s 0)
  unfolding parents_of
  parents-each P f s h = sorted-each (λ i. type_index ds (get_or (parent_names d) i [])) (length (parent_names d)) P f (types_before ds k) s h

  pub parents-below : (s : ℕ) → s < length (parents_of ds k) → get_or (parents_of ds k) s 0 < types_before ds k
  parents-below = parents-each (λ x. x < types_before ds k) (λ i h. type-index-below ds _ k (parent-known i h))

  pub parents-rise : not (rising (parents_of ds k)) ≡ not (differ (parent_names d))
  unfolding parents_of rising
  parents-rise =
      let n = length (parent_names d) in
      sorted-once (λ i. type_index ds (get_or (parent_names d) i [])) n (types_before ds k) (λ i h. type-index-below ds _ k (parent-known i h))
      ∙ any-ext _ _ n (λ i h. any-ext _ _ i (λ j m. type-index-same ds _ _ k (parent-known j (lt_trans m h)) (parent-known i h)))
      ∙ sym (not-differ (parent_names d))

  -- no two of the types declared before k have one name
  abbrev pub BeforeDiffer : Type 0
  BeforeDiffer = (i j : ℕ) → i < j → j < k → is_type (declaration_at ds i) ≡ true → is_type (declaration_at ds j) ≡ true
      → same_name (declaration_at ds i).name (declaration_at ds j).name ≡ false

  -- then the first type with the name of an interface is that interface
  first-interface : BeforeDiffer → (w : Name) → is_declared is_interface_type ds k w ≡ true
      → Known ds w k × (is_interface_type (declaration_at ds (type_first ds w)) ≡ true)
  unfolding is_declared
  first-interface f w e =
      let a = any_at _ k e in
      let j = a.0 in
      let m : j < k = a.1 in
      let i : is_interface_type (declaration_at ds j) ≡ true = both_left _ _ a.2 in
      let t = interface-is-type _ i in
      let q = known_by ds w j (suc j) (lt-suc_self j) (omega arith) t (both_right _ _ a.2) in
      (known_by ds w j k m (le_of_lt l) t (both_right _ _ a.2), go j m i t (both_right _ _ a.2) q (dec_lt (type_first ds w) j))
    where
      go : (j : ℕ) → j < k → is_interface_type (declaration_at ds j) ≡ true → is_type (declaration_at ds j) ≡ true → same_name (declaration_at ds j).name w ≡ true
          → Known ds w (suc j) → Dec (type_first ds w < j) → is_interface_type (declaration_at ds (type_first ds w)) ≡ true
      go j m i t s q (yes h) =
          absurd (true-false (key-same _ _ (same_key _ w q.same ∙ sym (same_key _ w s))) (f (type_first ds w) j h m q.is-type t))
      go j m i t s q (no h) =
          let b = q.before in
          let e : type_first ds w ≡ j = omega arith in
          ap (λ (x : ℕ). is_interface_type (declaration_at ds x)) e ∙ i

  pub interface-parents : BeforeDiffer → d.superclasses ≡ [] → (P : ℕ → Type 0)
      → ((j : ℕ) → j < k → is_type (declaration_at ds j) ≡ true → is_interface_type (declaration_at ds j) ≡ true → P (types_before ds j))
      → (s : ℕ) → s < length (parents_of ds k) → P (get_or (parents_of ds k) s 0)
  unfolding type_index
  interface-parents f e P g =
      parents-each P (append-all (λ w. P (type_index ds w)) [] d.superclasses d.interfaces
      (λ i h. absurd (not-suc-le-zero (subst (λ (ws : List Name). i < length ws) e h)))
      (λ i h.
      let r = first-interface f (get_or d.interfaces i []) (interface-declared i h) in
      g (type_first ds (get_or d.interfaces i [])) r.0.before r.0.is-type r.1))
