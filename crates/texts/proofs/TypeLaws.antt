-- The types that declarations declare: type i is the one that stands behind i others; two have one name, or one has parents that do
-- not rise, exactly if a type's or a parent's name stands twice.
-- Assumes nothing.
use Prim.Native.Nat.{◌<◌, ℕ}
use native.Mathlib.Nat.{lt_trans}
use mathlib.Core.Bool.{Bool, ◌&&◌, and-false, false, not, true}
use mathlib.Core.List.{List, [], ◌++◌}
use mathlib.Core.Logic.{⊎_elim}
use mathlib.Core.Path.{◌∙◌, ◌≡◌, ap, ap₂, subst, sym}
use lib.ListN.{get_or, length}
use Rattle.laws.specs.Bounded.{any, tally}
use Rattle.files.specs.Diagram.{TypeDef, type_at}
use Rattle.files.specs.DiagramFile.{rising}
use Rattle.files.specs.Name.{Name, differ, same_name}
use Rattle.texts.specs.Declaration.{Declaration, declaration_at, is_type}
use Rattle.texts.specs.Declared.{declared, parent_names, parents_of, type_def_of, types_before}
use Rattle.texts.specs.TextChecks.{has_unknown_parent, names_of_kind}
use Rattle.texts.specs.WellFormedDeclaration.{WfDeclarations}
use Rattle.laws.proofs.BoundedLaws.{any-ext, any-no}
use Rattle.laws.proofs.ConnectiveLaws.{known}
use Rattle.laws.proofs.CountLaws.{counted, tally-below}
use Rattle.laws.proofs.PickedLaws.{any-picked, length-picked, picked-at, picked-part}
use Rattle.files.proofs.TwiceLaws.{earlier, earlier-ext, not-differ, nothing-twice}
use Rattle.texts.proofs.DeclaredCountLaws.{types-counted}
use Rattle.texts.proofs.ParentLaws.{BeforeDiffer, parents-rise}

abbrev no_type : TypeDef
no_type = record { kind = 0; name = []; parents = [] }

module _ (ds : List Declaration) where
  abbrev is_type_at : ℕ → Bool
  is_type_at k = is_type (declaration_at ds k)

  pub type-is : (k : ℕ) → k < length ds → is_type (declaration_at ds k) ≡ true → type_at (declared ds) (types_before ds k) ≡ type_def_of ds k
  unfolding declared types_before
  type-is k l t = picked-at is_type_at (type_def_of ds) no_type (length ds) k l t

  -- type i is declared at `place`
  pub record Place (i : ℕ) : Type 0 where
    pub place : ℕ
    pub below : place < length ds
    pub is-type : is_type (declaration_at ds place) ≡ true
    pub index : types_before ds place ≡ i
    pub is : type_at (declared ds) i ≡ type_def_of ds place

  pub type-place : (i : ℕ) → i < length (declared ds).types → Place i
  unfolding types_before
  type-place i l =
      let c = counted is_type_at (length ds) i (subst (λ (n : ℕ). i < n) (types-counted ds) l) in
      record {
        place = c.place;
        below = c.below;
        is-type = c.holds;
        index = c.count;
        is = subst (λ (j : ℕ). type_at (declared ds) j ≡ type_def_of ds c.place) c.count (type-is c.place c.below c.holds);
      }

  pub type-names-twice : any (earlier (λ i. (type_at (declared ds) i).name)) (length (declared ds).types) ≡ not (differ (names_of_kind is_type ds))
  unfolding declared
  type-names-twice =
      let names = names_of_kind is_type ds in
      let size : length (declared ds).types ≡ length names =
      length-picked is_type_at (type_def_of ds) (length ds) ∙ sym (length-picked is_type_at (λ k. (declaration_at ds k).name) (length ds)) in
      earlier-ext (λ i. (type_at (declared ds) i).name) (λ i. get_or names i []) (length (declared ds).types)
      (λ i l. picked-part (λ t. t.name) is_type_at (type_def_of ds) no_type [] (length ds) i (subst (λ (n : ℕ). i < n) (length-picked is_type_at (type_def_of ds) (length ds)) l))
      ∙ ap (any (earlier (λ i. get_or names i []))) size ∙ sym (not-differ names)

  -- where no type before type i has an earlier type's name, the types declared before it have different names
  pub before-differ : (k : ℕ) (l : k < length ds) (h : has_unknown_parent ds k ≡ false) → any (earlier (λ i. (type_at (declared ds) i).name)) (types_before ds k) ≡ false
      → BeforeDiffer ds k l h
  unfolding types_before
  before-differ k l h e i j m n s t =
      let a : tally is_type_at i < tally is_type_at j = tally-below is_type_at i j m s in
      let b : tally is_type_at j < tally is_type_at k = tally-below is_type_at j k n t in
      let q = lt_trans n l in
      ap₂ (λ (x y : TypeDef). same_name x.name y.name) (sym (type-is i (lt_trans m q) s)) (sym (type-is j q t))
      ∙ any-no _ (tally is_type_at j) (any-no _ (tally is_type_at k) e (tally is_type_at j) b) (tally is_type_at i) a

  no-parent : WfDeclarations ds → (k : ℕ) → k < length ds → is_type_at k ≡ false → not (differ (parent_names (declaration_at ds k))) ≡ false
  no-parent f k l e =
      let g = f.each k l in
      ap₂ (λ (v w : List Name). not (differ (v ++ w))) (g.no-superclasses e) (g.no-interfaces e) ∙ nothing-twice

  pub parents-twice : WfDeclarations ds → ((k : ℕ) → k < length ds → has_unknown_parent ds k ≡ false)
      → any (λ i. not (rising (type_at (declared ds) i).parents)) (length (declared ds).types) ≡ any (λ k. not (differ (parent_names (declaration_at ds k)))) (length ds)
  unfolding declared
  parents-twice f h =
      any-picked (λ t. not (rising t.parents)) is_type_at (type_def_of ds) no_type (length ds)
      ∙ any-ext (λ k. is_type_at k && not (rising (parents_of ds k))) _ (length ds) (λ k l.
      ap (λ (b : Bool). is_type_at k && b) (parents-rise ds k l (h k l))
      ∙ ⊎_elim (λ e. ap (λ (b : Bool). b && not (differ (parent_names (declaration_at ds k)))) e)
      (λ e. let n = no-parent f k l e in ap (λ (b : Bool). is_type_at k && b) n ∙ and-false (is_type_at k) ∙ sym n) (known (is_type_at k)))
