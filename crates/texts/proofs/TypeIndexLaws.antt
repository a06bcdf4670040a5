-- The index of a type that is declared: its first declaration stands before any other of its name, and two names have one index
-- exactly when they are the same.
-- Assumes nothing.
use Prim.Native.Nat.{◌<◌, ◌≤◌, ℕ}
use native.Mathlib.Decide.{dec_lt}
use native.Mathlib.Omega.{arith}
use mathlib.Core.Bool.{Bool, true}
use mathlib.Core.List.{List}
use mathlib.Core.Logic.{⊎_elim}
use mathlib.Core.Path.{◌∙◌, ◌≡◌, ap, sym}
use lib.Dec.{eqb}
use lib.ListN.{length}
use borrow.Author.Tests.{eq-eqb, eqb-true, le-leb, leb-true}
use Rattle.laws.specs.Bounded.{first, tally}
use Rattle.laws.specs.Connective.{both}
use Rattle.files.specs.Name.{Name, key, same_name}
use Rattle.texts.specs.Declaration.{Declaration, declaration_at, is_class, is_interface_type, is_type}
use Rattle.texts.specs.Declared.{type_first, type_index, types_before}
use Rattle.texts.specs.TextChecks.{is_declared}
use Rattle.laws.proofs.BoundedLaws.{any_at}
use Rattle.laws.proofs.ConnectiveLaws.{both_left, both_of, both_right, either-cases, same_test, true-false}
use Rattle.laws.proofs.CountLaws.{tally-below, tally-once}
use Rattle.laws.proofs.FirstLaws.{first_below, first-ext, first_holds, first-least}
use Rattle.files.proofs.NameLaws.{key-same, same_key, same-right}

-- ---- classes and interfaces are types

pub class-is-type : (d : Declaration) → is_class d ≡ true → is_type d ≡ true
unfolding is_class is_type
class-is-type d e =
    ⊎_elim (λ h. let l : d.what ≤ 1 = leb-true d.what 1 h in le-leb d.what 3 (omega arith))
    (λ h. let l : d.what ≡ 3 = eqb-true d.what 3 h in le-leb d.what 3 (omega arith)) (either-cases _ _ e)

pub interface-is-type : (d : Declaration) → is_interface_type d ≡ true → is_type d ≡ true
unfolding is_interface_type is_type
interface-is-type d e = let l : d.what ≡ 2 = eqb-true d.what 2 e in le-leb d.what 3 (omega arith)

module _ (ds : List Declaration) where
  -- declaration j is of a type with the name w
  abbrev of_name : Name → ℕ → Bool
  of_name w j = both (is_type (declaration_at ds j)) (same_name (declaration_at ds j).name w)

  -- the first type of that name is declared before k
  pub record Known (w : Name) (k : ℕ) : Type 0 where
    pub before : type_first ds w < k
    pub is-type : is_type (declaration_at ds (type_first ds w)) ≡ true
    pub same : same_name (declaration_at ds (type_first ds w)).name w ≡ true

  pub known_by : (w : Name) (j k : ℕ) → j < k → k ≤ length ds → is_type (declaration_at ds j) ≡ true → same_name (declaration_at ds j).name w ≡ true → Known w k
  unfolding type_first
  known_by w j k l m t s =
      let n = length ds in
      let p : of_name w j ≡ true = both_of _ _ t s in
      let b : first (of_name w) n < n = first_below (of_name w) n j (omega arith) p in
      let h : of_name w (first (of_name w) n) ≡ true = first_holds (of_name w) n b in
      record { before = upto p (dec_lt j (first (of_name w) n)); is-type = both_left _ _ h; same = both_right _ _ h }
    where
      upto : of_name w j ≡ true → Dec (j < first (of_name w) (length ds)) → first (of_name w) (length ds) < k
      upto p (yes h) = absurd (true-false p (first-least (of_name w) (length ds) j h))
      upto p (no h) = omega arith

  pub known-declared : (kind : Declaration → Bool) → ((d : Declaration) → kind d ≡ true → is_type d ≡ true) → (k : ℕ) → k ≤ length ds → (w : Name)
      → is_declared kind ds k w ≡ true → Known w k
  unfolding is_declared
  known-declared kind f k m w e =
      let a = any_at _ k e in known_by w a.0 k a.1 m (f _ (both_left _ _ a.2)) (both_right _ _ a.2)

  pub type-index-below : (w : Name) (k : ℕ) → Known w k → type_index ds w < types_before ds k
  unfolding type_index types_before
  type-index-below w k h = tally-below (λ j. is_type (declaration_at ds j)) (type_first ds w) k h.before h.is-type

  first-same : (v w : Name) → key v ≡ key w → type_first ds v ≡ type_first ds w
  unfolding type_first
  first-same v w e =
      first-ext (of_name v) (of_name w) (length ds) (λ j l. ap (both (is_type (declaration_at ds j))) (same-right (declaration_at ds j).name v w e))

  pub type-index-same : (v w : Name) (k : ℕ) → Known v k → Known w k → eqb (type_index ds v) (type_index ds w) ≡ same_name v w
  unfolding type_index types_before
  type-index-same v w k g h =
      same_test _ _
      (λ e.
      let q : type_first ds v ≡ type_first ds w =
      tally-once (λ j. is_type (declaration_at ds j)) (type_first ds v) (type_first ds w) g.is-type h.is-type (eqb-true _ _ e) in
      key-same v w (sym (same_key _ v g.same) ∙ ap (λ (j : ℕ). key (declaration_at ds j).name) q ∙ same_key _ w h.same))
      (λ e. eq-eqb _ _ (ap (tally (λ j. is_type (declaration_at ds j))) (first-same v w (same_key v w e))))
