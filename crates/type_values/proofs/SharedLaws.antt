-- Each value of a value type v of old belongs to value type j of new exactly when j has v's name and new lacks no value of v.
-- Assumes nothing.
use Prim.Native.Nat.{◌%◌, ◌*◌, ◌+◌, ◌/◌, ◌<◌, ◌≤◌, ℕ}
use native.Mathlib.Omega.{arith}
use mathlib.Core.Bool.{false, not, true}
use mathlib.Core.Logic.{◌≢◌, ⊎_elim}
use mathlib.Core.Path.{◌∙◌, ◌≡◌, ap, refl, subst, sym}
use lib.Dec.{eqb, ltb}
use lib.ListN.{length}
use borrow.Author.Tests.{eqb-false, lt-ltb, not-true}
use Rattle.laws.specs.Connective.{both, either}
use Rattle.laws.proofs.BoundedLaws.{any_at, any_none, any_of}
use Rattle.laws.proofs.ConnectiveLaws.{both_left, both_of, both_right, either_left, either-right, known, same_test, true-false}
use Rattle.laws.proofs.FirstLaws.{first_below, first_holds, first-least, first-le, first-none}
use Rattle.files.specs.Diagram.{Diagram, value_type_at}
use Rattle.files.specs.Name.{key, same_name}
use Rattle.files.specs.WellFormedDiagram.{WfDiagram}
use Rattle.files.proofs.NameLaws.{differ-once, key-same, same_key}
use Rattle.records.specs.Written.{constant_known}
use Rattle.rules.specs.ValueRules.{belongs}
use Rattle.rules.proofs.KeyLaws.{belongs-alike}
use Rattle.type_values.specs.Bad.{coded_value}
use Rattle.type_values.specs.Lacking.{first_lacking, lacking, same_type, shared}

-- the first constant, or the unnamed value, is always one
pub first-known : (d : Diagram) (v : ℕ) → constant_known d (v * 8) ≡ true
first-known d v =
    let z : v * 8 % 8 ≡ 0 = omega arith in
    let n : ℕ = length (value_type_at d (v * 8 / 8)).constants in
    ap (λ (i : ℕ). either (ltb i n) (both (eqb n 0) (eqb i 0))) z
    ∙ ⊎_elim (λ e. either-right _ _ (both_of _ _ e refl)) (λ e. either_left _ _ (lt-ltb 0 n (let m : n ≢ 0 = eqb-false n 0 e in omega arith))) (known (eqb n 0))

-- its slot is no matter
pub coded-belongs : (d e : Diagram) (s u k j : ℕ) → belongs (coded_value d s k) (value_type_at e j) ≡ belongs (coded_value d u k) (value_type_at e j)
unfolding coded_value
coded-belongs d e s u k j = belongs-alike (coded_value d s k) (coded_value d u k) (value_type_at e j) refl refl

module _ (old new : Diagram) (wf : WfDiagram new) where
  -- a value belongs to a value type of its own type's name only
  coded-name : (s k j : ℕ) → belongs (coded_value old s k) (value_type_at new j) ≡ true → key (value_type_at new j).name ≡ key (value_type_at old (k / 8)).name
  unfolding belongs coded_value
  coded-name s k j e = same_key _ _ (both_left _ _ e)

  name-one : (i j : ℕ) → i < length new.value_types → j < length new.value_types → key (value_type_at new i).name ≡ key (value_type_at new j).name → i ≡ j
  name-one = differ-once (λ n. (value_type_at new n).name) (length new.value_types) wf.value-types-differ

  pub same-name : (v : ℕ) → same_type old new v < length new.value_types → key (value_type_at new (same_type old new v)).name ≡ key (value_type_at old v).name
  unfolding same_type
  same-name v l = same_key _ _ (first_holds (λ j. same_name (value_type_at new j).name (value_type_at old v).name) (length new.value_types) l)

  pub same-is : (v j : ℕ) → j < length new.value_types → key (value_type_at new j).name ≡ key (value_type_at old v).name → same_type old new v ≡ j
  same-is v j l e = name-one (same_type old new v) j below l (same-name v below ∙ sym e)
    where
      below : same_type old new v < length new.value_types
      below = unfold same_type in
          first_below (λ i. same_name (value_type_at new i).name (value_type_at old v).name) (length new.value_types) j l
          (key-same _ _ e)

  pub same-most : (v : ℕ) → same_type old new v ≤ length new.value_types
  unfolding same_type
  same-most v = first-le _ (length new.value_types)

  -- ---- codes of v

  pub shared-belongs : (s k j : ℕ) → j < length new.value_types → key (value_type_at new j).name ≡ key (value_type_at old (k / 8)).name → shared old new k ≡ true
      → belongs (coded_value old s k) (value_type_at new j) ≡ true
  unfolding shared
  shared-belongs s k j l e h =
      let w = any_at _ (length new.value_types) h in
      let q : w.0 ≡ j = name-one w.0 j w.1 l (coded-name 0 k w.0 w.2 ∙ sym e) in
      coded-belongs old new s 0 k j ∙ subst (λ (i : ℕ). belongs (coded_value old 0 k) (value_type_at new i) ≡ true) q w.2

  pub belongs-shared : (s k j : ℕ) → j < length new.value_types → belongs (coded_value old s k) (value_type_at new j) ≡ true → shared old new k ≡ true
  unfolding shared
  belongs-shared s k j l e = any_of _ (length new.value_types) j l (coded-belongs old new 0 s k j ∙ e)

  -- none is lacking: each is shared
  pub none-lacking : (v c : ℕ) → first_lacking old new v ≡ 8 → c < 8 → constant_known old (v * 8 + c) ≡ true → shared old new (v * 8 + c) ≡ true
  unfolding first_lacking lacking
  none-lacking v c e l h =
      ⊎_elim (λ t. t) (λ f. absurd (true-false (both_of _ _ h (ap not f)) (first-least (lacking old new v) 8 c (subst (λ (n : ℕ). c < n) (sym e) l)))) (known (shared old new (v * 8 + c)))

  pub lacks-none : (v : ℕ) → ((c : ℕ) → c < 8 → constant_known old (v * 8 + c) ≡ true → shared old new (v * 8 + c) ≡ true) → first_lacking old new v ≡ 8
  unfolding first_lacking lacking
  lacks-none v f =
      first-none (lacking old new v) 8
      (any_none (lacking old new v) 8 (λ c l. same_test _ _ (λ e. absurd (true-false (f c l (both_left _ _ e)) (not-true _ (both_right _ _ e)))) (λ e. absurd (true-false e refl))))

  -- the first one that is lacking
  pub first-lacks : (v : ℕ) → first_lacking old new v < 8
      → (constant_known old (v * 8 + first_lacking old new v) ≡ true) × (shared old new (v * 8 + first_lacking old new v) ≡ false)
  unfolding first_lacking lacking
  first-lacks v l = let h = first_holds (lacking old new v) 8 l in (both_left _ _ h, not-true _ (both_right _ _ h))

  pub lacking-most : (v : ℕ) → first_lacking old new v ≤ 8
  unfolding first_lacking
  lacking-most v = first-le (lacking old new v) 8

  pub coded-same : (s k j : ℕ) → j < length new.value_types → belongs (coded_value old s k) (value_type_at new j) ≡ true → same_type old new (k / 8) ≡ j
  coded-same s k j l e = same-is (k / 8) j l (coded-name s k j e)

  pub same-shares : (s k : ℕ) → same_type old new (k / 8) < length new.value_types → shared old new k ≡ true
      → belongs (coded_value old s k) (value_type_at new (same_type old new (k / 8))) ≡ true
  same-shares s k l h = shared-belongs s k (same_type old new (k / 8)) l (same-name (k / 8) l) h
