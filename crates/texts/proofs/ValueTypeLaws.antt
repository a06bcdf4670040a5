-- The value types that declarations declare: a plain type has another name than each enumeration and each plain type before it, so
-- that names stand twice exactly if names of enumerations do; and each type of an attribute is one of them.
-- Assumes nothing.
use Prim.Native.Nat.{◌+◌, ◌-◌, ◌<◌, ℕ}
use native.Mathlib.Decide.{dec_lt}
use native.Mathlib.Nat.{not-suc-le-zero}
use native.Mathlib.Omega.{arith}
use mathlib.Core.Bool.{Bool, ◌&&◌, ◌||◌, and-false, false, not, or-false, true}
use mathlib.Core.List.{List, [], ◌++◌}
use mathlib.Core.Logic.{⊎_elim}
use mathlib.Core.Path.{◌∙◌, ◌≡◌, ap, ap₂, subst, sym}
use lib.ListN.{get_or-append, get_or, length, length-append}
use lib.Seq.{get_or-append-add}
use borrow.Author.Tests.{not-true}
use Rattle.laws.specs.Bounded.{any, first, tally}
use Rattle.laws.specs.Connective.{both}
use Rattle.files.specs.Diagram.{ValueType}
use Rattle.files.specs.Name.{Name, differ, key, same_name, valid_name}
use Rattle.texts.specs.Declaration.{Declaration, declaration_at, is_enumeration}
use Rattle.texts.specs.Declared.{enumerations, is_enumeration_name, is_plain_use, plain_types, used_types, value_type_index, value_types_of}
use Rattle.texts.specs.TextChecks.{names_of_kind}
use Rattle.texts.specs.WellFormedDeclaration.{WfDeclarations}
use Rattle.laws.proofs.BoundedLaws.{any_at, any-ext, any-no, any_none, any_of, any-plus}
use Rattle.laws.proofs.ConnectiveLaws.{and_both, both_left, both-no-right, both_of, both_right, known, or_left, or_right}
use Rattle.laws.proofs.CountLaws.{counted, tally-before}
use Rattle.laws.proofs.FirstLaws.{first_below, first_holds, first-least}
use Rattle.laws.proofs.PickedLaws.{length-picked, member-any, member-append, member-picked, picked-at, picked-each, picked-part}
use Rattle.laws.proofs.RowElementLaws.{append-all, joined-all, joined-has}
use Rattle.files.proofs.LaidDiagram.{LaidValueType}
use Rattle.files.proofs.NameLaws.{key-same, same_key, same-right}
use Rattle.files.proofs.TwiceLaws.{earlier, earlier-ext, not-differ, nothing-twice}
use Rattle.texts.proofs.DeclaredCountLaws.{Few}

abbrev no_value_type : ValueType
no_value_type = record { name = []; constants = [] }

module _ (ds : List Declaration) where
  abbrev is_enum : ℕ → Bool
  is_enum k = is_enumeration (declaration_at ds k)

  abbrev enum_at : ℕ → ValueType
  enum_at k = record { name = (declaration_at ds k).name; constants = (declaration_at ds k).constants }

  abbrev used : ℕ → Name
  used i = get_or (used_types ds) i []

  abbrev plain_at : ℕ → ValueType
  plain_at i = record { name = used i; constants = [] }

  abbrev value_type_name : ℕ → Name
  value_type_name i = (get_or (value_types_of ds) i no_value_type).name

  -- ---- a value type of each kind

  -- value type i is an enumeration
  record IsEnum (i : ℕ) : Type 0 where
    place : ℕ
    below : place < length ds
    holds : is_enum place ≡ true
    is : value_type_name i ≡ (declaration_at ds place).name

  enum-of : (i : ℕ) → i < length (enumerations ds) → IsEnum i
  unfolding value_types_of enumerations
  enum-of i l =
      let c = counted is_enum (length ds) i (subst (λ (n : ℕ). i < n) (length-picked is_enum enum_at (length ds)) l) in
      record {
        place = c.place;
        below = c.below;
        holds = c.holds;
        is = ap (λ (v : ValueType). v.name)
            (get_or-append (enumerations ds) (plain_types ds) no_value_type i l
            ∙ ap (λ (j : ℕ). get_or (enumerations ds) j no_value_type) (sym c.count) ∙ picked-at is_enum enum_at no_value_type (length ds) c.place c.below c.holds);
      }

  -- plain type i stands for its first use
  record IsPlain (i : ℕ) : Type 0 where
    place : ℕ
    below : place < length (used_types ds)
    holds : is_plain_use ds place ≡ true
    count : tally (is_plain_use ds) place ≡ i
    is : value_type_name (length (enumerations ds) + i) ≡ used place

  plain_of : (i : ℕ) → i < length (plain_types ds) → IsPlain i
  unfolding value_types_of plain_types
  plain_of i l =
      let c = counted (is_plain_use ds) (length (used_types ds)) i (subst (λ (n : ℕ). i < n) (length-picked (is_plain_use ds) plain_at (length (used_types ds))) l) in
      record {
        place = c.place;
        below = c.below;
        holds = c.holds;
        count = c.count;
        is = ap (λ (v : ValueType). v.name)
            (get_or-append-add (enumerations ds) (plain_types ds) i no_value_type
            ∙ ap (λ (j : ℕ). get_or (plain_types ds) j no_value_type) (sym c.count)
            ∙ picked-at (is_plain_use ds) plain_at no_value_type (length (used_types ds)) c.place c.below c.holds);
      }

  -- ---- names that stand twice

  plain-no-enum : (y x : ℕ) → is_plain_use ds y ≡ true → x < length ds → is_enum x ≡ true → same_name (declaration_at ds x).name (used y) ≡ false
  unfolding is_plain_use is_enumeration_name
  plain-no-enum y x p l e = both-no-right _ _ (any-no _ (length ds) (not-true _ (both_left _ _ p)) x l) e

  plain-first : (y x : ℕ) → is_plain_use ds y ≡ true → x < y → same_name (used x) (used y) ≡ false
  unfolding is_plain_use
  plain-first y x p l = any-no _ y (not-true _ (both_right _ _ p)) x l

  plain-once : (i : ℕ) → i < length (plain_types ds) → earlier value_type_name (length (enumerations ds) + i) ≡ false
  plain-once i l = any_none _ (length (enumerations ds) + i) (λ j m. go j m (plain_of i l) (dec_lt j (length (enumerations ds))))
    where
      go : (j : ℕ) → j < length (enumerations ds) + i → IsPlain i → Dec (j < length (enumerations ds))
          → same_name (value_type_name j) (value_type_name (length (enumerations ds) + i)) ≡ false
      go j m p (yes h) = let e = enum-of j h in ap₂ same_name e.is p.is ∙ plain-no-enum p.place e.place p.holds e.below e.holds
      go j m p (no h) =
          let r = j - length (enumerations ds) in
          let e : j ≡ length (enumerations ds) + r = omega arith in
          let q = plain_of r (omega arith) in
          let a = q.count in
          let b = p.count in
          ap₂ same_name (ap value_type_name e ∙ q.is) p.is
          ∙ plain-first p.place q.place p.holds (tally-before (is_plain_use ds) q.place p.place (omega arith))

  pub names-twice : any (earlier value_type_name) (length (value_types_of ds)) ≡ not (differ (names_of_kind is_enumeration ds))
  unfolding value_types_of enumerations
  names-twice =
      let n = length (enumerations ds) in
      let size : n ≡ length (names_of_kind is_enumeration ds) =
      length-picked is_enum enum_at (length ds) ∙ sym (length-picked is_enum (λ k. (declaration_at ds k).name) (length ds)) in
      ap (any (earlier value_type_name)) (length-append (enumerations ds) (plain_types ds)) ∙ any-plus (earlier value_type_name) n (length (plain_types ds))
      ∙ ap (λ (b : Bool). any (earlier value_type_name) n || b) (any_none _ (length (plain_types ds)) plain-once) ∙ or-false (any (earlier value_type_name) n)
      ∙ earlier-ext value_type_name (λ i. get_or (names_of_kind is_enumeration ds) i []) n (λ i l.
      ap (λ (v : ValueType). v.name) (get_or-append (enumerations ds) (plain_types ds) no_value_type i l)
      ∙ picked-part (λ v. v.name) is_enum enum_at no_value_type [] (length ds) i (subst (λ (m : ℕ). i < m) (length-picked is_enum enum_at (length ds)) l))
      ∙ ap (any (earlier (λ i. get_or (names_of_kind is_enumeration ds) i []))) size ∙ sym (not-differ (names_of_kind is_enumeration ds))

  -- ---- some value type

  some-value-type : (t : ValueType → Bool) → any (λ i. t (get_or (value_types_of ds) i no_value_type)) (length (value_types_of ds))
      ≡ any (λ k. is_enum k && t (enum_at k)) (length ds) || any (λ i. is_plain_use ds i && t (plain_at i)) (length (used_types ds))
  unfolding value_types_of enumerations plain_types
  some-value-type t =
      member-any t no_value_type (enumerations ds ++ plain_types ds) ∙ member-append t (enumerations ds) (plain_types ds)
      ∙ ap₂ (λ (a b : Bool). a || b) (member-picked t is_enum enum_at (length ds)) (member-picked t (is_plain_use ds) plain_at (length (used_types ds)))

  no-constant : WfDeclarations ds → (k : ℕ) → k < length ds → is_enum k && not (differ (declaration_at ds k).constants) ≡ not (differ (declaration_at ds k).constants)
  no-constant f k l =
      ⊎_elim (λ e. ap (λ (b : Bool). b && not (differ (declaration_at ds k).constants)) e)
      (λ e.
      let n : not (differ (declaration_at ds k).constants) ≡ false =
      ap (λ (ws : List Name). not (differ ws)) ((f.each k l).no-constants e) ∙ nothing-twice in
      ap (λ (b : Bool). is_enum k && b) n ∙ and-false (is_enum k) ∙ sym n) (known (is_enum k))

  pub constants-twice : WfDeclarations ds → any (λ i. not (differ (get_or (value_types_of ds) i no_value_type).constants)) (length (value_types_of ds))
      ≡ any (λ k. not (differ (declaration_at ds k).constants)) (length ds)
  constants-twice f =
      some-value-type (λ v. not (differ v.constants))
      ∙ ap₂ (λ (a b : Bool). a || b) (any-ext _ _ (length ds) (no-constant f))
      (any_none (λ i. is_plain_use ds i && not (differ [])) (length (used_types ds)) (λ i l. ap (λ (b : Bool). is_plain_use ds i && b) nothing-twice ∙ and-false (is_plain_use ds i)))
      ∙ or-false _

  -- ---- an attribute's type

  named-alike : (v w : Name) → key v ≡ key w → is_enumeration_name ds v ≡ is_enumeration_name ds w
  unfolding is_enumeration_name
  named-alike v w e = any-ext _ _ (length ds) (λ k l. ap (both (is_enum k)) (same-right (declaration_at ds k).name v w e))

  enum-named : (w : Name) → is_enumeration_name ds w ≡ true → any (λ k. is_enum k && same_name (enum_at k).name w) (length ds) ≡ true
  unfolding is_enumeration_name
  enum-named w e = let a = any_at _ (length ds) e in any_of _ (length ds) a.0 a.1 (and_both _ _ (both_left _ _ a.2) (both_right _ _ a.2))

  -- the first use of a name that is no enumeration's is a plain use
  plain-named : (w : Name) (z : ℕ) → z < length (used_types ds) → used z ≡ w → is_enumeration_name ds w ≡ false
      → any (λ i. is_plain_use ds i && same_name (plain_at i).name w) (length (used_types ds)) ≡ true
  unfolding is_plain_use
  plain-named w z l q e =
      let n = length (used_types ds) in
      let p : ℕ → Bool = λ j. same_name (used j) w in
      let y = first p n in
      let b : y < n = first_below p n z l (key-same _ _ (ap key q)) in
      let s : same_name (used y) w ≡ true = first_holds p n b in
      let k : key (used y) ≡ key w = same_key _ w s in
      any_of _ n y b (and_both _ _
      (both_of _ _ (ap not (named-alike (used y) w k ∙ e)) (ap not (any_none _ y (λ j m. same-right (used j) (used y) w k ∙ first-least p n j m)))) s)

  pub value-type-known : (k i : ℕ) → k < length ds → i < length (declaration_at ds k).attribute_types
      → value_type_index ds (get_or (declaration_at ds k).attribute_types i []) < length (value_types_of ds)
  unfolding value_type_index used_types
  value-type-known k i l m =
      let w = get_or (declaration_at ds k).attribute_types i [] in
      let u = joined-has [] (λ j. (declaration_at ds j).attribute_types) (length ds) k i l m in
      let has : any (λ j. same_name (value_type_name j) w) (length (value_types_of ds)) ≡ true =
      some-value-type (λ v. same_name v.name w)
      ∙ ⊎_elim (λ e. or_left (any (λ j. is_enum j && same_name (enum_at j).name w) (length ds)) _ (enum-named w e))
      (λ e. or_right (any (λ j. is_enum j && same_name (enum_at j).name w) (length ds)) _ (plain-named w u.place u.below u.is e)) (known (is_enumeration_name ds w)) in
      let a = any_at _ (length (value_types_of ds)) has in
      first_below (λ j. same_name (value_type_name j) w) (length (value_types_of ds)) a.0 a.1 a.2

  -- ---- names and counts

  pub value-type-laid : WfDeclarations ds → Few ds → (i : ℕ) → i < length (value_types_of ds) → LaidValueType (get_or (value_types_of ds) i no_value_type)
  unfolding value_types_of enumerations plain_types used_types
  value-type-laid f g =
      append-all LaidValueType no_value_type (enumerations ds) (plain_types ds)
      (picked-each LaidValueType is_enum enum_at no_value_type (length ds) (λ k l e.
      let h = f.each k l in record { named = h.enumeration-named e; few-constants = g.constants k l; constants-named = h.constants-named.each }))
      (picked-each LaidValueType (is_plain_use ds) plain_at no_value_type (length (used_types ds)) (λ i l e. record {
        named = joined-all (λ w. valid_name w ≡ true) [] (λ k. (declaration_at ds k).attribute_types) (length ds) (λ k m. (f.each k m).used-named.each) i l;
        few-constants = omega arith;
        constants-named = λ j m. absurd (not-suc-le-zero m);
      }))
