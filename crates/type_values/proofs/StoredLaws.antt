-- The tables of numbers are those of two diagrams in memory.
-- Assumes nothing.
use Prim.Native.Nat.{◌%◌, ◌*◌, ◌+◌, ◌/◌, ◌<◌, ◌≤◌, ℕ}
use native.Mathlib.Omega.{arith}
use mathlib.Core.Bool.{Bool, cond, false, not, true}
use mathlib.Core.List.{List, []}
use mathlib.Core.Logic.{⊎_elim}
use mathlib.Core.Path.{◌∙◌, ◌≡◌, ap, ap₂, refl, subst, sym}
use lib.Dec.{eqb, ltb}
use lib.ListN.{get_or-eq_default, get_or, length}
use borrow.Author.Tests.{lt-ltb, ltb-false, ltb-true}
use Rattle.laws.specs.Bounded.{any, first}
use Rattle.laws.specs.Connective.{both, either}
use Rattle.laws.proofs.BoundedLaws.{any_at, any-ext}
use Rattle.laws.proofs.ConnectiveLaws.{both_left, both_of, both_right, known, same_test}
use Rattle.laws.proofs.FirstLaws.{first-ext}
use Rattle.laws.proofs.JoinedLaws.{get_or-each, length-each}
use Rattle.laws.proofs.SearchLaws.{both-no, both_yes}
use Rattle.fields.specs.Slot.{constant_name, known_in, slot_name, slot_of}
use Rattle.files.specs.Diagram.{ValueType, attribute_at, value_type_at}
use Rattle.files.specs.Name.{Name, same_name}
use Rattle.files.proofs.NameLaws.{key-same}
use Rattle.diagrams.specs.declared.StoredDiagram.{StoredDiagram}
use Rattle.diagrams.specs.Held.{Held}
use Rattle.diagrams.specs.View.{diagram_of, value_type_in}
use Rattle.diagrams.proofs.ViewLaws.{attribute-count, value-type-at, value-type-count}
use Rattle.diagrams.proofs.NamedLaws.{attribute-named, value-type-named}
use Rattle.resolving.proofs.LookupLaws.{attribute-slot}
use Rattle.records.specs.Written.{constant_known}
use Rattle.rules.specs.ValueRules.{belongs}
use Rattle.type_values.specs.Bad.{coded_value}
use Rattle.type_values.specs.Lacking.{first_lacking, lacking, same_type, shared}
use Rattle.type_values.specs.Tables.{AttributePlaces, Lackings, SameTypes}
use Rattle.type_values.specs.Numbers.{constant_in, lacking_in, shared_in}
use Rattle.type_values.proofs.SharedLaws.{belongs-shared, coded-same, same-name}

module _ (d : StoredDiagram) where
  -- ---- constants

  abbrev size_of : ℕ → ℕ
  size_of v = get_or d.values.sizes v 0

  constant-count : (v : ℕ) → v < d.values.count → length (value_type_at (diagram_of d) v).constants ≡ size_of v
  unfolding value_type_in
  constant-count v l = ap (λ (t : ValueType). length t.constants) (value-type-at d v l) ∙ length-each (λ k. slot_name d.values.constants (v * 8 + k)) [] (size_of v)

  pub size_small : Held d → (v : ℕ) → v < d.values.count → size_of v ≤ 8
  size_small held v l =
      subst (λ (n : ℕ). n ≤ 8) (constant-count v l) (held.wf.value-type v (subst (λ (n : ℕ). v < n) (sym (value-type-count d)) l)).few-constants

  constant-at : (v i : ℕ) → v < d.values.count → i < size_of v → get_or (value_type_at (diagram_of d) v).constants i [] ≡ slot_name d.values.constants (v * 8 + i)
  unfolding value_type_in
  constant-at v i l k =
      ap (λ (t : ValueType). get_or t.constants i []) (value-type-at d v l) ∙ get_or-each (λ j. slot_name d.values.constants (v * 8 + j)) [] (size_of v) i k

  -- constant c of value type v: its name, and whether there is one
  constant-named : (v c : ℕ) → v < d.values.count → c < 8
      → get_or (value_type_at (diagram_of d) ((v * 8 + c) / 8)).constants ((v * 8 + c) % 8) [] ≡ constant_name d.values.constants (size_of v) (v * 8 + c)
  unfolding constant_name
  constant-named v c l small =
      let a : (v * 8 + c) / 8 ≡ v = omega arith in
      let b : (v * 8 + c) % 8 ≡ c = omega arith in
      ap₂ (λ (i j : ℕ). get_or (value_type_at (diagram_of d) i).constants j []) a b
      ∙ ⊎_elim
      (λ k. constant-at v c l (ltb-true _ _ k) ∙ sym (ap (λ (x : Bool). cond x (slot_name d.values.constants (v * 8 + c)) []) (ap (λ (j : ℕ). ltb j (size_of v)) b ∙ k)))
      (λ k.
      let past : length (value_type_at (diagram_of d) v).constants ≤ c = subst (λ (n : ℕ). n ≤ c) (sym (constant-count v l)) (ltb-false _ _ k) in
      get_or-eq_default (value_type_at (diagram_of d) v).constants [] past
      ∙ sym (ap (λ (x : Bool). cond x (slot_name d.values.constants (v * 8 + c)) []) (ap (λ (j : ℕ). ltb j (size_of v)) b ∙ k)))
      (known (ltb c (size_of v)))

  constant-there : (v c : ℕ) → v < d.values.count → c < 8 → constant_known (diagram_of d) (v * 8 + c) ≡ known_in (size_of v) c
  unfolding known_in
  constant-there v c l small =
      let a : (v * 8 + c) / 8 ≡ v = omega arith in
      let b : (v * 8 + c) % 8 ≡ c = omega arith in
      ap₂ (λ (i j : ℕ). either (ltb j (length (value_type_at (diagram_of d) i).constants)) (both (eqb (length (value_type_at (diagram_of d) i).constants) 0) (eqb j 0))) a b
      ∙ ap (λ (n : ℕ). either (ltb c n) (both (eqb n 0) (eqb c 0))) (constant-count v l)

  -- what belongs to value type v, where its name is the value's
  constants-in : (v : ℕ) (w : Name) → v < d.values.count
      → either (any (λ i. same_name (get_or (value_type_at (diagram_of d) v).constants i []) w) (length (value_type_at (diagram_of d) v).constants))
      (both (eqb (length (value_type_at (diagram_of d) v).constants) 0) (eqb (length w) 0))
      ≡ shared_in d.values.sizes d.values.constants d.values.count v w
  unfolding shared_in constant_in
  constants-in v w l =
      ap (λ (n : ℕ). either (any (λ i. same_name (get_or (value_type_at (diagram_of d) v).constants i []) w) n) (both (eqb n 0) (eqb (length w) 0))) (constant-count v l)
      ∙ ap (λ (x : Bool). either x (both (eqb (size_of v) 0) (eqb (length w) 0))) (any-ext _ _ (size_of v) (λ i k. ap (λ (n : Name). same_name n w) (constant-at v i l k)))
      ∙ both_yes (lt-ltb v d.values.count l) refl

-- ---- two diagrams

module _ (old new : StoredDiagram) (held : Held new) where
  pub same-type : (v : ℕ) → v < old.values.count → same_type (diagram_of old) (diagram_of new) v ≡ slot_of new.values.names new.values.count (slot_name old.values.names v)
  unfolding same_type slot_of
  same-type v l =
      ap (first (λ j. same_name (value_type_at (diagram_of new) j).name (value_type_at (diagram_of old) v).name)) (value-type-count new)
      ∙ first-ext _ _ new.values.count (λ j k. ap₂ same_name (value-type-named new j k) (value-type-named old v l))

  pub same-types-are : (types : List ℕ) (m n : ℕ) → m ≡ old.values.count → n ≡ new.values.count
      → ((i : ℕ) → i < m → get_or types i 0 ≡ slot_of new.values.names n (slot_name old.values.names i)) → SameTypes (diagram_of old) (diagram_of new) types
  same-types-are types m n e q f = record {
    exact = λ v l.
        let k : v < old.values.count = subst (λ (i : ℕ). v < i) (value-type-count old) l in
        f v (subst (λ (i : ℕ). v < i) (sym e) k) ∙ ap (λ (i : ℕ). slot_of new.values.names i (slot_name old.values.names v)) q ∙ sym (same-type v k);
  }

  -- a value is shared exactly when it belongs to the value type of the same name
  shared_same : (k : ℕ) → shared (diagram_of old) (diagram_of new) k
      ≡ both (ltb (same_type (diagram_of old) (diagram_of new) (k / 8)) (length (diagram_of new).value_types))
      (belongs (coded_value (diagram_of old) 0 k) (value_type_at (diagram_of new) (same_type (diagram_of old) (diagram_of new) (k / 8))))
  shared_same k = same_test _ _ forth
      (λ e. belongs-shared (diagram_of old) (diagram_of new) held.wf 0 k _ (ltb-true _ _ (both_left _ _ e)) (both_right _ _ e))
    where
      j : ℕ
      j = same_type (diagram_of old) (diagram_of new) (k / 8)

      forth : shared (diagram_of old) (diagram_of new) k ≡ true
          → both (ltb j (length (diagram_of new).value_types)) (belongs (coded_value (diagram_of old) 0 k) (value_type_at (diagram_of new) j)) ≡ true
      forth e = unfold shared in
          let w = any_at _ (length (diagram_of new).value_types) e in
          let q : j ≡ w.0 = coded-same (diagram_of old) (diagram_of new) held.wf 0 k w.0 w.1 w.2 in
          subst
          (λ (i : ℕ). both (ltb i (length (diagram_of new).value_types)) (belongs (coded_value (diagram_of old) 0 k) (value_type_at (diagram_of new) i)) ≡ true) (sym q)
          (both_of _ _ (lt-ltb _ _ w.1) w.2)

  -- as the arrays have it
  belongs-in : (k : ℕ) (w : Name) → (coded_value (diagram_of old) 0 k).constant ≡ w → same_type (diagram_of old) (diagram_of new) (k / 8) < new.values.count
      → belongs (coded_value (diagram_of old) 0 k) (value_type_at (diagram_of new) (same_type (diagram_of old) (diagram_of new) (k / 8)))
      ≡ shared_in new.values.sizes new.values.constants new.values.count (same_type (diagram_of old) (diagram_of new) (k / 8)) w
  unfolding belongs coded_value
  belongs-in k w e l =
      let j : ℕ = same_type (diagram_of old) (diagram_of new) (k / 8) in
      let under : j < length (diagram_of new).value_types = subst (λ (n : ℕ). j < n) (sym (value-type-count new)) l in
      let name = same-name (diagram_of old) (diagram_of new) held.wf (k / 8) under in
      sym (both_yes (key-same _ _ name) refl)
      ∙ constants-in new j _ l ∙ ap (shared_in new.values.sizes new.values.constants new.values.count j) e

  shared-in : (k : ℕ) (w : Name) → (coded_value (diagram_of old) 0 k).constant ≡ w
      → shared (diagram_of old) (diagram_of new) k
      ≡ shared_in new.values.sizes new.values.constants new.values.count (same_type (diagram_of old) (diagram_of new) (k / 8)) w
  shared-in k w e =
      shared_same k
      ∙ ap (λ (n : ℕ). both (ltb j n) (belongs (coded_value (diagram_of old) 0 k) (value_type_at (diagram_of new) j))) (value-type-count new)
      ∙ ⊎_elim (λ l. sym (both_yes l refl) ∙ belongs-in k w e (ltb-true _ _ l)) (λ l. sym (both-no _ l) ∙ past l) (known (ltb j new.values.count))
    where
      j : ℕ
      j = same_type (diagram_of old) (diagram_of new) (k / 8)

      past : ltb j new.values.count ≡ false → false ≡ shared_in new.values.sizes new.values.constants new.values.count j w
      past l = unfold shared_in in both-no _ l

  coded-constant : (v c : ℕ) → v < old.values.count → c < 8
      → (coded_value (diagram_of old) 0 (v * 8 + c)).constant ≡ constant_name old.values.constants (get_or old.values.sizes v 0) (v * 8 + c)
  unfolding coded_value
  coded-constant v c l small = constant-named old v c l small

  lacking-in : (v c j : ℕ) → v < old.values.count → c < 8 → j ≡ same_type (diagram_of old) (diagram_of new) v
      → lacking_in old.values.constants (get_or old.values.sizes v 0) new.values.sizes new.values.constants new.values.count j v c
      ≡ lacking (diagram_of old) (diagram_of new) v c
  unfolding lacking_in lacking
  lacking-in v c j l small e =
      let a : (v * 8 + c) / 8 ≡ v = omega arith in
      let w : Name = constant_name old.values.constants (get_or old.values.sizes v 0) (v * 8 + c) in
      ap₂ both (sym (constant-there old v c l small))
      (ap not (ap (λ (i : ℕ). shared_in new.values.sizes new.values.constants new.values.count i w) (e ∙ ap (same_type (diagram_of old) (diagram_of new)) (sym a))
      ∙ sym (shared-in (v * 8 + c) w (coded-constant v c l small))))

  pub lackings-are : (types firsts : List ℕ) (m n : ℕ) → m ≡ old.values.count → n ≡ new.values.count → SameTypes (diagram_of old) (diagram_of new) types
      → ((v : ℕ) → v < m → get_or firsts v 0 ≡ first (lacking_in old.values.constants (get_or old.values.sizes v 0) new.values.sizes new.values.constants n (get_or types v 0) v) 8)
      → Lackings (diagram_of old) (diagram_of new) firsts
  unfolding first_lacking
  lackings-are types firsts m n e q is f = record {
    exact = λ v l.
        let k : v < old.values.count = subst (λ (i : ℕ). v < i) (value-type-count old) l in
        f v (subst (λ (i : ℕ). v < i) (sym e) k)
        ∙ ap (λ (i : ℕ). first (lacking_in old.values.constants (get_or old.values.sizes v 0) new.values.sizes new.values.constants i (get_or types v 0) v) 8) q
        ∙ first-ext _ _ 8 (λ c small. lacking-in v c (get_or types v 0) k small (is.exact v l));
  }

  pub attributes-placed : (slots : List ℕ) (m n : ℕ) → m ≡ old.attributes.count → n ≡ new.attributes.count
      → ((i : ℕ) → i < m → get_or slots i 0 ≡ slot_of new.attributes.names n (slot_name old.attributes.names i)) → AttributePlaces (diagram_of old) (diagram_of new) slots
  attributes-placed slots m n e q f = record {
    exact = λ s l.
        let k : s < old.attributes.count = subst (λ (i : ℕ). s < i) (attribute-count old) l in
        f s (subst (λ (i : ℕ). s < i) (sym e) k) ∙ ap₂ (λ (i : ℕ) (w : Name). slot_of new.attributes.names i w) q (sym (attribute-named old s k))
        ∙ sym (attribute-slot new (attribute_at (diagram_of old) s).name);
  }

pub ruleset places = (attributes-placed, same-types-are)

pub ruleset lackings = (lackings-are, size_small)
