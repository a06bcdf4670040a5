-- A record that is filled with values for usable types keeps rules 3 and 4 of old, and old has an index for each of its types and
-- values.
-- Assumes nothing.
use Prim.Native.Nat.{◌%◌, ◌*◌, ◌+◌, ◌-◌, ◌/◌, ◌<◌, ◌≤◌, ℕ}
use native.Mathlib.Omega.{arith}
use mathlib.Core.Bool.{Bool, cond, not, true}
use mathlib.Core.List.{List}
use mathlib.Core.Logic.{◌≢◌, ⊎_elim}
use mathlib.Core.Path.{◌∙◌, ◌≡◌, ap, refl, subst, sym}
use lib.Dec.{eqb}
use lib.ListN.{get_or, length}
use borrow.Author.Tests.{eq-eqb, eqb-false, eqb-true, lt-ltb, ne_eqb, not-true}
use Rattle.laws.specs.Connective.{both}
use Rattle.laws.proofs.BoundedLaws.{all-at, all_of}
use Rattle.laws.proofs.ConnectiveLaws.{both_left, both_of, both_right, imp-of, known, same_test}
use Rattle.laws.proofs.ForallLaws.{same-iff}
use Rattle.files.specs.Diagram.{Diagram, attribute_at, type_at, value_type_at}
use Rattle.files.specs.Name.{Name, key}
use Rattle.files.specs.WellFormedDiagram.{WfDiagram}
use Rattle.files.proofs.NameLaws.{key-same, same_key}
use Rattle.records.specs.declared.MemoryRecord.{MemoryRecord}
use Rattle.records.specs.Slots.{attribute_slot, own_attribute, type_index}
use Rattle.records.specs.Written.{IsValue, value_in}
use Rattle.records.proofs.SlotLaws.{attribute-below, index-alike, index-name, index_of, own_below, own-slot}
use Rattle.rules.specs.ValueRules.{belongs, declared, rule3, rule3_at, rule3_for, rule4, rule4_at}
use Rattle.memory_rules.specs.JudgeIn.{rule3_in}
use Rattle.memory_rules.specs.SiteIn.{kept_value, site_in, typed_in, value_kept, valued_in}
use Rattle.tables.proofs.BelongLaws.{belongs-known}
use Rattle.type_tables.specs.Due.{due}
use Rattle.worlds.specs.Tables.{possible}
use Rattle.type_values.specs.Bad.{alone, coded_value}
use Rattle.type_values.specs.Filled.{Filled, UsableObjects, chosen, chosen_code}
use Rattle.type_values.specs.Named.{fits_due}
use Rattle.type_values.proofs.AloneLaws.{Typed, declared-alone, rule4-alone}
use Rattle.type_values.proofs.ChosenLaws.{chosen_none, chosen-some, chosen-type, chosen-value}
use Rattle.type_values.proofs.JoinedLaws.{due-known}
use Rattle.type_values.proofs.KeptLaws.{fits-part}
use Rattle.type_values.proofs.NamedLaws.{named-declared, named-fits, named-own}

-- an object by its type's index has that type's name
pub index-typed : (d : Diagram) → WfDiagram d → (m : MemoryRecord) (o : ℕ) → get_or m.types o 0 < length d.types → Typed (site_in d m) o (type_at d (get_or m.types o 0)).name
unfolding site_in typed_in
index-typed d wf m o l v =
    same_test _ _
    (λ e.
    let i : type_index d v ≡ get_or m.types o 0 = eqb-true _ _ e in
    let n : key (type_at d (get_or m.types o 0)).name ≡ key v = ap (λ (k : ℕ). key (type_at d k).name) (sym i) ∙ index-name d v (subst (λ (k : ℕ). k < length d.types) (sym i) l) in
    key-same v _ (sym n))
    (λ e. eq-eqb _ _ (index-alike d _ _ (same_key _ _ e) ∙ index_of d wf (get_or m.types o 0) l))

module _ (old new : Diagram) (wold : WfDiagram old) (wnew : WfDiagram new) (types links : List ℕ) (n : ℕ) (m : MemoryRecord) (few : n ≤ 8)
    (filled : Filled old new types links n m) (usable : UsableObjects old types n)
  where
    abbrev type_of : ℕ → ℕ
    type_of o = get_or m.types o 0

    abbrev name_of : ℕ → Name
    name_of o = (type_at old (type_of o)).name

    object-in : (o : ℕ) → o < m.count → o < n
    object-in o l = subst (λ (k : ℕ). o < k) filled.count-is l

    type-is : (o : ℕ) → get_or types o 0 ≡ type_of o
    type-is o = ap (λ (ts : List ℕ). get_or ts o 0) (sym filled.types_are)

    pub filled-type : (o : ℕ) → o < m.count → type_of o < length old.types
    filled-type o l = subst (λ (t : ℕ). t < length old.types) (type-is o) (usable.type-known o (object-in o l))

    filled-typed : (o : ℕ) → o < m.count → Typed (site_in old m) o (name_of o)
    filled-typed o l = index-typed old wold m o (filled-type o l)

    -- ---- what is due, and the value that is there

    due-agrees : (o s : ℕ) → o < m.count → s < 32 → due old (type_of o) s ≢ 255
    unfolding possible
    due-agrees o s l small =
        eqb-false _ 255 (not-true _ (all-at _ 32 (subst (λ (t : ℕ). possible old t ≡ true) (type-is o) (usable.may o (object-in o l))) s small))

    filled-value : (o s : ℕ) → o < m.count → s < 32 → value_in m o s ≡ chosen old new (due old (type_of o) s)
    filled-value o s l small =
        let k : o < n = object-in o l in
        filled.values-are o s (let h : o < 8 = omega arith in h) small
        ∙ ap (λ (b : Bool). cond b (chosen old new (due old (get_or types o 0) s)) 0) (lt-ltb o n k) ∙ ap (λ (t : ℕ). chosen old new (due old t s)) (type-is o)

    due-type : (o s : ℕ) → o < m.count → s < 32 → due old (type_of o) s ≢ 0 → due old (type_of o) s - 1 < length old.value_types
    due-type o s l small d = (due-known old wold (type_of o) s).type-known d (due-agrees o s l small)

    pub filled-some : (o s : ℕ) → o < m.count → s < 32 → due old (type_of o) s ≢ 0 → value_in m o s ≡ 1 + chosen_code old new (due old (type_of o) s - 1)
    filled-some o s l small d = filled-value o s l small ∙ chosen-some old new wold wnew (due old (type_of o) s) d (due-type o s l small d)

    filled_none : (o s : ℕ) → o < m.count → s < 32 → due old (type_of o) s ≡ 0 → value_in m o s ≡ 0
    filled_none o s l small d = filled-value o s l small ∙ chosen_none old new wold wnew (due old (type_of o) s) d

    pub filled-due : (o s : ℕ) → o < m.count → s < 32 → value_in m o s ≢ 0 → due old (type_of o) s ≢ 0
    filled-due o s l small v z = v (filled_none o s l small z)

    valued-due : (o s : ℕ) → o < m.count → s < 32 → not (eqb (value_in m o s) 0) ≡ not (eqb (due old (type_of o) s) 0)
    valued-due o s l small =
        ⊎_elim (λ z. ap not (eq-eqb _ _ (filled_none o s l small (eqb-true _ _ z)) ∙ sym z))
        (λ z. ap not (ne_eqb (value_in m o s) 0 (λ q. let e : value_in m o s ≡ 1 + chosen_code old new (due old (type_of o) s - 1) = filled-some o s l small (eqb-false _ _ z) in omega arith) ∙ sym z))
        (known (eqb (due old (type_of o) s) 0))

    slot_small : (s : ℕ) → s < length old.attributes → s < 32
    slot_small s l = let k = wold.few-attributes in omega arith

    -- ---- rule 3

    declared-due : (o : ℕ) (w : Name) → o < m.count → declared old (site_in old m) o w ≡ not (eqb (due old (type_of o) (attribute_slot old w)) 0)
    declared-due o w l =
        declared-alone old (site_in old m) o (name_of o) (filled-typed o l) w ∙ named-declared old wold (name_of o) w
        ∙ ap (λ (e : ℕ). not (eqb e 0)) (named-own old wold (type_of o) (filled-type o l) w)

    valued-in : (o : ℕ) (w : Name) → attribute_slot old w < length old.attributes → valued_in old m o w ≡ not (eqb (value_in m o (attribute_slot old w)) 0)
    unfolding valued_in both
    valued-in o w l = ap (λ (b : Bool). both b (not (eqb (value_in m o (attribute_slot old w)) 0))) (lt-ltb _ _ l)

    rule3-slot : (o a : ℕ) → o < m.count → a < length old.attributes → rule3_for old (site_in old m) o (attribute_at old a).name ≡ true
    unfolding rule3_for site_in
    rule3-slot o a l k =
        let w : Name = (attribute_at old a).name in
        let there = attribute-below old a k in
        let q : valued_in old m o w ≡ declared old (site_in old m) o w = valued-in o w there ∙ valued-due o (attribute_slot old w) l (slot_small _ there) ∙ sym (declared-due o w l) in
        (same-iff (valued_in old m o w) (declared old (site_in old m) o w)).1 ((λ h. sym q ∙ h), (λ h. q ∙ h))

    filled-rule3 : rule3 old (site_in old m) ≡ true
    unfolding rule3
    filled-rule3 = all_of _ _ each
      where
        each : (o : ℕ) → o < (site_in old m).count → rule3_at old (site_in old m) o ≡ true
        each o l = unfold rule3_at site_in kept_value value_kept in
            both_of _ _ (all_of _ (length old.attributes) (λ a k. rule3-slot o a l k))
            (all_of _ (m.count * 32) (λ x k. imp-of _ _ (λ h. rule3-slot o (x % 32) l (own_below old (x % 32) (both_left _ _ h)))))

    pub filled-rule3-in : rule3_in old m ≡ true
    unfolding rule3_in
    filled-rule3-in = both_of _ _ (ap not filled.stray-values) filled-rule3

    -- ---- rule 4

    -- a value of value type v belongs to it
    belongs-chosen : (s v : ℕ) → v < length old.value_types → belongs (coded_value old s (chosen_code old new v)) (value_type_at old v) ≡ true
    unfolding coded_value
    belongs-chosen s v l =
        belongs-known old wold (coded_value old s (chosen_code old new v)) v (chosen_code old new v) l (chosen-value old new wold wnew v l) refl refl
        ∙ eq-eqb _ _ (sym (chosen-type old new wold wnew v))

    -- what is asked of a value in slot s
    asked-slot : (o s k : ℕ) → o < m.count → own_attribute old s ≡ true
        → rule4_at old (alone (name_of o)) (coded_value old s k) ≡ fits_due old (coded_value old s k) (due old (type_of o) s)
    unfolding coded_value
    asked-slot o s k l own =
        named-fits old wold (name_of o) (coded_value old s k)
        ∙ ap (fits_due old (coded_value old s k)) (named-own old wold (type_of o) (filled-type o l) (attribute_at old s).name ∙ ap (due old (type_of o)) (own-slot old s own))

    value-fits : (o s : ℕ) → o < m.count → own_attribute old s ≡ true → value_in m o s ≢ 0 → rule4_at old (alone (name_of o)) (coded_value old s (value_in m o s - 1)) ≡ true
    value-fits o s l own some =
        let small : s < 32 = slot_small s (own_below old s own) in
        let v : ℕ = due old (type_of o) s - 1 in
        let d : due old (type_of o) s ≢ 0 = filled-due o s l small some in
        let is : value_in m o s ≡ 1 + chosen_code old new v = filled-some o s l small d in
        let code : value_in m o s - 1 ≡ chosen_code old new v = omega arith in
        subst (λ (k : ℕ). rule4_at old (alone (name_of o)) (coded_value old s k) ≡ true) (sym code)
        (asked-slot o s (chosen_code old new v) l own ∙ fits-part old (coded_value old s (chosen_code old new v)) (due old (type_of o) s) d
        ∙ both_of _ _ (ap not (ne_eqb (due old (type_of o) s) 255 (due-agrees o s l small))) (belongs-chosen s v (due-type o s l small d)))

    value-kept : (x : ℕ) → x < m.count * 32 → value_kept old m x ≡ true → rule4_at old (site_in old m) (kept_value old m x) ≡ true
    unfolding value_kept kept_value coded_value
    value-kept x l h =
        let o : x / 32 < m.count = omega arith in
        rule4-alone old (site_in old m) (name_of (x / 32)) (kept_value old m x) (coded_value old (x % 32) (value_in m (x / 32) (x % 32) - 1)) (filled-typed (x / 32) o) refl refl refl
        ∙ value-fits (x / 32) (x % 32) o (both_left _ _ h) (eqb-false _ 0 (not-true _ (both_right _ _ h)))

    pub filled-rule4 : rule4 old (site_in old m) ≡ true
    unfolding rule4 site_in
    filled-rule4 = all_of _ (m.count * 32) (λ x l. imp-of _ _ (value-kept x l))

    -- ---- what can be written

    pub filled-is-value : (o s : ℕ) → o < m.count → s < length old.attributes → value_in m o s ≢ 0 → IsValue old (value_in m o s - 1)
    filled-is-value o s l k some =
        let small : s < 32 = slot_small s k in
        let v : ℕ = due old (type_of o) s - 1 in
        let d : due old (type_of o) s ≢ 0 = filled-due o s l small some in
        let is : value_in m o s ≡ 1 + chosen_code old new v = filled-some o s l small d in
        let code : value_in m o s - 1 ≡ chosen_code old new v = omega arith in
        subst (IsValue old) (sym code) (chosen-value old new wold wnew v (due-type o s l small d))
