-- The numbers of the tables decide which types are bad.
-- Assumes nothing.
use Prim.Native.Nat.{◌*◌, ◌+◌, ◌-◌, ◌<◌, ◌≤◌, ℕ}
use native.Mathlib.Omega.{arith}
use mathlib.Core.Bool.{Bool, ◌&&◌, cond, false, not, true}
use mathlib.Core.List.{List}
use mathlib.Core.Logic.{◌≢◌, ⊎_elim}
use mathlib.Core.Path.{◌∙◌, ◌≡◌, ap, ap₂, refl, subst, sym}
use lib.Dec.{eqb, ltb}
use lib.ListN.{get_or, length}
use borrow.Author.Tests.{eqb-false, eqb-true, le-ltb, lt-ltb, ltb-false, ltb-true}
use Rattle.laws.specs.Bits.{Marks}
use Rattle.laws.specs.Bounded.{all}
use Rattle.laws.specs.Connective.{both, either, imp}
use Rattle.laws.proofs.BoundedLaws.{all-ext}
use Rattle.laws.proofs.ConnectiveLaws.{both-chain, known}
use Rattle.laws.proofs.SearchLaws.{both-no}
use Rattle.files.specs.Diagram.{Diagram, attribute_at, is_concrete, type_at}
use Rattle.files.specs.Name.{Name}
use Rattle.files.specs.WellFormedDiagram.{WfDiagram}
use Rattle.diagrams.specs.declared.StoredDiagram.{StoredDiagram}
use Rattle.diagrams.specs.Held.{Held}
use Rattle.diagrams.specs.View.{diagram_of}
use Rattle.diagrams.proofs.ViewLaws.{attribute-count, type-count}
use Rattle.records.specs.Slots.{attribute_slot, type_index}
use Rattle.records.proofs.SlotLaws.{index_of}
use Rattle.type_tables.specs.Due.{due}
use Rattle.type_tables.specs.TypeTables.{Dues, Kinds}
use Rattle.type_tables.proofs.StoredLaws.{stored-kinds}
use Rattle.type_values.specs.Bad.{BadTypes, bad_by, codes_kept, names_kept, type_kept}
use Rattle.type_values.specs.Lacking.{due_kept, first_lacking, same_type, slot_asked, slot_kept}
use Rattle.type_values.specs.Named.{due_named}
use Rattle.type_values.specs.Numbers.{due_by, good_in, kept_in, slot_asked_in, slot_kept_in}
use Rattle.type_values.specs.Tables.{Lackings, SameTypes, Translated}
use Rattle.type_values.proofs.JoinedLaws.{due-known}
use Rattle.type_values.proofs.KeptLaws.{slots-are}
use Rattle.type_values.proofs.NamedLaws.{named-known, named-slot, rule1-named}

-- what is due for a name, by its place
due-by-name : (d : Diagram) → WfDiagram d → (dues : List ℕ) → Dues d dues → (name w : Name) (u s : ℕ) → u ≡ type_index d name → u < length d.types → s ≡ attribute_slot d w
    → due_by dues u (length d.attributes) s ≡ due_named d name w
unfolding due_by
due-by-name d wf dues is name w u s eu lu es =
    ⊎_elim
    (λ l.
    let below : s < length d.attributes = ltb-true _ _ l in
    let few = wf.few-attributes in
    let small : s < 32 = omega arith in
    ap (λ (b : Bool). cond b (get_or dues (u * 32 + s) 0) 0) l ∙ is.exact u s lu small ∙ ap₂ (due d) eu es
    ∙ sym (named-known d wf name (subst (λ (n : ℕ). n < length d.types) eu lu) w))
    (λ l. ap (λ (b : Bool). cond b (get_or dues (u * 32 + s) 0) 0) l ∙ sym (none l)) (known (ltb s (length d.attributes)))
  where
    none : ltb s (length d.attributes) ≡ false → due_named d name w ≡ 0
    none l =
        ⊎_elim (λ z. eqb-true _ _ z)
        (λ z.
        let below : attribute_slot d w < length d.attributes = named-slot d wf name w (eqb-false _ _ z) in
        let past : length d.attributes ≤ s = ltb-false _ _ l in
        absurd (omega arith)) (known (eqb (due_named d name w) 0))

-- ---- what is asked for

module _ (old new : Diagram) (types firsts : List ℕ) (same : SameTypes old new types) (lacks : Lackings old new firsts) where
  kept-in : (e f : ℕ) → (e ≢ 0 → e ≢ 255 → e - 1 < length old.value_types) → kept_in types firsts e f ≡ due_kept old new e f
  unfolding kept_in due_kept
  kept-in e f within = ⊎_elim (λ z. rw z refl) (λ z. rw z (ap (both (not (eqb f 0))) (some z))) (known (eqb e 0))
    where
      some : eqb e 0 ≡ false
          → either (eqb e 255) (both (eqb f (1 + get_or types (e - 1) 0)) (eqb (get_or firsts (e - 1) 0) 8))
          ≡ either (eqb e 255) (both (eqb f (1 + same_type old new (e - 1))) (eqb (first_lacking old new (e - 1)) 8))
      some z =
          ⊎_elim (λ y. rw y (either_true _ _))
          (λ y.
          let l = within (eqb-false _ _ z) (eqb-false _ _ y) in
          ap₂ (λ (a b : ℕ). either (eqb e 255) (both (eqb f (1 + a)) (eqb b 8))) (same.exact (e - 1) l) (lacks.exact (e - 1) l)) (known (eqb e 255))
        where
          either_true : (a b : Bool) → either true a ≡ either true b
          either_true a b = unfold either in refl

-- ---- a type

either-imp : (a b : Bool) → either a b ≡ imp (not a) b
unfolding either imp
either-imp true b = refl
either-imp false b = refl

module _ (old new : Diagram) (wold : WfDiagram old) (wnew : WfDiagram new) (kinds olds news index slots back types firsts : List ℕ) (is-kinds : Kinds new kinds)
    (h : Translated old new olds news index slots back types firsts) (t : ℕ) (is-type : t < length old.types)
  where
    abbrev name : Name
    name = (type_at old t).name

    abbrev u : ℕ
    u = type_index new name

    abbrev m : ℕ
    m = length old.attributes

    abbrev n : ℕ
    n = length new.attributes

    module _ (there : u < length new.types) where
      slot-kept : (s : ℕ) → s < m → slot_kept_in olds news slots types firsts t u n s ≡ slot_kept old new t u s
      unfolding slot_kept_in slot_kept
      slot-kept s l =
          let few = wold.few-attributes in
          let small : s < 32 = omega arith in
          ap₂ (kept_in types firsts) (h.due-old.exact t s is-type small)
          (due-by-name new wnew news h.due-new name (attribute_at old s).name u (get_or slots s 0) refl there (h.forth.exact s l))
          ∙ kept-in old new types firsts h.same-types h.lackings (due old t s) (due_named new name (attribute_at old s).name) (due-known old wold t s).type-known

      slot-asked : (s : ℕ) → s < n → slot_asked_in olds news back t u m s ≡ slot_asked old new t u s
      unfolding slot_asked_in slot_asked
      slot-asked s l =
          let few = wnew.few-attributes in
          let small : s < 32 = omega arith in
          ap₂ (λ (e f : ℕ). either (eqb e 0) (not (eqb f 0))) (h.due-new.exact u s there small)
          (due-by-name old wold olds h.due-old name (attribute_at new s).name t (get_or back s 0) (sym (index_of old wold t is-type)) is-type (h.back-placed.exact s l))
          ∙ either-imp _ _

      slots-in : both (all (slot_kept_in olds news slots types firsts t u n) m) (all (slot_asked_in olds news back t u m) n) ≡ both (names_kept old new t) (codes_kept old new t)
      slots-in = ap₂ both (all-ext _ _ m slot-kept) (all-ext _ _ n slot-asked) ∙ slots-are old new wold wnew t is-type there

      concrete-in : either (eqb (get_or kinds u 0) 0) (eqb (get_or kinds u 0) 3) ≡ is_concrete (type_at new u)
      unfolding is_concrete
      concrete-in = ap (λ (k : ℕ). either (eqb k 0) (eqb k 3)) (is-kinds.exact u there)

    good-named : both (ltb u (length new.types))
        (both (either (eqb (get_or kinds u 0) 0) (eqb (get_or kinds u 0) 3))
        (both (all (slot_kept_in olds news slots types firsts t u n) m) (all (slot_asked_in olds news back t u m) n)))
        ≡ both (type_kept old new t) (both (names_kept old new t) (codes_kept old new t))
    unfolding type_kept
    good-named =
        ⊎_elim (λ l. ap (both (ltb u (length new.types))) (ap₂ both (concrete-in (ltb-true _ _ l)) (slots-in (ltb-true _ _ l)))) (λ l. sym (both-no _ l) ∙ both-no _ l)
        (known (ltb u (length new.types)))
        ∙ both-chain (ltb u (length new.types)) (is_concrete (type_at new u)) _
        ∙ ap (λ (b : Bool). both b (both (names_kept old new t) (codes_kept old new t))) (sym (rule1-named new wnew name))

    pub good-is : (count : ℕ) → count ≡ length new.types → not (good_in kinds count index olds news slots back types firsts m n t) ≡ bad_by old new t
    unfolding good_in bad_by
    good-is count e =
        ap not
        (ap₂
        (λ (i c : ℕ).
        both (ltb i c)
        (both (either (eqb (get_or kinds i 0) 0) (eqb (get_or kinds i 0) 3))
        (both (all (slot_kept_in olds news slots types firsts t i n) m) (all (slot_asked_in olds news back t i m) n)))) (h.types-placed.exact t is-type) e
        ∙ good-named)

-- ---- all types

pub bad-types-are : (old new : StoredDiagram) (olds news index slots back types firsts : List ℕ) (count m n end mask : ℕ) → Held old → Held new
    → Translated (diagram_of old) (diagram_of new) olds news index slots back types firsts
    → count ≡ new.types.count → m ≡ old.attributes.count → n ≡ new.attributes.count → end ≡ old.types.count
    → Marks (λ t. not (good_in new.types.kinds count index olds news slots back types firsts m n t)) end mask → BadTypes (diagram_of old) (diagram_of new) mask
bad-types-are old new olds news index slots back types firsts count m n end mask ho hn h ec em en ee marks = record {
  at = λ t l.
      marks t
      ∙ ap (λ (b : Bool). b && not (good_in new.types.kinds count index olds news slots back types firsts m n t)) (lt-ltb t end (subst (λ (i : ℕ). t < i) (type-count old ∙ sym ee) l))
      ∙ ap₂ (λ (i j : ℕ). not (good_in new.types.kinds count index olds news slots back types firsts i j t)) (em ∙ sym (attribute-count old)) (en ∙ sym (attribute-count new))
      ∙ good-is (diagram_of old) (diagram_of new) ho.wf hn.wf new.types.kinds olds news index slots back types firsts (stored-kinds new) h t l count (ec ∙ sym (type-count new));
  none = λ t l.
      marks t
      ∙ ap (λ (b : Bool). b && not (good_in new.types.kinds count index olds news slots back types firsts m n t)) (le-ltb t end (subst (λ (i : ℕ). i ≤ t) (type-count old ∙ sym ee) l));
}
