-- The refusals of a field, by the tests as the code has them.
-- Assumes nothing.
use Prim.Native.Nat.{ℕ, ◌<◌, ◌≤◌}
use native.Mathlib.Decide.{dec_lt}
use native.Mathlib.Omega.{arith}
use mathlib.Core.Bool.{Bool, true, false, not, ◌&&◌}
use mathlib.Core.List.{List, [], ◌∷◌}
use mathlib.Core.Path.{◌≡◌, sym, ap, ap₂, ◌∙◌}
use lib.Dec.{eqb, ltb}
use lib.ListN.{length, get_or-eq_default, drop, get_or}
use borrow.Author.Tests.{le-leb, le-ltb, lt-leb, lt-ltb}
use Rattle.laws.specs.Bounded.{any}
use Rattle.laws.specs.Connective.{both, either, refuse}
use Rattle.laws.specs.Lists.{joined}
use Rattle.laws.proofs.BoundedLaws.{all-ext, any-ext}
use Rattle.laws.proofs.JoinedLaws.{length-each, get_or-each}
use Rattle.laws.proofs.ConnectiveLaws.{both_of, either_left, either-right}
use Rattle.laws.proofs.SearchLaws.{chain, both-left-no, both-right-no, either-none}
use Rattle.fields.specs.Slot.{is_among}
use Rattle.files.specs.Content.{name_in, past_name, past_names}
use Rattle.files.specs.Diagram.{TypeDef, ValueType, is_interface, type_at, value_type_at}
use Rattle.files.specs.DiagramFile.{rising, type_named, type_refusal, value_type_named}
use Rattle.files.specs.DiagramLayout.{type_laid, type_of, value_type_of}
use Rattle.files.specs.Name.{differ, same_name}
use Rattle.files.specs.Refusal.{full}
use Rattle.diagrams.specs.declared.ValueTypes.{ValueTypes}
use Rattle.diagrams.specs.declared.Types.{Types}
use Rattle.diagrams.specs.Held.{only_types}
use Rattle.diagrams.specs.View.{type_in, types_of, value_type_in, value_types_of}
use Rattle.refusing.specs.Numbers.{below, interfaces, kind_breaks, only_value_types}

abbrev no_type : TypeDef
no_type = record { kind = 0; name = []; parents = [] }

-- ---- a test that was asked for by `!`

pub not_yes : {r p : Bool} → r ≡ p → not r ≡ true → not p ≡ true
not_yes e h = ap not (sym e) ∙ h

pub not-no : {r p : Bool} → r ≡ p → not r ≡ false → not p ≡ false
not-no e h = ap not (sym e) ∙ h

-- ---- 4, by the count

pub full-yes : (most n : ℕ) → most ≤ n → full most n ≡ true
unfolding full
full-yes most n h = le-leb most n h

pub full-no : (most n : ℕ) → n < most → full most n ≡ false
unfolding full
full-no most n h = lt-leb most n h

pub value-type-total : (v : ValueTypes) → length (value_types_of v) ≡ v.count
unfolding value_types_of
value-type-total v = length-each (value_type_in v) (record { name = []; constants = [] }) v.count

pub type-total : (t : Types) → length (types_of t) ≡ t.count
unfolding types_of
type-total t = length-each (type_in t) no_type t.count

pub value-types-full : (v : ValueTypes) (most : ℕ) → most ≤ v.count → full most (length (value_types_of v)) ≡ true
value-types-full v most h = ap (full most) (value-type-total v) ∙ full-yes most v.count h

pub value-types-room : (v : ValueTypes) (most : ℕ) → v.count < most → full most (length (value_types_of v)) ≡ false
value-types-room v most h = ap (full most) (value-type-total v) ∙ full-no most v.count h

-- ---- 5, by the slots

pub value-type-named : (v : ValueTypes) (c : List ℕ) {w : List ℕ} {r b : Bool} → w ≡ name_in c → r ≡ is_among v.names v.count w → r ≡ b
    → value_type_named (only_value_types v) (value_type_of c).name ≡ b
unfolding is_among value_type_named value_types_of value_type_in value_type_of
value-type-named v c {w} e q h =
    ap (any (λ i. same_name (value_type_at (only_value_types v) i).name (name_in c))) (value-type-total v)
    ∙ any-ext _ _ v.count
    (λ i l. ap₂ (λ (x : ValueType) (y : List ℕ). same_name x.name y) (get_or-each (value_type_in v) (record { name = []; constants = [] }) v.count i l) (sym e)) ∙ sym q ∙ h

pub constants-by : (c rest s : List ℕ) (n : ℕ) {r : Bool} → rest ≡ past_name c → s ≡ drop 1 rest → n ≡ get_or rest 0 0
    → r ≡ differ (joined (λ i. name_in (past_names i s) ∷ []) n) → r ≡ differ (value_type_of c).constants
unfolding value_type_of
constants-by c rest s n p q e h =
    h ∙ ap₂ (λ (x : List ℕ) (m : ℕ). differ (joined (λ i. name_in (past_names i x) ∷ []) m)) (q ∙ ap (drop 1) p) (e ∙ ap (λ (x : List ℕ). get_or x 0 0) p)

pub type-named : (t : Types) (c : List ℕ) {w : List ℕ} {r : Bool} → w ≡ (type_of c).name → r ≡ is_among t.names t.count w
    → r ≡ type_named (only_types t) (type_of c).name
unfolding is_among type_named types_of type_in
type-named t c {w} e q =
    sym
    (ap (any (λ i. same_name (type_at (only_types t) i).name (type_of c).name)) (type-total t)
    ∙ any-ext _ _ t.count
    (λ i l. ap₂ (λ (x : TypeDef) (y : List ℕ). same_name x.name y) (get_or-each (type_in t) no_type t.count i l) (sym e)) ∙ sym q)

-- ---- 6 and 7

-- a type past the last one is no interface
interface-at : (t : Types) (p : ℕ) → is_interface (type_at (only_types t) p) ≡ ltb p t.count && eqb (get_or t.kinds p 0) 2
unfolding is_interface types_of type_in
interface-at t p = go (dec_lt p t.count)
  where
    go : Dec (p < t.count) → eqb (type_at (only_types t) p).kind 2 ≡ ltb p t.count && eqb (get_or t.kinds p 0) 2
    go (yes h) =
        ap (λ (x : TypeDef). eqb x.kind 2) (get_or-each (type_in t) no_type t.count p h) ∙ ap (λ (b : Bool). b && eqb (get_or t.kinds p 0) 2) (sym (lt-ltb p t.count h))
    go (no h) =
        let beyond : length (types_of t) ≤ p = omega (arith, type-total t) in
        let past : t.count ≤ p = omega arith in
        ap (λ (x : TypeDef). eqb x.kind 2) (get_or-eq_default (types_of t) no_type beyond)
        ∙ ap (λ (b : Bool). b && eqb (get_or t.kinds p 0) 2) (sym (le-ltb p t.count past))

pub kind-by : (t : Types) (c : List ℕ) {k : ℕ} {r : Bool} → k ≡ get_or c 0 0 → r ≡ interfaces t.kinds t.count (type_of c).parents → eqb k 2 && not r ≡ kind_breaks t c
unfolding kind_breaks both is_interface interfaces type_of
kind-by t c e p =
    ap₂ (λ (a b : Bool). a && not b) (ap (λ (x : ℕ). eqb x 2) e)
    (p ∙ sym (all-ext _ _ (length (type_of c).parents) (λ s l. interface-at t (get_or (type_of c).parents s 0))))

-- the whole chain, by the counts
pub type-by : (t : Types) (c : List ℕ) {r : ℕ}
    → r
    ≡ refuse (full 24 t.count) 4
    (refuse (not (type_laid c)) 3
    (refuse (either (type_named (only_types t) (type_of c).name) (not (rising (type_of c).parents))) 5
    (refuse (not (below t.count (type_of c).parents)) 6 (refuse (kind_breaks t c) 7 0)))) → r ≡ type_refusal (only_types t) c
unfolding type_refusal below kind_breaks
type-by t c e = rw (type-total t) e

-- for `search`, with the definition of the refusal unfolded
pub ruleset numbers = (
  chain,
  not_yes,
  not-no,
  full-yes,
  full-no,
  either_left,
  either-right,
  either-none,
  both_of,
  both-left-no,
  both-right-no,
)
