-- Each declaration of a text is a type, an enumeration or an association; so more than 52 of them, which is 01's 24, 12 and 16
-- together, are over some limit.
-- Assumes nothing.
use Prim.Native.Nat.{◌+◌, ◌<◌, ◌≤◌, suc, zero, ℕ}
use native.Mathlib.Omega.{arith}
use mathlib.Core.Bool.{Bool, false, false≢true, true}
use mathlib.Core.List.{List, [], ◌∷◌, map}
use mathlib.Core.Logic.{⊎_elim}
use mathlib.Core.Path.{◌≡◌, refl}
use lib.ListN.{get_or, length, length-append}
use native.Mathlib.Nat.{le_step, lt-suc_self, not-suc-le-zero}
use Rattle.laws.specs.Bounded.{one, tally}
use Rattle.laws.specs.Connective.{either}
use Rattle.laws.proofs.ConnectiveLaws.{known}
use Rattle.laws.proofs.PickedLaws.{length-picked}
use Rattle.files.specs.Diagram.{ValueType}
use Rattle.texts.specs.Declaration.{Declaration, declaration_at, declaration_of, declarations, form_of, is_association, is_enumeration, is_type, kind_of, nothing}
use Rattle.texts.specs.Declared.{enumerations, plain_types, types_before, value_types_of}
use Rattle.texts.specs.Grammar.{Item, Tree, abstract, association, association_item, class_item, composition, enum_item, interface_item, plain, singleton}
use Rattle.texts.specs.TextChecks.{is_overfull}
use Rattle.texts.proofs.DeclaredCountLaws.{few}

-- ---- each is one of three

abbrev is_some : Declaration → Bool
is_some d = either (is_type d) (either (is_enumeration d) (is_association d))

item-some : (i : Item) → is_some (declaration_of i) ≡ true
unfolding either is_type is_enumeration is_association declaration_of kind_of form_of
item-some (class_item plain n s f b) = refl
item-some (class_item abstract n s f b) = refl
item-some (class_item singleton n s f b) = refl
item-some (interface_item n s) = refl
item-some (enum_item n c) = refl
item-some (association_item association l a r) = refl
item-some (association_item composition l a r) = refl

items-some : (is : List Item) (k : ℕ) → k < length (map declaration_of is) → is_some (get_or (map declaration_of is) k nothing) ≡ true
items-some [] k h = absurd (not-suc-le-zero h)
items-some (i ∷ is) zero h = item-some i
items-some (i ∷ is) (suc k) h = items-some is k (omega arith)

-- ---- so the three counts together are all

one-some : (a b c : Bool) → either a (either b c) ≡ true → 1 ≤ one a + one b + one c
unfolding either
one-some true b c e = omega arith
one-some false true c e = omega arith
one-some false false true e = omega arith
one-some false false false e = absurd (false≢true e)

all-counted : (a b c : ℕ → Bool) (n : ℕ) → ((k : ℕ) → k < n → either (a k) (either (b k) (c k)) ≡ true) → n ≤ tally a n + tally b n + tally c n
unfolding tally
all-counted a b c zero f = omega arith
all-counted a b c (suc n) f = omega (arith, all-counted a b c n (λ k l. f k (le_step l)), one-some (a n) (b n) (c n) (f n (lt-suc_self n)))

enumerations-counted : (ds : List Declaration) → tally (λ k. is_enumeration (declaration_at ds k)) (length ds) ≤ length (value_types_of ds)
unfolding value_types_of enumerations
enumerations-counted ds =
    let e = length-picked {A = ValueType} (λ k. is_enumeration (declaration_at ds k)) (λ k. record { name = (declaration_at ds k).name; constants = (declaration_at ds k).constants }) (length ds) in
    let a = length-append (enumerations ds) (plain_types ds) in
    omega arith

-- more than 52 are over some limit
pub many-overfull : (t : Tree) → 52 < length (declarations t) → is_overfull (declarations t) ≡ true
unfolding declarations types_before
many-overfull t h = ⊎_elim (λ e. e) (λ e. absurd (no e)) (known (is_overfull (declarations t)))
  where
    no : is_overfull (declarations t) ≡ false → ⊥
    no e =
        let ds = declarations t in
        let m = few ds e in
        let c = all-counted (λ k. is_type (declaration_at ds k)) (λ k. is_enumeration (declaration_at ds k)) (λ k. is_association (declaration_at ds k)) (length ds) (items-some t.items) in
        let v = enumerations-counted ds in
        let x = m.types in
        let y = m.value-types in
        let z = m.associations in
        omega arith
