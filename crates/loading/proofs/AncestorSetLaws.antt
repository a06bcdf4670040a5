-- Ancestor sets in file order: what is reached from a type does not depend on the types that follow, so a new type's set is
-- its own bit with the sets of its parents, which are finished.
-- Assumes nothing.
use mathlib.Core.Path.{◌≡◌, refl, sym, ap, ap₂, ◌∙◌, subst}
use mathlib.Core.Bool.{Bool, true, false, ◌||◌}
use mathlib.Core.Logic.{⊎_elim}
use Prim.Native.Nat.{ℕ, suc, ◌+◌, ◌≤◌, ◌<◌}
use native.Mathlib.Decide.{dec_lt}
use native.Mathlib.Numerals.{add-one}
use native.Mathlib.Omega.{arith}
use mathlib.Core.List.{List, [], ◌∷◌, ◌++◌}
use lib.Bits.{bit_or}
use lib.Dec.{eqb}
use lib.ListN.{length, get_or, get_or-append, get_or-eq_default}
use lib.Seq.{get_or-append_seam}
use Rattle.laws.specs.Bits.{bit}
use Rattle.laws.specs.Bounded.{any}
use Rattle.laws.specs.Connective.{either}
use Rattle.laws.proofs.BitLaws.{bit-or, bit-zero}
use Rattle.laws.proofs.BoundedLaws.{any-ext, any-more, last, eqb-turned}
use Rattle.laws.proofs.ConnectiveLaws.{either-false}
use Rattle.laws.proofs.ListLaws.{snoc-below}
use Rattle.files.specs.Ancestor.{reaches}
use Rattle.files.specs.Diagram.{Diagram, TypeDef, type_at}
use Rattle.files.proofs.AncestorLaws.{Below, reaches_step}
use Rattle.files.proofs.FirstTypeLaws.{reached-same}
use Rattle.diagrams.specs.declared.Types.{Types}
use Rattle.diagrams.specs.Held.{Sets, only_types}
use Rattle.diagrams.specs.View.{types_of}
use Rattle.loading.specs.Stored.{SetOf}
use Rattle.refusing.proofs.NumberLaws.{type-total}

-- ---- a loop that gathers the sets of the parents

-- the set of type t, of its first n parents
abbrev pub SetSoFar : List ℕ → ℕ → List ℕ → ℕ → ℕ → Type 0
SetSoFar sets t ps n m = (j : ℕ) → bit j m ≡ either (eqb t j) (any (λ s. bit j (get_or sets (get_or ps s 0) 0)) n)

pub set-begin : (sets : List ℕ) (t k : ℕ) (ps : List ℕ) (m : ℕ) → k ≡ t → ((j : ℕ) → bit j m ≡ bit j 0 || eqb j k) → SetSoFar sets t ps 0 m
unfolding any
set-begin sets t k ps m q f j =
    f j ∙ ap₂ (λ (a : Bool) (i : ℕ). a || eqb j i) (bit-zero j) q ∙ eqb-turned j t ∙ sym (either-false (eqb t j))

or-either : (a b c : Bool) → either a b || c ≡ either a (b || c)
unfolding either
or-either true b c = refl
or-either false b c = refl

pub set_next : (sets : List ℕ) (t : ℕ) (ps : List ℕ) (k m : ℕ) {p : ℕ} → SetSoFar sets t ps k m → p ≡ get_or ps k 0 → SetSoFar sets t ps (k + 1) (bit_or m (get_or sets p 0))
set_next sets t ps k m {p} f e j =
    bit-or j m (get_or sets p 0) ∙ ap₂ (λ (a : Bool) (i : ℕ). a || bit j (get_or sets i 0)) (f j) e
    ∙ or-either (eqb t j) (any (λ s. bit j (get_or sets (get_or ps s 0) 0)) k) (bit j (get_or sets (get_or ps k 0) 0))
    ∙ ap (either (eqb t j)) (sym (any-more (λ s. bit j (get_or sets (get_or ps s 0) 0)) k))

-- ---- one type more

abbrev only : List TypeDef → Diagram
only ts = record { value_types = []; types = ts; attributes = []; associations = [] }

abbrev no_type : TypeDef
no_type = record { kind = 0; name = []; parents = [] }

-- each parent of the type is below n
abbrev ParentsBelow : TypeDef → ℕ → Type 0
ParentsBelow x n = (s : ℕ) → s < length x.parents → get_or x.parents s 0 < n

below-more-types : (ts : List TypeDef) (x : TypeDef) → Below (only ts) → ParentsBelow x (length ts) → Below (only (ts ++ (x ∷ [])))
below-more-types ts x f g i = go (dec_lt i (length (ts ++ (x ∷ []))))
  where
    go : Dec (i < length (ts ++ (x ∷ []))) → ParentsBelow (type_at (only (ts ++ (x ∷ []))) i) i
    go (yes h) =
        ⊎_elim (λ w. subst (λ (y : TypeDef). ParentsBelow y i) (sym w.1) (f i))
        (λ w. subst (λ (y : TypeDef). ParentsBelow y i) (sym w.1) (subst (ParentsBelow x) (sym w.0) g)) (snoc-below ts x i no_type h)
    go (no h) =
        let beyond : length (ts ++ (x ∷ [])) ≤ i = omega arith in
        subst (λ (y : TypeDef). ParentsBelow y i) (sym (get_or-eq_default (ts ++ (x ∷ [])) no_type beyond)) (λ s l. absurd (omega arith))

-- the sets with that of the new type are exact
pub sets_more : (t r : Types) (x : TypeDef) → types_of r ≡ types_of t ++ (x ∷ []) → r.count ≡ t.count + 1
    → Below (only_types t) → ParentsBelow x t.count → Sets t → ((i : ℕ) → i < t.count → get_or r.sets i 0 ≡ get_or t.sets i 0)
    → SetOf t.sets t.count x.parents (get_or r.sets t.count 0) → Sets r
sets_more t r x says count below known sets finished joined =
    let ts : List TypeDef = types_of t in
    let size : length ts ≡ t.count = type-total t in
    let new : Diagram = only (ts ++ (x ∷ [])) in
    let under : Below new = below-more-types ts x below (subst (ParentsBelow x) (sym size) known) in
    let agree : (i : ℕ) → i < length ts → type_at new i ≡ type_at (only ts) i = λ i l. get_or-append ts (x ∷ []) no_type i l in
    let at : type_at new t.count ≡ x = ap (type_at new) (sym size) ∙ get_or-append_seam ts x [] no_type in
    let old : (i j : ℕ) → i < t.count → bit j (get_or t.sets i 0) ≡ reaches new i j =
    λ i j l. sets.exact i j l ∙ sym (reached-same (only ts) new (length ts) agree below i j (subst (λ (n : ℕ). i < n) (sym size) l)) in
    let whole : (i j : ℕ) → i < suc t.count → bit j (get_or r.sets i 0) ≡ reaches new i j =
    λ i j l.
    ⊎_elim
    (λ e.
    ap (λ (k : ℕ). bit j (get_or r.sets k 0)) e ∙ joined j
    ∙ ap (either (eqb t.count j)) (any-ext _ _ (length x.parents) (λ s b. old (get_or x.parents s 0) j (known s b)))
    ∙ ap (λ (y : TypeDef). either (eqb t.count j) (any (λ s. reaches new (get_or y.parents s 0) j) (length y.parents))) (sym at)
    ∙ sym (reaches_step new under t.count j) ∙ ap (λ (k : ℕ). reaches new k j) (sym e))
    (λ b. ap (bit j) (finished i b) ∙ old i j b) (last l) in
    record {
      exact = λ i j l.
          whole i j (subst (λ (n : ℕ). i < n) (count ∙ add-one t.count) l) ∙ ap (λ (ys : List TypeDef). reaches (only ys) i j) (sym says);
    }
