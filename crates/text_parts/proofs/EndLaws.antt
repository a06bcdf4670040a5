-- The parts of an end, as calls give them: its role, and its limits as the code has them.
-- Assumes nothing.
use Prim.Native.Nat.{ℕ}
use mathlib.Core.Bool.{Bool, cond, false, not, true}
use mathlib.Core.List.{List, [], ◌∷◌}
use mathlib.Core.Path.{◌≡◌, ap, refl, subst, sym, ◌∙◌}
use native.Mathlib.Omega.{arith}
use borrow.Author.Rules.{rules}
use borrow.Author.Tests.{eq-eqb, ne_eqb}
use lib.Dec.{eqb}
use lib.ListN.{get_or, length}
use Rattle.files.specs.Limit.{none_of}
use Rattle.files.specs.Name.{Name}
use Rattle.texts.specs.Declaration.{lowered, value}
use Rattle.texts.specs.Table.{declaration_in, end_for, limits_in, passes, role_in, words_for}
use Rattle.text_rows.specs.RowAt.{declaration_by, row_at}
use Rattle.text_parts.specs.Ends.{Capped, capped, capped_upper, end_on, role_given, role_word, role_words, type_words}
use Rattle.text_parts.specs.declared.Limits.{Limits as CappedLimits}
use Rattle.text_parts.specs.declared.Side.{Side}
use Rattle.text_parts.specs.declared.Side.TheVariants.{Left, Right}
use Rattle.text_rows.specs.Scan.{IsFirst}
use Rattle.std.specs.Prelude.{Option, None, Some, unwrap_or}
use Rattle.std.specs.Option.{MatchOption}
use Rattle.std.specs.Borrow.{Bor}

-- ---- roles

-- where the words of a role are `roles`
either-word : (roles : List Name) (type : Name) (none : Bool)
    → cond none (lowered type) (get_or roles 0 []) ≡ cond (not none) (cond (not none) (get_or roles 0 []) type) (lowered (cond (not none) (get_or roles 0 []) type))
either-word roles type true = refl
either-word roles type false = refl

type-is : (side : Side) (s : List ℕ) → (end_on side (declaration_by s)).type ≡ get_or (type_words side (row_at s)) 0 []
unfolding declaration_by declaration_in end_for
type-is Left s = refl
type-is Right s = refl

-- the word that is written, or else the type's name lowered
pub role-is : (side : Side) (s : List ℕ) → (end_on side (declaration_by s)).role ≡ cond (role_given side (row_at s)) (role_word side (row_at s)) (lowered (role_word side (row_at s)))
unfolding declaration_by declaration_in end_for role_in role_word role_given
role-is Right s = either-word (role_words Right (row_at s)) (get_or (type_words Right (row_at s)) 0 []) (eqb (length (role_words Right (row_at s))) 0)
role-is Left s = either-word (role_words Left (row_at s)) (get_or (type_words Left (row_at s)) 0 []) (eqb (length (role_words Left (row_at s))) 0)

-- as the code tells it
module _ (side : Side) (s : List ℕ) where
  pub role-written : {w : Name} → (length (role_words side (row_at s)) ≡ 0 → ⊥) → w ≡ get_or (role_words side (row_at s)) 0 [] → w ≡ role_word side (row_at s)
  unfolding role_word role_given
  role-written h e = e ∙ rw (ne_eqb _ 0 h)

  pub role-type : {w : Name} → length (role_words side (row_at s)) ≡ 0 → w ≡ (end_on side (declaration_by s)).type → w ≡ role_word side (row_at s)
  unfolding role_word role_given
  role-type h e = e ∙ type-is side s ∙ rw (eq-eqb _ 0 h)

  pub role-by : (o : Option (Bor (List ℕ))) (d : Bor (List ℕ)) {w : Bor (List ℕ)} → IsFirst (role_words side (row_at s)) o
      → d.now ≡ (end_on side (declaration_by s)).type → w ≡ unwrap_or o d → w.now ≡ role_word side (row_at s)
  role-by None d h t e = rw e (role-type h t)
  role-by (Some v) d h t e = rw e (role-written h.0 h.1)

-- ---- limits

module _ (lows : List Name) (dots : Bool) (ups : List Name) {n : ℕ} (count : n ≡ length lows) where
  pub limits-free : n ≡ 0 → {u : ℕ} → u ≡ none_of 2 → Capped (limits_in lows dots ups) (record { low = 0; up = u })
  unfolding limits_in capped_upper
  limits-free z q = let e = eq-eqb (length lows) 0 (sym count ∙ z) in record { low-is = rw e; up_is = rw (e, q) }

  module _ {a : ℕ} {w : Name} {d : Bool} (some : n ≡ 0 → ⊥) (first : w ≡ get_or lows 0 []) (low : a ≡ capped (value w)) (asked : d ≡ dots) where
    pub limits-one : d ≡ false → Capped (limits_in lows dots ups) (record { low = a; up = a })
    unfolding limits_in capped_upper
    limits-one t = let e = ne_eqb (length lows) 0 (λ z. some (count ∙ z)) in record { low-is = rw (e, low, first); up_is = rw (e, sym asked ∙ t, low, first) }

    pub limits-up : (o : Option (Bor (List ℕ))) {b u : ℕ} → d ≡ true → IsFirst ups o → u ≡ none_of 2 → MatchOption o (b ≡ u) (λ v. b ≡ capped (value v.now))
        → Capped (limits_in lows dots ups) (record { low = a; up = b })
    unfolding limits_in capped_upper
    limits-up None t z q up =
        let e = ne_eqb (length lows) 0 (λ z. some (count ∙ z)) in
        record { low-is = rw (e, low, first); up_is = rw (e, sym asked ∙ t, eq-eqb (length ups) 0 z, up, q) }
    limits-up (Some v) t l q up =
        let e = ne_eqb (length lows) 0 (λ z. some (count ∙ z)) in
        record { low-is = rw (e, low, first); up_is = rw (e, sym asked ∙ t, ne_eqb (length ups) 0 l.0, up, l.1) }

-- which end they are of
module _ (s : List ℕ) {side : Side} {r : CappedLimits} where
  pub limits-right : side ≡ Right → Capped (limits_in (words_for 41 41 41 (row_at s)) (passes 42 (row_at s)) (words_for 43 43 43 (row_at s))) r → Capped (end_on side (declaration_by s)).limits r
  unfolding declaration_by declaration_in end_for
  limits-right t c = subst (λ (b : Side). Capped (end_on b (declaration_by s)).limits r) (sym t) c

  pub limits-left : side ≡ Left → Capped (limits_in (words_for 27 27 27 (row_at s)) (passes 28 (row_at s)) (words_for 29 29 29 (row_at s))) r → Capped (end_on side (declaration_by s)).limits r
  unfolding declaration_by declaration_in end_for
  limits-left t c = subst (λ (b : Side). Capped (end_on b (declaration_by s)).limits r) (sym t) c

-- the type's name, by the first word
pub type-word : (ws : List Name) (o : Option (Bor (List ℕ))) (d : Bor (List ℕ)) {w : Bor (List ℕ)} → IsFirst ws o → d.now ≡ [] → w ≡ unwrap_or o d → w.now ≡ get_or ws 0 []
type-word [] None d i f e = ap (λ (b : Bor (List ℕ)). b.now) e ∙ f
type-word (x ∷ ws) None d i f e = absurd (omega arith)
type-word ws (Some v) d i f e = ap (λ (b : Bor (List ℕ)). b.now) e ∙ i.1

-- for `search`
pub ruleset ends = (
  rules,
  limits-free,
  limits-one,
  limits-up,
  limits-right,
  limits-left,
)
