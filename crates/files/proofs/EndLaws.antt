-- An end of an association in either edition: written, it is on its layout and says what was written; on its layout, it is the writing
-- of what it says, and its limits fit the edition. Laws that go by the layout are shown of editions 1 and 2, whose layouts compute.
-- Assumes nothing.
use Prim.Native.Nat.{◌*◌, ◌+◌, ◌<◌, ◌≤◌, ℕ}
use native.Mathlib.Omega.{arith}
use mathlib.Core.Bool.{Bool, cond, false, true, true≢false}
use mathlib.Core.List.{List, [], ◌++◌, ◌∷◌}
use mathlib.Core.Logic.{⊎_elim}
use mathlib.Core.Path.{◌∙◌, ◌≡◌, ap, ap₂, refl, subst, sym}
use lib.Dec.{eqb}
use lib.ListN.{drop, length}
use borrow.Author.Tests.{eq-eqb, eqb-true, le-leb, leb-true, lt-ltb, ltb-true, ne_eqb}
use Rattle.laws.specs.Connective.{imp}
use Rattle.files.specs.Content.{byte, starts_name}
use Rattle.files.specs.Diagram.{End, Upper, at_most, no_limit}
use Rattle.files.specs.DiagramBytes.{end_bytes}
use Rattle.files.specs.DiagramLayout.{end_laid, end_of, past_end}
use Rattle.files.specs.Limit.{Edition, is_wide, limit_at, limit_bytes, limit_written, limits_laid, most_of, none_of, upper_number, upper_of}
use Rattle.files.specs.Name.{valid_name}
use Rattle.files.specs.WellFormedDiagram.{FitsLimits, FitsUpper}
use Rattle.laws.proofs.ConnectiveLaws.{both_left, both_of, both_right, either-cases, either_left, either-right}
use Rattle.files.specs.Field.{two_bytes}
use Rattle.files.proofs.FieldLaws.{bytes-again, number-again}
use Rattle.files.proofs.ContentLaws.{name-again, name-in, name-past, name-starts}

-- what holds for editions 1 and 2 holds for each
pub by-edition : (P : ℕ → Type 0) → P 1 → P 2 → (e : ℕ) → Edition e → P e
by-edition P p q e h = ⊎_elim (λ k. subst P (sym k) p) (λ k. subst P (sym k) q) h

-- ---- limits

-- the largest finite limit, the number for none and 65,535 stand in this order
pub most-below : (e : ℕ) → most_of e ≤ none_of e
most-below e = go (is_wide e)
  where
    go : (b : Bool) → cond b (most_of 2) (most_of 1) ≤ cond b (none_of 2) (none_of 1)
    go true = omega arith
    go false = omega arith

pub none-wide : (e : ℕ) → none_of e ≤ none_of 2
none-wide e = go (is_wide e)
  where
    go : (b : Bool) → cond b (none_of 2) (none_of 1) ≤ none_of 2
    go true = omega arith
    go false = omega arith

-- edition 2 has the larger limits
pub most-wide : (e : ℕ) → most_of e ≤ most_of 2
most-wide e = go (is_wide e)
  where
    go : (b : Bool) → cond b (most_of 2) (most_of 1) ≤ most_of 2
    go true = omega arith
    go false = omega arith

-- the number for an upper limit says that one
upper-of : (e low : ℕ) (up : Upper) → most_of e < none_of e → FitsUpper e low up → upper_of e (upper_number e up) ≡ up
unfolding upper_of upper_number
upper-of e low (at_most n) b w = let l : n ≤ most_of e = w.1 in rw (ne_eqb n (none_of e) (λ q. let z : n ≡ none_of e = q in omega arith))
upper-of e low no_limit b w = rw (eq-eqb (none_of e) (none_of e) refl)

-- limits on their layout are such that the edition has numbers for them
limits-upper : (e low up : ℕ) → limits_laid e low up ≡ true → FitsUpper e low (upper_of e up)
unfolding limits_laid upper_of
limits-upper e low up h = go (eqb up (none_of e)) refl
  where
    go : (b : Bool) → eqb up (none_of e) ≡ b → FitsUpper e low (cond b no_limit (at_most up))
    go true q = tt
    go false q =
        ⊎_elim (λ p. (leb-true low up (both_right _ _ p), leb-true up (most_of e) (both_left _ _ p))) (λ p. absurd (true≢false (sym p ∙ q)))
        (either-cases _ _ (both_right _ _ h))

limits-low : (e low up : ℕ) → limits_laid e low up ≡ true → low ≤ most_of e
unfolding limits_laid
limits-low e low up h = leb-true low (most_of e) (both_left _ _ h)

-- an upper limit is no larger than the number for none
pub up-most : (e low up : ℕ) → limits_laid e low up ≡ true → up ≤ none_of e
unfolding limits_laid
up-most e low up h =
    ⊎_elim (λ q. omega (arith, leb-true up (most_of e) (both_left _ _ q), most-below e)) (λ q. omega (arith, eqb-true up (none_of e) q)) (either-cases _ _ (both_right _ _ h))

pub end-fits : (e : ℕ) (c : List ℕ) → end_laid e c ≡ true → FitsLimits e (end_of e c).limits
unfolding end_laid end_of
end-fits e c h = record { low-fits = limits-low e _ _ (both_left _ _ h); up-fits = limits-upper e _ _ (both_left _ _ h) }

-- and such limits are on their layout
limits-laid : (e low : ℕ) (up : Upper) → low ≤ most_of e → FitsUpper e low up → limits_laid e low (upper_number e up) ≡ true
unfolding limits_laid upper_number
limits-laid e low (at_most n) l w = both_of _ _ (le-leb low (most_of e) l) (either_left _ _ (both_of _ _ (le-leb n (most_of e) w.1) (le-leb low n w.0)))
limits-laid e low no_limit l w = both_of _ _ (le-leb low (most_of e) l) (either-right _ _ (eq-eqb (none_of e) (none_of e) refl))

-- ---- written, then read

abbrev EndLaid : ℕ → Type 0
EndLaid e = (x : End) (rest : List ℕ) → FitsLimits e x.limits → valid_name x.role ≡ true → end_laid e (end_bytes e x ++ rest) ≡ true

pub end-laid : (e : ℕ) → Edition e → EndLaid e
end-laid = by-edition EndLaid one two
  where
    one : EndLaid 1
    one x rest w v = unfold end_laid end_bytes limit_bytes limit_at limit_written imp in
        both_of _ _ (limits-laid 1 x.limits.low x.limits.up w.low-fits w.up-fits) (both_of _ _ (both_of _ _ refl refl) (name-starts x.role rest v))

    two : EndLaid 2
    two x rest w v = unfold end_laid end_bytes limit_bytes limit_at limit_written imp in
        both_of _ _ (ap₂ (limits_laid 2) (number-again x.limits.low) (number-again (upper_number 2 x.limits.up)) ∙ limits-laid 2 x.limits.low x.limits.up w.low-fits w.up-fits)
        (both_of _ _ (both_of _ _ (lt-ltb _ _ (omega arith)) (lt-ltb _ _ (omega arith))) (name-starts x.role rest v))

abbrev EndPast : ℕ → Type 0
EndPast e = (x : End) (rest : List ℕ) → past_end e (end_bytes e x ++ rest) ≡ rest

pub end-past : (e : ℕ) → Edition e → EndPast e
end-past = by-edition EndPast one two
  where
    one : EndPast 1
    one x rest = unfold past_end end_bytes limit_bytes in name-past x.role rest

    two : EndPast 2
    two x rest = unfold past_end end_bytes limit_bytes in name-past x.role rest

abbrev EndOf : ℕ → Type 0
EndOf e = (x : End) (rest : List ℕ) → FitsLimits e x.limits → end_of e (end_bytes e x ++ rest) ≡ x

pub end-of : (e : ℕ) → Edition e → EndOf e
end-of = by-edition EndOf one two
  where
    one : EndOf 1
    one x rest w = unfold end_of end_bytes limit_bytes limit_at in λ i. record {
      type = x.type;
      limits = record { low = x.limits.low; up = upper-of 1 x.limits.low x.limits.up (omega arith) w.up-fits i };
      role = name-in x.role rest i;
    }

    two : EndOf 2
    two x rest w = unfold end_of end_bytes limit_bytes limit_at in λ i. record {
      type = x.type;
      limits = record {
        low = number-again x.limits.low i;
        up = (ap (upper_of 2) (number-again (upper_number 2 x.limits.up)) ∙ upper-of 2 x.limits.low x.limits.up (omega arith) w.up-fits) i;
      };
      role = name-in x.role rest i;
    }

-- ---- read, then written

upper-again : (e b : ℕ) → upper_number e (upper_of e b) ≡ b
unfolding upper_of upper_number
upper-again e b = go (eqb b (none_of e)) refl
  where
    go : (t : Bool) → eqb b (none_of e) ≡ t → upper_number e (cond t no_limit (at_most b)) ≡ b
    go true q = sym (eqb-true b (none_of e) q)
    go false q = refl

three : (c : List ℕ) → 1 ≤ length (drop 3 c) → c ≡ byte c 0 ∷ byte c 1 ∷ byte c 2 ∷ drop 3 c
three [] h = absurd (omega arith)
three (x ∷ []) h = absurd (omega arith)
three (x ∷ y ∷ []) h = absurd (omega arith)
three (x ∷ y ∷ z ∷ c) h = refl

five : (c : List ℕ) → 1 ≤ length (drop 5 c) → c ≡ byte c 0 ∷ byte c 1 ∷ byte c 2 ∷ byte c 3 ∷ byte c 4 ∷ drop 5 c
five [] h = absurd (omega arith)
five (x ∷ []) h = absurd (omega arith)
five (x ∷ y ∷ []) h = absurd (omega arith)
five (x ∷ y ∷ z ∷ []) h = absurd (omega arith)
five (x ∷ y ∷ z ∷ u ∷ []) h = absurd (omega arith)
five (x ∷ y ∷ z ∷ u ∷ v ∷ c) h = refl

starts-some : (c : List ℕ) → starts_name c ≡ true → 1 ≤ length c
unfolding starts_name
starts-some c h = let l : 1 + byte c 0 ≤ length c = leb-true (1 + byte c 0) (length c) (both_left _ _ h) in omega arith

abbrev EndAgain : ℕ → Type 0
EndAgain e = (c : List ℕ) → end_laid e c ≡ true → c ≡ end_bytes e (end_of e c) ++ past_end e c

pub end-again : (e : ℕ) → Edition e → EndAgain e
end-again = by-edition EndAgain one two
  where
    one : EndAgain 1
    one c h = unfold end_laid end_of end_bytes limit_bytes past_end limit_at in
        let name = both_right _ _ (both_right _ _ h) in
        three c (starts-some (drop 3 c) name)
        ∙ ap₂ (λ (u : ℕ) (x : List ℕ). byte c 0 ∷ byte c 1 ∷ u ∷ x) (sym (upper-again 1 (byte c 2))) (name-again (drop 3 c) name)

    two : EndAgain 2
    two c h = unfold end_laid end_of end_bytes limit_bytes past_end limit_at limit_written imp in
        let rest = both_right _ _ h in
        let name = both_right _ _ rest in
        let l1 : byte c 2 < 256 = ltb-true _ 256 (both_left _ _ (both_left _ _ rest)) in
        let l2 : byte c 4 < 256 = ltb-true _ 256 (both_right _ _ (both_left _ _ rest)) in
        let low : ℕ = byte c 1 * 256 + byte c 2 in
        let up : ℕ = byte c 3 * 256 + byte c 4 in
        five c (starts-some (drop 5 c) name)
        ∙ ap₂ (λ (a b : List ℕ). byte c 0 ∷ (a ++ (b ++ drop 5 c))) (sym (bytes-again (byte c 1) (byte c 2) l1)) (sym (bytes-again (byte c 3) (byte c 4) l2))
        ∙ ap₂ (λ (u : ℕ) (x : List ℕ). byte c 0 ∷ (two_bytes low ++ (two_bytes u ++ x))) (sym (upper-again 2 up)) (name-again (drop 5 c) name)

pub end-some : (e : ℕ) → Edition e → (c : List ℕ) → end_laid e c ≡ true → 1 ≤ length c
unfolding end_bytes
end-some e k c h = subst (λ (x : List ℕ). 1 ≤ length x) (sym (end-again e k c h)) (omega arith)
