-- Rows of fields, some of which are refused: where field i of a tag is refused with one number exactly if a test holds at i, all of
-- them are refused with it exactly if the test holds somewhere.
-- Assumes nothing.
use Prim.Native.Nat.{◌<◌, ◌≤◌, suc, zero, ℕ}
use native.Mathlib.Nat.{le_refl, le_step, lt-suc_self}
use native.Mathlib.Omega.{arith}
use mathlib.Core.Bool.{Bool, ◌||◌, false, true}
use mathlib.Core.List.{List, ◌++◌, append_assoc}
use mathlib.Core.Path.{◌∙◌, ◌≡◌, ap, ap₂, refl}
use Rattle.laws.specs.Bounded.{any}
use Rattle.laws.specs.Connective.{refuse}
use Rattle.laws.specs.Lists.{joined}
use Rattle.files.specs.Diagram.{Diagram}
use Rattle.files.specs.DiagramFile.{diagram_from, diagram_refusal, diagram_with}
use Rattle.files.specs.Field.{field, rows}
use Rattle.files.specs.Refusal.{Answer, or_refused}
use Rattle.files.proofs.FieldLaws.{rows-field}

-- one field, refused or not
pub step : (e last : ℕ) (d : Diagram) (t : ℕ) (c rest : List ℕ)
    → diagram_from e last d (rows (field t c ++ rest)) ≡ or_refused (diagram_refusal e last d t c) (diagram_from e t (diagram_with e d t c) (rows rest))
unfolding diagram_from
step e last d t c rest = ap (diagram_from e last d) (rows-field t c rest)

-- the bytes xs are refused with `number`, or where it is 0 bring the reader from p to q, behind a tag up to t
pub record Reads (e last : ℕ) (p : Diagram) (xs : List ℕ) (t number : ℕ) (q : Diagram) : Type 0 where
  pub tag : ℕ
  pub above : 1 ≤ tag
  pub upto : tag ≤ t
  pub is : (rest : List ℕ) → diagram_from e last p (rows (xs ++ rest)) ≡ or_refused number (diagram_from e tag q (rows rest))

-- n fields of one tag; a field is looked at only where none before was refused
pub fields : (e t number : ℕ) (content : ℕ → List ℕ) (read : ℕ → Diagram) (bad : ℕ → Bool) (last : ℕ) → 1 ≤ last → last ≤ t → (n : ℕ)
    → ((k : ℕ) → k < n → any bad k ≡ false → (tag : ℕ) → 1 ≤ tag → tag ≤ t → diagram_refusal e tag (read k) t (content k) ≡ refuse (bad k) (suc number) 0)
    → ((k : ℕ) → k < n → diagram_with e (read k) t (content k) ≡ read (suc k))
    → Reads e last (read 0) (joined (λ i. field t (content i)) n) t (refuse (any bad n) (suc number) 0) (read n)
unfolding joined any refuse or_refused
fields e t number content read bad last h m zero f g = record { tag = last; above = h; upto = m; is = λ rest. refl }
fields e t number content read bad last h m (suc n) f g =
    let b = fields e t number content read bad last h m n (λ k l. f k (le_step l)) (λ k l. g k (le_step l)) in
    record {
      tag = t;
      above = omega arith;
      upto = le_refl t;
      is = λ rest.
          ap (λ (s : List ℕ). diagram_from e last (read 0) (rows s)) (append_assoc (joined (λ i. field t (content i)) n) (field t (content n)) rest)
          ∙ b.is (field t (content n) ++ rest) ∙ go rest b.tag b.above b.upto (any bad n) refl;
    }
  where
    go : (rest : List ℕ) (tag : ℕ) → 1 ≤ tag → tag ≤ t → (x : Bool) → any bad n ≡ x
        → or_refused (refuse x (suc number) 0) (diagram_from e tag (read n) (rows (field t (content n) ++ rest)))
        ≡ or_refused (refuse (x || bad n) (suc number) 0) (diagram_from e t (read (suc n)) (rows rest))
    go rest tag a u true q = refl
    go rest tag a u false q =
        step e tag (read n) t (content n) rest
        ∙ ap₂ (λ (k : ℕ) (q : Diagram). or_refused k (diagram_from e t q (rows rest))) (f n (lt-suc_self n) q tag a u) (g n (lt-suc_self n))

-- the first of two refusals
abbrev pub first_of : ℕ → ℕ → ℕ
first_of zero m = m
first_of (suc n) m = suc n

or_refused-twice : {A : Type 0} (n m : ℕ) (a : Answer A) → or_refused n (or_refused m a) ≡ or_refused (first_of n m) a
unfolding or_refused
or_refused-twice zero m a = refl
or_refused-twice (suc n) m a = refl

pub behind : (e last : ℕ) (p : Diagram) (xs : List ℕ) (t number : ℕ) (q : Diagram) (ys : List ℕ) (u second : ℕ) (r : Diagram) → Reads e last p xs t number q
    → ((tag : ℕ) → 1 ≤ tag → tag ≤ t → Reads e tag q ys u second r) → Reads e last p (xs ++ ys) u (first_of number second) r
behind e last p xs t number q ys u second r b next =
    let c = next b.tag b.above b.upto in
    record {
      tag = c.tag;
      above = c.above;
      upto = c.upto;
      is = λ rest.
          ap (λ (s : List ℕ). diagram_from e last p (rows s)) (append_assoc xs ys rest) ∙ b.is (ys ++ rest) ∙ ap (or_refused number) (c.is rest)
          ∙ or_refused-twice number second (diagram_from e c.tag r (rows rest));
    }
