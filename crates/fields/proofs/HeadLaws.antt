-- What the reader of a field finds at the front of a rest.
-- Assumes nothing.
use Prim.Native.Nat.{ℕ, ◌%◌, ◌+◌, ◌*◌, ◌-◌, ◌/◌, ◌<◌, ◌≤◌}
use native.Mathlib.Omega.{arith}
use mathlib.Core.Bool.{Bool, true, false, not, beq, ◌||◌}
use lib.Dec.{eqb, ltb}
use Rattle.std.specs.List.{list_any}
use Rattle.laws.specs.Connective.{both, either}
use Rattle.laws.proofs.SliceLaws.{list_any-slice}
use Rattle.files.specs.Refusal.{misplaced}
use mathlib.Core.List.{List, [], ◌∷◌}
use mathlib.Core.Path.{◌≡◌, refl, sym, ap, ◌∙◌}
use lib.ListN.{length, get_or, take, drop, length-take, length-drop}
use borrow.Author.Tests.{le-leb, lt-leb}
use Rattle.files.specs.Field.{end, cut, row, rows, rows_after}
use Rattle.files.proofs.FieldLaws.{rows-after}
use Rattle.fields.specs.Field.{AtFront}
use Rattle.fields.specs.declared.Field.{Field}

pub rows_end : (s : List ℕ) → length s ≤ 0 → rows s ≡ end
unfolding rows rows_after
rows_end [] h = refl
rows_end (x ∷ s) h = absurd (omega arith)

-- the head passes the end
pub rows-short : (s : List ℕ) → 0 < length s → length s < 3 → rows s ≡ cut
unfolding rows rows_after
rows-short [] h k = absurd (omega arith)
rows-short (t ∷ []) h k = refl
rows-short (t ∷ u ∷ []) h k = refl
rows-short (t ∷ u ∷ v ∷ s) h k = absurd (omega arith)

-- the content passes the end
pub rows-past : (s : List ℕ) (n : ℕ) → 3 ≤ length s → n ≡ get_or s 1 0 * 256 + get_or s 2 0 → length s - 3 < n → rows s ≡ cut
unfolding rows rows_after
rows-past [] n h e k = absurd (omega arith)
rows-past (t ∷ []) n h e k = absurd (omega arith)
rows-past (t ∷ u ∷ []) n h e k = absurd (omega arith)
rows-past (t ∷ u ∷ v ∷ s) n h e k = rw (lt-leb (u * 256 + v) (length s) (omega arith))

-- a whole field
rows-whole : (s : List ℕ) (n : ℕ) → 3 ≤ length s → n ≡ get_or s 1 0 * 256 + get_or s 2 0 → n ≤ length s - 3
    → rows s ≡ row (get_or s 0 0) (take n (drop 3 s)) (rows (drop n (drop 3 s)))
unfolding rows rows_after
rows-whole [] n h e k = absurd (omega arith)
rows-whole (t ∷ []) n h e k = absurd (omega arith)
rows-whole (t ∷ u ∷ []) n h e k = absurd (omega arith)
rows-whole (t ∷ u ∷ v ∷ s) n h e k =
    let l : u * 256 + v ≤ length s = omega arith in
    rw (le-leb (u * 256 + v) (length s) l, rows-after s (u * 256 + v), e)

pub at-front : (s : List ℕ) (n : ℕ) (f : Field) → 3 ≤ length s → n ≡ get_or s 1 0 * 256 + get_or s 2 0 → n ≤ length (drop 3 s)
    → f.tag ≡ get_or s 0 0 → f.content.now ≡ take n (drop 3 s) → f.rest.now ≡ drop n (drop 3 s) → AtFront s f
at-front s n f h e k t c r =
    let m : n ≤ length s - 3 = omega (arith, length-drop 3 s) in
    let size : length f.content.now ≡ n = omega (arith, ap length c, length-take n (drop 3 s)) in
    record {
      is = rw (t, c, r) (rows-whole s n h e m);
      content = c ∙ ap (λ (x : ℕ). take x (drop 3 s)) (sym size);
      rest = r ∙ ap (λ (x : ℕ). drop x (drop 3 s)) (sym size);
      shorter = omega (arith, ap length r, length-drop n (drop 3 s), length-drop 3 s);
    }

-- ---- refusal 2

apart : (again first : Bool) → not (beq again first) ≡ either (both again (not first)) (both first (not again))
unfolding either both
apart true true = refl
apart true false = refl
apart false true = refl
apart false false = refl

one-of : (none falls other : Bool) → (none || falls) || other ≡ either none (either falls other)
unfolding either
one-of true falls other = refl
one-of false true other = refl
one-of false false other = refl

pub misplaced-by : (once last tag : ℕ) (tags : List ℕ) {r : Bool} → r ≡ list_any (λ y. eqb y tag) tags
    → (not r || ltb tag last) || not (beq (eqb tag once) (eqb last 0)) ≡ misplaced once tags last tag
unfolding misplaced
misplaced-by once last tag tags {r} e =
    one-of (not r) (ltb tag last) _
    ∙ ap (λ (b : Bool). either (not r) (either (ltb tag last) b)) (apart (eqb tag once) (eqb last 0))
    ∙ ap (λ (b : Bool). either (not b) (either (ltb tag last) (either (both (eqb tag once) (not (eqb last 0))) (both (eqb last 0) (not (eqb tag once))))))
    (e ∙ list_any-slice (λ y. eqb y tag) tags)

-- ---- a length that has two bytes

pub high-whole : (n : ℕ) → n < 65536 → n / 256 % 256 ≡ n / 256
high-whole n l = omega arith
