-- One step at the places of a slot and a set of types, type by type.
-- Assumes nothing.
use Prim.Native.Nat.{◌%◌, ◌*◌, ◌+◌, ◌/◌, ◌<◌, ◌≤◌, ℕ}
use native.Mathlib.Nat.{le_antisymm}
use native.Mathlib.Omega.{arith}
use mathlib.Core.Bool.{Bool, cond, false, true}
use mathlib.Core.List.{List}
use mathlib.Core.Path.{◌∙◌, ◌≡◌, ap, ap₂, refl, subst, sym}
use lib.Dec.{eqb, ltb}
use lib.ListN.{get_or, length, length-set, set}
use borrow.Author.Tests.{eq-eqb, eqb-false, eqb-true, le-ltb, lt-ltb, ltb-true}
use Rattle.laws.specs.Bits.{bit}
use Rattle.laws.specs.Connective.{both}
use Rattle.laws.proofs.ConnectiveLaws.{both_left, both_of, both_right, true-false, both_false}
use Rattle.laws.proofs.ListLaws.{get_d_set}
use Rattle.laws.proofs.BoundedLaws.{ltb-skip}
use Rattle.type_tables.specs.RowsIn.{carried_in, other_end}
use Rattle.sheets.specs.RowsBy.{Stepped, gathered, is_place, leads_at, source_in}
use Rattle.sheets.proofs.GatherLaws.{gathered_next}

module _ (mask s : ℕ) where
  -- a place of another type, or not of the set and the slot, is as before
  place-skip : (t x : ℕ) → (both (eqb s (x % 32)) (bit (x / 32) mask) ≡ true → x / 32 ≡ t → ⊥) → is_place mask s (t + 1) x ≡ is_place mask s t x
  unfolding is_place
  place-skip t x ne = go (both (eqb s (x % 32)) (bit (x / 32) mask)) refl
    where
      go : (b : Bool) → both (eqb s (x % 32)) (bit (x / 32) mask) ≡ b → both (ltb (x / 32) (t + 1)) b ≡ both (ltb (x / 32) t) b
      go true e = ap (λ (z : Bool). both z true) (ltb-skip (x / 32) t (ne e))
      go false e = both_false (ltb (x / 32) (t + 1)) ∙ sym (both_false (ltb (x / 32) t))

  place_none : (x : ℕ) → is_place mask s 0 x ≡ false
  unfolding is_place both
  place_none x = rw (le-ltb (x / 32) 0 (omega arith))

  -- the place of type t is not yet one, and is one with t
  place-before : (t x : ℕ) → x / 32 ≡ t → is_place mask s t x ≡ false
  unfolding is_place both
  place-before t x e = rw (le-ltb (x / 32) t (omega arith))

  place_here : (t x : ℕ) → x / 32 ≡ t → x % 32 ≡ s → bit t mask ≡ true → is_place mask s (t + 1) x ≡ true
  unfolding is_place both
  place_here t x e q b = rw (lt-ltb (x / 32) (t + 1) (omega arith), e, eq-eqb s (x % 32) (sym q), b)

module _ (f : ℕ → ℕ) (mask s : ℕ) (l : List ℕ) where
  pub stepped-begin : length l ≡ 768 → Stepped f mask s 0 l l
  stepped-begin size = record { size = size; is = λ x h. sym (rw (place_none mask s x)) }

  -- type t is in the set, and at its place stands what f makes of the number there
  pub stepped-hit : (t : ℕ) (r : List ℕ) (at v : ℕ) {q : Bool} → t < 24 → q ≡ both (ltb s 32) (bit t mask) → q ≡ true → at ≡ t * 32 + s → v ≡ f (get_or r at 0)
      → Stepped f mask s t l r → Stepped f mask s (t + 1) l (set r at v)
  stepped-hit t r at v {q} below e on a is so = record {
    size = length-set r at v ∙ so.size;
    is = λ x h. get_d_set r at v x (omega (arith, so.size, slot)) ∙ go x h (eqb x at) refl;
  }
    where
      slot : s < 32
      slot = ltb-true s 32 (both_left (ltb s 32) (bit t mask) (sym e ∙ on))

      inside : bit t mask ≡ true
      inside = both_right (ltb s 32) (bit t mask) (sym e ∙ on)

      go : (x : ℕ) → x < 768 → (b : Bool) → eqb x at ≡ b → cond b v (get_or r x 0) ≡ cond (is_place mask s (t + 1) x) (f (get_or l x 0)) (get_or l x 0)
      go x h true q =
          let p : x ≡ at = eqb-true x at q in
          let d : x / 32 ≡ t = omega (arith, slot) in
          let m : x % 32 ≡ s = omega (arith, slot) in
          let w : get_or r x 0 ≡ get_or l x 0 = so.is x h ∙ rw (place-before mask s t x d) in
          is ∙ ap (λ (k : ℕ). f (get_or r k 0)) (sym p) ∙ ap f w ∙ sym (rw (place_here mask s t x d m inside))
      go x h false q =
          let p : x ≡ at → ⊥ = eqb-false x at q in
          so.is x h
          ∙ ap (λ (b : Bool). cond b (f (get_or l x 0)) (get_or l x 0))
          (sym (place-skip mask s t x (λ z d. let m : s ≡ x % 32 = eqb-true s (x % 32) (both_left (eqb s (x % 32)) (bit (x / 32) mask) z) in p (omega arith))))

  pub stepped-miss : (t : ℕ) (r : List ℕ) {q : Bool} → q ≡ both (ltb s 32) (bit t mask) → q ≡ false → Stepped f mask s t l r → Stepped f mask s (t + 1) l r
  stepped-miss t r {q} e off so = record {
    size = so.size;
    is = λ x h. so.is x h ∙ ap (λ (b : Bool). cond b (f (get_or l x 0)) (get_or l x 0)) (sym (place-skip mask s t x (λ z d. none x z d)));
  }
    where
      none : (x : ℕ) → both (eqb s (x % 32)) (bit (x / 32) mask) ≡ true → x / 32 ≡ t → ⊥
      none x z d =
          let m : s ≡ x % 32 = eqb-true s (x % 32) (both_left (eqb s (x % 32)) (bit (x / 32) mask) z) in
          let b : bit t mask ≡ true = ap (λ (k : ℕ). bit k mask) (sym d) ∙ both_right (eqb s (x % 32)) (bit (x / 32) mask) z in
          let slot : ltb s 32 ≡ true = lt-ltb s 32 (omega arith) in
          let yes : both (ltb s 32) (bit t mask) ≡ true = both_of (ltb s 32) (bit t mask) slot b in
          true-false yes (sym e ∙ off)

  pub stepped-done : (k t : ℕ) (r : List ℕ) → t ≤ k → k ≤ t → Stepped f mask s t l r → Stepped f mask s k l r
  stepped-done k t r h g so = subst (λ (n : ℕ). Stepped f mask s n l r) (le_antisymm h g) so

-- the slot of a place is one
pub place-slot : (s : ℕ) (b : Bool) {q : Bool} → q ≡ both (ltb s 32) b → q ≡ true → s < 32
place-slot s b e on = ltb-true s 32 (both_left (ltb s 32) b (sym e ∙ on))

-- ---- the types whose links go to an end

pub source-yes : (sets arrows : List ℕ) (e : ℕ) {q : Bool} {w : ℕ} → q ≡ carried_in arrows e → q ≡ true → w ≡ other_end e → get_or sets w 0 ≡ source_in sets arrows e
unfolding source_in
source-yes sets arrows e a b f = ap (λ (k : ℕ). get_or sets k 0) f ∙ sym (rw (sym a ∙ b))

pub source-no : (sets arrows : List ℕ) (e : ℕ) {q : Bool} → q ≡ carried_in arrows e → q ≡ false → 0 ≡ source_in sets arrows e
unfolding source_in
source-no sets arrows e a b = sym (rw (sym a ∙ b))

-- ---- one end more

module _ (f : ℕ → ℕ → ℕ) (start : ℕ → ℕ) (sets arrows slots : List ℕ) (k : ℕ) where
  pub stepped-next : (e : ℕ) (r l : List ℕ) (g : ℕ → ℕ) {mask s w : ℕ} → mask ≡ source_in sets arrows e → w ≡ e → s ≡ get_or slots w 0 → ((m : ℕ) → g m ≡ f e m)
      → ((x : ℕ) → x < 768 → get_or r x 0 ≡ gathered (leads_at sets arrows slots k x) f (start x) e) → Stepped g mask s k r l
      → (x : ℕ) → x < 768 → get_or l x 0 ≡ gathered (leads_at sets arrows slots k x) f (start x) (e + 1)
  stepped-next e r l g {mask} {s} {w} a b c q inv so x h =
      gathered_next (leads_at sets arrows slots k x) f (start x) e (inv x h)
      (so.is x h ∙ ap (λ (v : ℕ). cond (is_place mask s k x) v (get_or r x 0)) (q (get_or r x 0))
      ∙ ap₂ (λ (m z : ℕ). cond (is_place m z k x) (f e (get_or r x 0)) (get_or r x 0)) a (c ∙ ap (λ (i : ℕ). get_or slots i 0) b))
