-- Which mark stands at the front of a list: by the first byte and, where that begins more than one, by those behind it.
-- The statements over all marks are computed.
-- Assumes nothing.
use Prim.Native.Nat.{ℕ, ◌<◌, ◌+◌}
use native.Mathlib.Omega.{arith}
use mathlib.Core.Bool.{Bool, cond, false, true}
use mathlib.Core.List.{List, [], ◌∷◌}
use mathlib.Core.Path.{◌≡◌, ◌∙◌, ap, ap₂, refl, subst, sym}
use lib.Dec.{eqb, ltb}
use lib.ListN.{get_or, length}
use borrow.Author.Tests.{eqb-true, ltb-true, ne_eqb}
use Rattle.std.specs.Prelude.{Option, None, Some, unwrap_or}
use Rattle.laws.specs.Bounded.{all, any, first}
use Rattle.laws.specs.Connective.{either}
use Rattle.laws.proofs.BoundedLaws.{all-at, any_none}
use Rattle.laws.proofs.ConnectiveLaws.{true-false}
use Rattle.laws.proofs.FirstLaws.{first-none}
use Rattle.texts.specs.Token.{mark_at, marks, starts}
use Rattle.text_rows.proofs.AmongLaws.{Apart, among, among_any, apart_none}
use Rattle.text_rows.proofs.MarkLaws.{mark-least}

-- ---- the bytes that begin a mark of two or three

-- <->, <- and <<
after_less : (s : List ℕ) → mark_at (0x3C ∷ s) ≡ cond (eqb 0x2D (get_or s 0 0)) (cond (eqb 0x3E (get_or s 1 0)) 0 2) (cond (eqb 0x3C (get_or s 0 0)) 4 16)
unfolding mark_at first any starts
after_less [] = refl
after_less (y ∷ []) = go (eqb 0x2D y) refl (eqb 0x3C y) refl
  where
    go : (a : Bool) → eqb 0x2D y ≡ a → (b : Bool) → eqb 0x3C y ≡ b → mark_at (0x3C ∷ y ∷ []) ≡ cond a 2 (cond b 4 16)
    go true e b f = rw e
    go false e true f = rw (e, f)
    go false e false f = rw (e, f)
after_less (y ∷ z ∷ s) = go (eqb 0x2D y) refl (eqb 0x3E z) refl (eqb 0x3C y) refl
  where
    go : (a : Bool) → eqb 0x2D y ≡ a → (b : Bool) → eqb 0x3E z ≡ b → (c : Bool) → eqb 0x3C y ≡ c
        → mark_at (0x3C ∷ y ∷ z ∷ s) ≡ cond a (cond b 0 2) (cond c 4 16)
    go true e true f c g = rw (e, f)
    go true e false f c g = rw (e, f)
    go false e b f true g = rw (e, g)
    go false e b f false g = rw (e, g)

-- -> and --
after-dash : (s : List ℕ) → mark_at (0x2D ∷ s) ≡ cond (eqb 0x3E (get_or s 0 0)) 1 (cond (eqb 0x2D (get_or s 0 0)) 3 16)
unfolding mark_at first any starts
after-dash [] = refl
after-dash (y ∷ s) = go (eqb 0x3E y) refl (eqb 0x2D y) refl
  where
    go : (a : Bool) → eqb 0x3E y ≡ a → (b : Bool) → eqb 0x2D y ≡ b → mark_at (0x2D ∷ y ∷ s) ≡ cond a 1 (cond b 3 16)
    go true e b f = rw e
    go false e true f = rw (e, f)
    go false e false f = rw (e, f)

-- >>
after-greater : (s : List ℕ) → mark_at (0x3E ∷ s) ≡ cond (eqb 0x3E (get_or s 0 0)) 5 16
unfolding mark_at first any starts
after-greater [] = refl
after-greater (y ∷ s) = go (eqb 0x3E y) refl
  where
    go : (a : Bool) → eqb 0x3E y ≡ a → mark_at (0x3E ∷ y ∷ s) ≡ cond a 5 16
    go true e = rw e
    go false e = rw e

-- ..
after-dot : (s : List ℕ) → mark_at (0x2E ∷ s) ≡ cond (eqb 0x2E (get_or s 0 0)) 6 16
unfolding mark_at first any starts
after-dot [] = refl
after-dot (y ∷ s) = go (eqb 0x2E y) refl
  where
    go : (a : Bool) → eqb 0x2E y ≡ a → mark_at (0x2E ∷ y ∷ s) ≡ cond a 6 16
    go true e = rw e
    go false e = rw e

-- ---- each way out of the code

-- the other marks, from the seventh on, are one byte each
all-alone : (s : List ℕ) → all (λ i. eqb (7 + i) (mark_at (get_or (get_or marks (7 + i) []) 0 0 ∷ s))) 9 ≡ true
unfolding all mark_at first any starts
all-alone s = refl

-- the bytes that begin a mark, in the code's order
abbrev pub begins : List (List ℕ)
begins =
    (0x3C ∷ []) ∷ (0x2D ∷ []) ∷ (0x3E ∷ []) ∷ (0x2E ∷ []) ∷ (0x7B ∷ []) ∷ (0x7D ∷ []) ∷ (0x3B ∷ []) ∷ (0x2C ∷ []) ∷ (0x28 ∷ []) ∷ (0x29 ∷ []) ∷ (0x5B ∷ []) ∷ (0x5D ∷ []) ∷ (0x2A ∷ []) ∷ []

all-begin : all (λ i. among_any (get_or (get_or marks i []) 0 0) begins) 16 ≡ true
unfolding all among_any among either
all-begin = refl

starts-not : (w s : List ℕ) → 0 < length w → 0 < length s → (get_or w 0 0 ≡ get_or s 0 0 → ⊥) → starts w s ≡ false
unfolding starts
starts-not [] s h l n = absurd (omega arith)
starts-not (x ∷ w) [] h l n = absurd (omega arith)
starts-not (x ∷ w) (y ∷ s) h l n = rw (ne_eqb x y n)

front-is : (P : List ℕ → Type 0) (s : List ℕ) (b : ℕ) → 0 < length s → get_or s 0 0 ≡ b → ((t : List ℕ) → P (b ∷ t)) → P s
front-is P [] b h e f = absurd (omega arith)
front-is P (x ∷ s) b h e f = rw e (f s)

-- the number of an answer, 16 where there is none
abbrev number : Option ℕ → ℕ
number o = unwrap_or o 16

number-cond : (b : Bool) (x y : Option ℕ) → number (cond b x y) ≡ cond b (number x) (number y)
number-cond true x y = refl
number-cond false x y = refl

-- it is one of the sixteen
abbrev Fits : Option ℕ → Type 0
Fits o = (i : ℕ) → o ≡ Some i → i < 16

fits-some : (k : ℕ) → k < 16 → Fits (Some k)
fits-some k h i e = let q : k ≡ i = ap number e in omega arith

fits-none : Fits None
fits-none i e = cc

fits-cond : (b : Bool) (x y : Option ℕ) → Fits x → Fits y → Fits (cond b x y)
fits-cond true x y f g = f
fits-cond false x y f g = g

module _ (s : List ℕ) (h : 0 < length s) where
  pub mark-less : get_or s 0 0 ≡ 0x3C → {t u r : Option ℕ} → t ≡ cond (eqb 0x3E (get_or s 2 0)) (Some 0) (Some 2) → u ≡ cond (eqb 0x3C (get_or s 1 0)) (Some 4) None
      → r ≡ cond (eqb 0x2D (get_or s 1 0)) t u → (number r ≡ mark_at s) × Fits r
  mark-less e {t} {u} p q z = (
    ap number z ∙ number-cond (eqb 0x2D (get_or s 1 0)) t u
        ∙ ap₂ (λ (x y : ℕ). cond (eqb 0x2D (get_or s 1 0)) x y) (ap number p ∙ number-cond (eqb 0x3E (get_or s 2 0)) (Some 0) (Some 2))
        (ap number q ∙ number-cond (eqb 0x3C (get_or s 1 0)) (Some 4) None)
        ∙ sym (front-is (λ s. mark_at s ≡ cond (eqb 0x2D (get_or s 1 0)) (cond (eqb 0x3E (get_or s 2 0)) 0 2) (cond (eqb 0x3C (get_or s 1 0)) 4 16)) s 0x3C h e after_less),
    subst Fits (sym z)
        (fits-cond (eqb 0x2D (get_or s 1 0)) t u (subst Fits (sym p) (fits-cond (eqb 0x3E (get_or s 2 0)) (Some 0) (Some 2) (fits-some 0 (omega arith)) (fits-some 2 (omega arith))))
        (subst Fits (sym q) (fits-cond (eqb 0x3C (get_or s 1 0)) (Some 4) None (fits-some 4 (omega arith)) fits-none))),
  )

  pub mark-dash : get_or s 0 0 ≡ 0x2D → {u r : Option ℕ} → u ≡ cond (eqb 0x2D (get_or s 1 0)) (Some 3) None → r ≡ cond (eqb 0x3E (get_or s 1 0)) (Some 1) u
      → (number r ≡ mark_at s) × Fits r
  mark-dash e {u} q z = (
    ap number z ∙ number-cond (eqb 0x3E (get_or s 1 0)) (Some 1) u
        ∙ ap (λ (x : ℕ). cond (eqb 0x3E (get_or s 1 0)) 1 x) (ap number q ∙ number-cond (eqb 0x2D (get_or s 1 0)) (Some 3) None)
        ∙ sym (front-is (λ s. mark_at s ≡ cond (eqb 0x3E (get_or s 1 0)) 1 (cond (eqb 0x2D (get_or s 1 0)) 3 16)) s 0x2D h e after-dash),
    subst Fits (sym z)
        (fits-cond (eqb 0x3E (get_or s 1 0)) (Some 1) u (fits-some 1 (omega arith))
        (subst Fits (sym q) (fits-cond (eqb 0x2D (get_or s 1 0)) (Some 3) None (fits-some 3 (omega arith)) fits-none))),
  )

  -- one mark, if the next byte is its second
  one_mark : (b x k : ℕ) → k < 16 → get_or s 0 0 ≡ b → ((t : List ℕ) → mark_at (b ∷ t) ≡ cond (eqb x (get_or t 0 0)) k 16) → {r : Option ℕ}
      → r ≡ cond (eqb x (get_or s 1 0)) (Some k) None → (number r ≡ mark_at s) × Fits r
  one_mark b x k l e after z = (
    ap number z ∙ number-cond (eqb x (get_or s 1 0)) (Some k) None ∙ sym (front-is (λ s. mark_at s ≡ cond (eqb x (get_or s 1 0)) k 16) s b h e after),
    subst Fits (sym z) (fits-cond (eqb x (get_or s 1 0)) (Some k) None (fits-some k l) fits-none),
  )

  pub mark-greater : get_or s 0 0 ≡ 0x3E → {r : Option ℕ} → r ≡ cond (eqb 0x3E (get_or s 1 0)) (Some 5) None → (number r ≡ mark_at s) × Fits r
  mark-greater e z = one_mark 0x3E 0x3E 5 (omega arith) e after-greater z

  pub mark-dot : get_or s 0 0 ≡ 0x2E → {r : Option ℕ} → r ≡ cond (eqb 0x2E (get_or s 1 0)) (Some 6) None → (number r ≡ mark_at s) × Fits r
  mark-dot e z = one_mark 0x2E 0x2E 6 (omega arith) e after-dot z

  pub mark-alone : (i : ℕ) → ltb i 9 ≡ true → get_or s 0 0 ≡ get_or (get_or marks (7 + i) []) 0 0 → (number (Some (7 + i)) ≡ mark_at s) × Fits (Some (7 + i))
  mark-alone i b e =
      let l = ltb-true i 9 b in (
        front-is (λ s. 7 + i ≡ mark_at s) s (get_or (get_or marks (7 + i) []) 0 0) h e
            (λ t.
            eqb-true (7 + i) (mark_at (get_or (get_or marks (7 + i) []) 0 0 ∷ t))
            (all-at (λ i. eqb (7 + i) (mark_at (get_or (get_or marks (7 + i) []) 0 0 ∷ t))) 9 (all-alone t) i l)),
        fits-some (7 + i) (omega arith),
      )

  pub mark-none : Apart Unit (get_or s 0 0) begins → (number None ≡ mark_at s) × Fits None
  unfolding mark_at
  mark-none a = (
    sym
        (first-none (λ i. starts (get_or marks i []) s) 16
        (any_none (λ i. starts (get_or marks i []) s) 16
        (λ i l.
        starts-not (get_or marks i []) s (mark-least i l) h
        (λ e.
        true-false (ap (λ (x : ℕ). among_any x begins) (sym e) ∙ all-at (λ i. among_any (get_or (get_or marks i []) 0 0) begins) 16 all-begin i l)
        (apart_none (get_or s 0 0) begins a))))),
    fits-none,
  )
