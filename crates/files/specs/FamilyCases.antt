-- What a type counts as, in families of types, through bytes: 02 5/12. The table has one statement that computes.
-- Assumes nothing.
use Rattle.std.specs.Prelude.{◌+◌, ◌-◌, ◌/◌, ◌%◌, ◌^◌, suc, ℕ, Bool, ◌&&◌, false, true, List, [], ◌∷◌, ◌≡◌, refl, eqb, get_or, length}
use Rattle.laws.specs.Bits.{mask_of}
use Rattle.laws.specs.Bounded.{all, any}
use Rattle.laws.specs.Connective.{either}
use Rattle.laws.specs.Lists.{joined, listed}
use Rattle.files.specs.Ancestor.{reaches, reaches_by}
use Rattle.files.specs.Diagram.{Diagram}
use Rattle.files.specs.FileCases.{diagram_file}
use Rattle.files.specs.FirstTypes.{first_types}
use Rattle.files.specs.Refusal.{Answer, accepted, refused}

-- a file, and for each of its types the set of what is reached from it, one bit for each type
pub record FamilyCase : Type 0 where
  pub file : List ℕ
  pub sets : List ℕ

unfoldable pub set_number : Diagram → ℕ → ℕ
unfolding reaches reaches_by any either mask_of
set_number d i = mask_of (reaches d i) (length d.types)

-- in the diagram of the first n types they have the first n sets
unfoldable pub first_sets_right : Diagram → List ℕ → ℕ → Bool
unfolding all set_number first_types
first_sets_right d sets n = all (λ i. eqb (set_number (first_types n d) i) (get_or sets i 0)) n

-- "After any first part of the types"
unfoldable pub sets_right : Answer Diagram → List ℕ → Bool
unfolding all first_sets_right
sets_right (refused n) sets = false
sets_right (accepted d) sets = eqb (length d.types) (length sets) && all (first_sets_right d sets) (suc (length sets))

unfoldable pub families_right : List FamilyCase → Bool
unfolding diagram_file sets_right
families_right [] = true
families_right (c ∷ cs) = sets_right (diagram_file c.file) c.sets && families_right cs

-- T00 to T23, each of the type before
unfoldable pub chain : List ℕ
unfolding joined
chain =
    0x10 ∷ 0 ∷ 1 ∷ 1 ∷ 0x30 ∷ 0 ∷ 6 ∷ 0 ∷ 3 ∷ 0x54 ∷ 0x30 ∷ 0x30 ∷ 0
    ∷ joined (λ i. 0x30 ∷ 0 ∷ 7 ∷ 0 ∷ 3 ∷ 0x54 ∷ (0x30 + suc i / 10) ∷ (0x30 + suc i % 10) ∷ 1 ∷ i ∷ []) 23

-- each type and all before it
unfoldable pub chain_sets : List ℕ
unfolding joined
chain_sets = listed (λ i. 2 ^ suc i - 1) 24

abbrev pub family_cases : List FamilyCase
family_cases =
    record { file = (0x10 ∷ 0 ∷ 1 ∷ 1 ∷ 0x30 ∷ 0 ∷ 4 ∷ 0 ∷ 1 ∷ 0x41 ∷ 0 ∷ 0x30 ∷ 0 ∷ 5 ∷ 0 ∷ 1 ∷ 0x42 ∷ 1 ∷ 0 ∷ 0x30 ∷ 0 ∷ 5 ∷ 0 ∷ 1 ∷ 0x43 ∷ 1 ∷ 1 ∷ []); sets = (1 ∷ 3 ∷ 7 ∷ []) } ∷  -- A; B of A; C of B
    record { file = (0x10 ∷ 0 ∷ 1 ∷ 1 ∷ 0x30 ∷ 0 ∷ 4 ∷ 0 ∷ 1 ∷ 0x41 ∷ 0 ∷ 0x30 ∷ 0 ∷ 5 ∷ 0 ∷ 1 ∷ 0x42 ∷ 1 ∷ 0 ∷ 0x30 ∷ 0 ∷ 5 ∷ 0 ∷ 1 ∷ 0x43 ∷ 1 ∷ 1 ∷ 0x30 ∷ 0 ∷ 5 ∷ 0 ∷ 1 ∷ 0x44 ∷ 1 ∷ 2 ∷ []); sets = (1 ∷ 3 ∷ 7 ∷ 0xF ∷ []) } ∷  -- and D of C
    record { file = (0x10 ∷ 0 ∷ 1 ∷ 1 ∷ 0x30 ∷ 0 ∷ 4 ∷ 0 ∷ 1 ∷ 0x41 ∷ 0 ∷ 0x30 ∷ 0 ∷ 5 ∷ 0 ∷ 1 ∷ 0x42 ∷ 1 ∷ 0 ∷ 0x30 ∷ 0 ∷ 5 ∷ 0 ∷ 1 ∷ 0x43 ∷ 1 ∷ 0 ∷ 0x30 ∷ 0 ∷ 6 ∷ 0 ∷ 1 ∷ 0x44 ∷ 2 ∷ 1 ∷ 2 ∷ []); sets = (1 ∷ 3 ∷ 5 ∷ 0xF ∷ []) } ∷  -- A; B of A; C of A; D of B and C
    record { file = (0x10 ∷ 0 ∷ 1 ∷ 1 ∷ 0x30 ∷ 0 ∷ 4 ∷ 0 ∷ 1 ∷ 0x41 ∷ 0 ∷ 0x30 ∷ 0 ∷ 5 ∷ 0 ∷ 1 ∷ 0x42 ∷ 1 ∷ 0 ∷ 0x30 ∷ 0 ∷ 6 ∷ 0 ∷ 1 ∷ 0x43 ∷ 2 ∷ 0 ∷ 1 ∷ []); sets = (1 ∷ 3 ∷ 7 ∷ []) } ∷  -- A; B of A; C of A and B
    record { file = (0x10 ∷ 0 ∷ 1 ∷ 1 ∷ 0x30 ∷ 0 ∷ 4 ∷ 2 ∷ 1 ∷ 0x49 ∷ 0 ∷ 0x30 ∷ 0 ∷ 5 ∷ 2 ∷ 1 ∷ 0x4A ∷ 1 ∷ 0 ∷ 0x30 ∷ 0 ∷ 4 ∷ 0 ∷ 1 ∷ 0x41 ∷ 0 ∷ 0x30 ∷ 0 ∷ 6 ∷ 0 ∷ 1 ∷ 0x42 ∷ 2 ∷ 1 ∷ 2 ∷ []); sets = (1 ∷ 3 ∷ 4 ∷ 0xF ∷ []) } ∷  -- interface I; interface J of I; A; B of J and A
    record { file = (0x10 ∷ 0 ∷ 1 ∷ 1 ∷ 0x30 ∷ 0 ∷ 4 ∷ 2 ∷ 1 ∷ 0x41 ∷ 0 ∷ 0x30 ∷ 0 ∷ 4 ∷ 2 ∷ 1 ∷ 0x42 ∷ 0 ∷ 0x30 ∷ 0 ∷ 4 ∷ 2 ∷ 1 ∷ 0x43 ∷ 0 ∷ 0x30 ∷ 0 ∷ 4 ∷ 2 ∷ 1 ∷ 0x44 ∷ 0 ∷ 0x30 ∷ 0 ∷ 8 ∷ 0 ∷ 1 ∷ 0x45 ∷ 4 ∷ 0 ∷ 1 ∷ 2 ∷ 3 ∷ []); sets = (1 ∷ 2 ∷ 4 ∷ 8 ∷ 0x1F ∷ []) } ∷  -- four interfaces; E of all four
    record { file = chain; sets = chain_sets } ∷  -- a chain of 24
    []

pub families-right : families_right family_cases ≡ true
unfolding families_right chain chain_sets
families-right = refl
