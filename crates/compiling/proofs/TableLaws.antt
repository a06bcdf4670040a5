-- The code's table of arrows is the document's.
-- Assumes nothing.
use Prim.Native.Nat.{ℕ, zero, suc, ◌+◌, ◌<◌, ◌≤◌}
use native.Mathlib.Omega.{arith}
use mathlib.Core.Bool.{cond, true}
use mathlib.Core.List.{List, [], ◌∷◌, ◌++◌, map, map-append}
use mathlib.Core.Path.{◌≡◌, refl, ap, ◌∙◌}
use lib.Dec.{leb}
use lib.ListN.{length, get_or, length-map, get_or-map}
use borrow.Author.Tests.{eq-eqb, leb-true, ne_eqb}
use Rattle.laws.specs.Bounded.{all}
use Rattle.laws.specs.Lists.{joined}
use Rattle.laws.proofs.BoundedLaws.{all-at}
use Rattle.laws.proofs.JoinedLaws.{joined-more, each_of}
use Rattle.files.specs.Diagram.{Association, is_composition}
use Rattle.rules.specs.Compile.{Asked, Entry, arrow_rows, bare, entries_of, entry_for, kind5, row_of}
use Rattle.entries.specs.declared.Entries.{Entries}
use Rattle.entries.specs.View.{Appends}
use Rattle.compiling.specs.Table.{asked, entries_for, whole_for}
use Rattle.entries.proofs.AppendLaws.{appends-as, appends-then}

-- the code's table
abbrev pub table_rows : List (List (ℕ × ℕ))
table_rows =
    ((0, 0) ∷ (0, 0) ∷ (0, 0) ∷ [])
    ∷ ((1, 0) ∷ (3, 0) ∷ (0, 0) ∷ [])
    ∷ ((1, 1) ∷ (3, 1) ∷ (0, 0) ∷ [])
    ∷ ((1, 0) ∷ (1, 1) ∷ (5, 0) ∷ [])
    ∷ ((1, 0) ∷ (1, 1) ∷ (5, 0) ∷ []) ∷ []

abbrev pub kind_at : ℕ → ℕ → ℕ
kind_at arrow s = (get_or (get_or table_rows arrow []) s (0, 0)).0

abbrev pub side_at : ℕ → ℕ → ℕ
side_at arrow s = (get_or (get_or table_rows arrow []) s (0, 0)).1

-- what the first s places of an arrow's row ask for
unfoldable pub asked_to : ℕ → ℕ → List Asked
asked_to arrow s = joined (λ k. asked (kind_at arrow k) (side_at arrow k)) s

pub table : (arrow : ℕ) → arrow < 5 → asked_to arrow 3 ≡ get_or arrow_rows arrow []
unfolding asked_to asked joined
table zero h = refl
table (suc zero) h = refl
table (suc (suc zero)) h = refl
table (suc (suc (suc zero))) h = refl
table (suc (suc (suc (suc zero)))) h = refl
table (suc (suc (suc (suc (suc n))))) h = absurd (omega arith)

-- each side is 0 or 1
all_known : all (λ arrow. all (λ s. leb (side_at arrow s) 1) 3) 5 ≡ true
unfolding all
all_known = refl

pub sides-known : (arrow s : ℕ) → arrow < 5 → s < 3 → side_at arrow s ≤ 1
sides-known arrow s h l =
    leb-true (side_at arrow s) 1 (all-at (λ s. leb (side_at arrow s) 1) 3 (all-at (λ arrow. all (λ s. leb (side_at arrow s) 1) 3) 5 all_known arrow h) s l)

-- ---- the entries of a row, part by part

module _ (i : ℕ) (a : Association) where
  pub asked-begin : (arrow : ℕ) → entries_for i a (asked_to arrow 0) ≡ []
  unfolding entries_for asked_to joined
  asked-begin arrow = refl

  pub asked-more : (arrow s : ℕ) → entries_for i a (asked_to arrow (s + 1)) ≡ entries_for i a (asked_to arrow s) ++ entries_for i a (asked (kind_at arrow s) (side_at arrow s))
  unfolding entries_for asked_to
  asked-more arrow s =
      ap (map (entry_for i a)) (joined-more (λ k. asked (kind_at arrow k) (side_at arrow k)) s)
      ∙ map-append (entry_for i a) (joined (λ k. asked (kind_at arrow k) (side_at arrow k)) s) (asked (kind_at arrow s) (side_at arrow s))

  pub asked-whole : (arrow s : ℕ) → arrow ≡ a.arrow → s ≡ 3 → a.arrow < 5 → entries_for i a (asked_to arrow s) ≡ entries_for i a (row_of a)
  unfolding row_of
  asked-whole arrow s p q h = rw (p, q) (ap (entries_for i a) (table a.arrow h))

  pub whole-yes : a.form ≡ 1 → bare 6 i ∷ [] ≡ whole_for i a
  unfolding whole_for is_composition
  whole-yes e = rw (eq-eqb a.form 1 e)

  pub whole-no : (a.form ≡ 1 → ⊥) → [] ≡ whole_for i a
  unfolding whole_for is_composition
  whole-no e = rw (ne_eqb a.form 1 e)

  entries-of : entries_for i a (row_of a) ++ whole_for i a ≡ entries_of i a
  unfolding entries_of entries_for whole_for
  entries-of =
      ap (λ (l : List Entry). l ++ cond (is_composition a) (bare 6 i ∷ []) [])
      (each_of (λ k. entry_for i a (get_or (row_of a) k kind5)) (entry_for i a kind5) (map (entry_for i a) (row_of a)) (length (row_of a))
      (length-map (row_of a) (entry_for i a)) (λ k l. get_or-map (entry_for i a) (row_of a) k kind5))

  -- an association's entries are its row's, and then the one of a composition
  pub appends-both : {e q r : Entries} → Appends e q (entries_for i a (row_of a)) → Appends q r (whole_for i a) → Appends e r (entries_of i a)
  appends-both f g = appends-as (appends-then f g) entries-of
