-- The list of entries by its length and by index; entries that gain entries at the end: none, one behind the other, and the one
-- that a store at the number puts there.
-- Assumes nothing.
use Prim.Native.Nat.{ℕ, ◌+◌, ◌<◌, ◌≤◌}
use native.Mathlib.Omega.{arith}
use mathlib.Core.List.{List, [], ◌∷◌, ◌++◌, append_assoc, append-nil}
use mathlib.Core.Logic.{◌≢◌}
use mathlib.Core.Path.{◌≡◌, refl, sym, ap, ap₂, ◌∙◌}
use lib.ListN.{length, set, length-append}
use lib.Seq.{get_or-set_same, get_or-set_other}
use Rattle.laws.specs.Lists.{joined}
use Rattle.laws.proofs.JoinedLaws.{joined-more, joined-ext, length-each, get_or-each}
use Rattle.rules.specs.Compile.{Entry, bare, entry_at}
use Rattle.entries.specs.declared.Entries.{Entries}
use Rattle.entries.specs.View.{Appends, entries_in, entry_in, entry_seen, zero_entry}
use Rattle.entries.specs.declared.Entry as stored

pub number_is : (e : Entries) → length (entries_in e) ≡ e.number
unfolding entries_in
number_is e = length-each (entry_in e) (bare 0 0) e.number

pub entry-at : (e : Entries) (k : ℕ) → k < e.number → entry_at (entries_in e) k ≡ entry_in e k
unfolding entries_in
entry-at e k l = get_or-each (entry_in e) (bare 0 0) e.number k l

pub appends-none : (e : Entries) → Appends e e []
appends-none e = record { gained = sym (append-nil (entries_in e)); kept = λ k h. refl }

pub appends-as : {e r : Entries} {u v : List Entry} → Appends e r u → u ≡ v → Appends e r v
appends-as {e} f p = record { gained = f.gained ∙ ap (λ (l : List Entry). entries_in e ++ l) p; kept = f.kept }

pub grown : {e r : Entries} {v : List Entry} → Appends e r v → r.number ≡ e.number + length v
grown {e} {r} {v} f = sym (number_is r) ∙ ap length f.gained ∙ length-append (entries_in e) v ∙ ap (λ (k : ℕ). k + length v) (number_is e)

pub appends-then : {e q r : Entries} {u v : List Entry} → Appends e q u → Appends q r v → Appends e r (u ++ v)
appends-then {e} {q} {r} {u} {v} f g = record {
  gained = g.gained ∙ ap (λ (l : List Entry). l ++ v) f.gained ∙ append_assoc (entries_in e) u v;
  kept = λ k h. g.kept k h ∙ f.kept k (let l : q.number ≤ k = omega (arith, grown g) in l);
}

-- one entry at the number, and no other changed
pub appends-one : (e r : Entries) (x : Entry) → r.number ≡ e.number + 1 → entry_in r e.number ≡ x → ((k : ℕ) → k ≢ e.number → entry_in r k ≡ entry_in e k)
    → Appends e r (x ∷ [])
unfolding entries_in
appends-one e r x n at other = record {
  gained =
      ap (joined (λ i. entry_in r i ∷ [])) n ∙ joined-more (λ i. entry_in r i ∷ []) e.number
      ∙ ap₂ (λ (l : List Entry) (y : Entry). l ++ (y ∷ []))
      (joined-ext (λ i. entry_in r i ∷ []) (λ i. entry_in e i ∷ []) e.number
      (λ i l. ap (λ (y : Entry). y ∷ []) (other i (λ p. let z : ⊥ = omega arith in z)))) at;
  kept = λ k h. other k (λ p. let z : ⊥ = omega arith in z);
}

pub one-as : {x y : Entry} → x ≡ y → x ∷ [] ≡ y ∷ []
one-as e = ap (λ (x : Entry). x ∷ []) e

-- what the store at the number leaves
module _ (e : Entries) (x : stored.Entry) where
  abbrev pub stored_with : Entries
  stored_with = record { number = e.number + 1; list = set e.list e.number x }

  pub pushed : e.number < length e.list → Appends e stored_with (entry_seen x ∷ [])
  unfolding entry_in
  pushed l =
      appends-one e stored_with (entry_seen x) refl (ap entry_seen (get_or-set_same e.list e.number x zero_entry l))
      (λ k p. ap entry_seen (get_or-set_other e.list e.number k x zero_entry p))
