-- What entries in memory say: the entry at an index, their list, and a list that gains entries at its end.
-- Assumes nothing.
use Rattle.std.specs.Prelude.{ℕ, ◌≤◌, List, ◌++◌, ◌≡◌, get_or, replicate}
use Rattle.laws.specs.Lists.{listed}
use Rattle.rules.specs.Compile.{Entry}
use Rattle.entries.specs.declared.Entries.{Entries}
use Rattle.entries.specs.declared.Entry as stored

abbrev pub entry_of : ℕ → ℕ → ℕ → ℕ → ℕ → Entry
entry_of kind association side low up = record { kind = kind; association = association; side = side; low = low; up = up }

-- what an entry in memory says, and the one that is all zero
abbrev pub entry_seen : stored.Entry → Entry
entry_seen x = entry_of x.kind x.association x.side x.low x.up

abbrev pub zero_entry : stored.Entry
zero_entry = record { kind = 0; association = 0; side = 0; low = 0; up = 0 }

unfoldable pub entry_in : Entries → ℕ → Entry
entry_in e i = entry_seen (get_or e.list i zero_entry)

unfoldable pub entries_in : Entries → List Entry
entries_in e = listed (entry_in e) e.number

unfoldable pub no_entries : Entries
no_entries = record { number = 0; list = replicate 64 zero_entry }

-- r has the entries of e and then v, and past its number what e has there
pub record Appends (e r : Entries) (v : List Entry) : Type 0 where
  pub gained : entries_in r ≡ entries_in e ++ v
  pub kept : (k : ℕ) → r.number ≤ k → entry_in r k ≡ entry_in e k
