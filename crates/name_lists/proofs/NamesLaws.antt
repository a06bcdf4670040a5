-- A list of names in memory: how many it has, the name at each place, and one name more.
-- Assumes nothing.
use mathlib.Core.Path.{◌≡◌, ap}
use mathlib.Core.List.{[], ◌∷◌, ◌++◌}
use Prim.Native.Nat.{ℕ, ◌+◌, ◌<◌}
use lib.ListN.{length, get_or}
use Rattle.laws.proofs.JoinedLaws.{get_or-each, length-each, listed_more}
use Rattle.laws.specs.Lists.{joined, listed}
use Rattle.files.specs.Name.{Name}
use Rattle.fields.specs.Slot.{slot_name}
use Rattle.loading.specs.Stored.{NameStored}
use Rattle.name_lists.specs.declared.list.Names.{Names}
use Rattle.name_lists.specs.Names.{names_in}

pub names-length : (n : Names) → length (names_in n) ≡ n.count
unfolding names_in
names-length n = length-each (λ i. slot_name n.names i) [] n.count

pub names_at : (n : Names) (i : ℕ) → i < n.count → get_or (names_in n) i [] ≡ slot_name n.names i
unfolding names_in
names_at n i h = get_or-each (λ i. slot_name n.names i) [] n.count i h

-- no name
pub names-none : (n : Names) → n.count ≡ 0 → names_in n ≡ []
unfolding names_in joined
names-none n e = ap (λ (k : ℕ). listed (λ i. slot_name n.names i) k) e

-- a name stored behind the others
pub names-pushed : (n r : Names) (w : Name) → r.count ≡ n.count + 1 → NameStored n.names n.count w r.names → names_in r ≡ names_in n ++ (w ∷ [])
unfolding names_in
names-pushed n r w e f =
    listed_more (λ i. slot_name r.names i) (λ i. slot_name n.names i) n.count r.count w e (λ i l. f.kept i l) f.is
