-- What follows where a record can be written.
-- Assumes nothing.
use Prim.Native.Nat.{ℕ, ◌≤◌}
use mathlib.Core.Bool.{true, false≢true}
use mathlib.Core.List.{List}
use mathlib.Core.Path.{◌≡◌, refl, sym, ap, subst, ◌∙◌}
use lib.Dec.{leb}
use lib.ListN.{length}
use borrow.Author.Tests.{leb-true}
use Rattle.std.specs.Prelude.{Option, None, Some}
use Rattle.laws.proofs.ConnectiveLaws.{both_left, both_right}
use Rattle.files.specs.Diagram.{Diagram}
use Rattle.records.specs.declared.MemoryRecord.{MemoryRecord}
use Rattle.records.specs.Written.{Within, record_of}
use Rattle.records.specs.WithinTest.{within}
use Rattle.records.proofs.WithinLaws.{within-sound}
use Rattle.writing.specs.Writes.{Writes, WritesWithin, writable}

module _ (d : Diagram) (m : MemoryRecord) where
  module _ (room : ℕ) (h : writable d m room ≡ true) where
    pub writable-room : 59300 ≤ room
    unfolding writable
    writable-room = leb-true 59300 room (both_left (leb 59300 room) (within d m) h)

    pub writable-within : Within d m
    unfolding writable
    writable-within = within-sound d m (both_right (leb 59300 room) (within d m) h)

    -- it was written
    pub written-some : (s t : List ℕ) {r : Option ℕ} → length s ≡ room → WritesWithin d m s r t → (n : ℕ) × (r ≡ Some n)
    written-some s t {r = Some n} e p = (n, refl)
    written-some s t {r = None} e p = absurd (false≢true (sym p.0 ∙ ap (writable d m) e ∙ h))

  pub written-as : (s t : List ℕ) {r : Option ℕ} {n : ℕ} → r ≡ Some n → WritesWithin d m s r t → Writes (record_of d m) s n t
  written-as s t e p = (subst (λ (x : Option ℕ). WritesWithin d m s x t) e p).1
