-- A value and a link stored, by the two ways of its slot, with the facts as the code has them: n is what is returned, i is the
-- slot, and o is the object.
-- Assumes nothing.
use Prim.Native.Nat.{◌*◌, ◌+◌, ◌^◌, ◌<◌, ◌≤◌, ℕ}
use mathlib.Core.Path.{◌≡◌}
use lib.Bits.{bit_or}
use lib.ListN.{get_or}
use borrow.Author.Tests.{le-ltb, lt-ltb}
use Rattle.records.specs.declared.MemoryRecord.{MemoryRecord}
use Rattle.resolving.specs.Stored.{link_stored, value_stored, with_mask_at, with_stray_link, with_stray_value, with_value_at}

module _ (m : MemoryRecord) (s k : ℕ) {n : MemoryRecord} {i : ℕ} (slot : i ≡ s) where
  pub value-stray : (object code : ℕ) → k ≤ i → n ≡ with_stray_value m → n ≡ value_stored m s k object code
  unfolding value_stored
  value-stray object code h e = rw (← slot, le-ltb i k h) e

  pub value_in : (object code : ℕ) {o p : ℕ} → i < k → o ≡ object → p ≡ o * 32 + i → n ≡ with_value_at m p (1 + code) → n ≡ value_stored m s k object code
  unfolding value_stored
  value_in object code h f q e = rw (← slot, lt-ltb i k h, ← f, ← q) e

  pub link-stray : (from to : ℕ) → k ≤ i → n ≡ with_stray_link m → n ≡ link_stored m s k from to
  unfolding link_stored
  link-stray from to h e = rw (← slot, le-ltb i k h) e

  pub link-in : (from to : ℕ) {o t p x : ℕ} → i < k → o ≡ from → t ≡ to → p ≡ o * 32 + i → x ≡ bit_or (get_or m.links p 0) (2 ^ t) → n ≡ with_mask_at m p x
      → n ≡ link_stored m s k from to
  unfolding link_stored
  link-in from to h f g q b e = rw (← slot, lt-ltb i k h, ← f, ← g, ← q, ← b) e
