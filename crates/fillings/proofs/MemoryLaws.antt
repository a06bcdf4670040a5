-- The record in memory that is made for a record of names stands for it: each entry is the one that `Represents` asks for.
-- Assumes nothing.
use Prim.Native.Nat.{◌%◌, ◌*◌, ◌+◌, ◌/◌, ◌<◌, ◌≤◌, ℕ}
use native.Mathlib.Omega.{arith}
use mathlib.Core.Bool.{Bool, cond}
use mathlib.Core.Path.{◌∙◌, ◌≡◌, ap, ap₂, refl}
use lib.Dec.{ltb}
use lib.ListN.{get_or}
use borrow.Author.Tests.{lt-ltb}
use Rattle.laws.specs.Bits.{bit, mask_of}
use Rattle.files.specs.Diagram.{Diagram}
use Rattle.files.specs.Record.{Record, object_count, object_type}
use Rattle.files.specs.WellFormedDiagram.{WfDiagram}
use Rattle.files.specs.WellFormedRecord.{WfRecord}
use Rattle.records.specs.Represents.{link_bit, value_byte}
use Rattle.records.specs.Slots.{type_index}
use Rattle.memory_rules.specs.Stands.{Stands}
use Rattle.fillings.specs.Memory.{memory_of}
use Rattle.laws.proofs.JoinedLaws.{get_or-each}
use Rattle.laws.proofs.MaskLaws.{mask-bit, marks-at}

module _ (d : Diagram) (r : Record) where
  -- ---- by index of an array

  pub memory-type : (o : ℕ) → o < 8 → get_or (memory_of d r).types o 0 ≡ cond (ltb o (object_count r)) (type_index d (object_type r o)) 0
  unfolding memory_of
  memory-type o l = get_or-each (λ i. cond (ltb i (object_count r)) (type_index d (object_type r i)) 0) 0 8 o l

  pub memory-value : (x : ℕ) → x < 256 → get_or (memory_of d r).values x 0 ≡ value_byte d r (x / 32) (x % 32)
  unfolding memory_of
  memory-value x l = get_or-each (λ x. value_byte d r (x / 32) (x % 32)) 0 256 x l

  pub memory-links : (x : ℕ) → x < 256 → get_or (memory_of d r).links x 0 ≡ mask_of (link_bit d r (x / 32) (x % 32)) 8
  unfolding memory_of
  memory-links x l = get_or-each (λ x. mask_of (link_bit d r (x / 32) (x % 32)) 8) 0 256 x l

  -- ---- by object and slot

  type-at : (o : ℕ) → o < 8 → o < object_count r → get_or (memory_of d r).types o 0 ≡ type_index d (object_type r o)
  type-at o k l = memory-type o k ∙ ap (λ (b : Bool). cond b (type_index d (object_type r o)) 0) (lt-ltb o (object_count r) l)

  -- the index of an object's slot
  row : (o s : ℕ) → s < 32 → (o * 32 + s) / 32 ≡ o
  row o s k = omega arith

  column : (o s : ℕ) → s < 32 → (o * 32 + s) % 32 ≡ s
  column o s k = omega arith

  value-at : (o s : ℕ) → o < 8 → s < 32 → get_or (memory_of d r).values (o * 32 + s) 0 ≡ value_byte d r o s
  value-at o s l k = memory-value (o * 32 + s) (omega arith) ∙ ap₂ (value_byte d r) (row o s k) (column o s k)

  link_at : (o s p : ℕ) → o < 8 → s < 32 → p < 8 → bit p (get_or (memory_of d r).links (o * 32 + s) 0) ≡ link_bit d r o s p
  link_at o s p l k j =
      ap (bit p) (memory-links (o * 32 + s) (omega arith) ∙ ap₂ (λ (o s : ℕ). mask_of (link_bit d r o s) 8) (row o s k) (column o s k))
      ∙ marks-at (link_bit d r o s) 8 _ (mask-bit (link_bit d r o s) 8) p j

  -- ---- the record

  pub memory-stands : WfDiagram d → WfRecord r → Stands d r (memory_of d r)
  unfolding memory_of
  memory-stands diagram names = record {
    wf-diagram = diagram;
    wf-record = names;
    count = refl;
    represents = record {
      types = λ o l. type-at o (let few : object_count r ≤ 8 = names.few in omega arith) l;
      values = value-at;
      links = link_at;
      stray-values = refl;
      stray-links = refl;
    };
  }
