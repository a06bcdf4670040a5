-- A record in memory whose numbers are all zero, and with no mark, is the empty one.
-- Assumes nothing.
use Prim.Native.Nat.{ℕ}
use mathlib.Core.Bool.{false}
use mathlib.Core.List.{List}
use mathlib.Core.Path.{◌≡◌}
use Rattle.std.specs.Array.{AllOfLen}
use Rattle.laws.proofs.ArrayLaws.{default-zeros}
use Rattle.records.specs.declared.MemoryRecord.{MemoryRecord}
use Rattle.records.specs.Empty.{empty_record}

abbrev Zeros : List ℕ → ℕ → Type 0
Zeros = AllOfLen (λ (x : ℕ). x ≡ 0)

pub zero-record :
    (m : MemoryRecord)
    → ((m.count ≡ 0) × (Zeros m.types 8 × (Zeros m.values 256 × (Zeros m.links 256 × ((m.strays.values ≡ false) × (m.strays.links ≡ false))))))
    → m ≡ empty_record
unfolding empty_record
zero-record m (n, (t, (v, (l, (a, b))))) = λ i.
    record {
      count = n i;
      types = default-zeros t i;
      values = default-zeros v i;
      links = default-zeros l i;
      strays = record { values = a i; links = b i };
    }
