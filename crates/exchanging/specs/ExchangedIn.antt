-- Two objects of a record in memory exchange their numbers.
-- Assumes nothing.
use Rattle.std.specs.Prelude.{◌%◌, ◌/◌, ◌<◌, ℕ, true, ◌≡◌, get_or}
use Rattle.laws.specs.Bits.{mask_of}
use Rattle.laws.specs.Lists.{listed}
use Rattle.files.specs.Diagram.{Diagram}
use Rattle.records.specs.declared.MemoryRecord.{MemoryRecord}
use Rattle.records.specs.Slots.{role_count}
use Rattle.records.specs.Written.{link_in, value_in}
use Rattle.laws.specs.Swap.{swap}

-- n is m, i and j exchanged: what an object of n has is what the one that it goes to has in m
pub record ExchangedIn (i j : ℕ) (m n : MemoryRecord) : Type 0 where
  pub count : n.count ≡ m.count
  pub types : (o : ℕ) → o < m.count → get_or n.types o 0 ≡ get_or m.types (swap i j o) 0
  pub values : (o s : ℕ) → o < m.count → s < 32 → value_in n o s ≡ value_in m (swap i j o) s
  pub links : (o s p : ℕ) → o < m.count → s < 32 → p < 8 → link_in n o s p ≡ link_in m (swap i j o) s (swap i j p)
  pub stray-values : n.strays.values ≡ m.strays.values
  pub stray-links : n.strays.links ≡ m.strays.links

-- each link goes to an object
abbrev pub TargetsKnown : Diagram → MemoryRecord → Type 0
TargetsKnown d m = (o s p : ℕ) → o < m.count → s < role_count d → p < 8 → link_in m o s p ≡ true → p < m.count

-- the record that is m, i and j exchanged: number x of values and links is object x / 32, slot x % 32
unfoldable pub exchanged_memory : ℕ → ℕ → MemoryRecord → MemoryRecord
exchanged_memory i j m = record {
  count = m.count;
  types = listed (λ o. get_or m.types (swap i j o) 0) 8;
  values = listed (λ x. value_in m (swap i j (x / 32)) (x % 32)) 256;
  links = listed (λ x. mask_of (λ p. link_in m (swap i j (x / 32)) (x % 32) (swap i j p)) 8) 256;
  strays = m.strays;
}
