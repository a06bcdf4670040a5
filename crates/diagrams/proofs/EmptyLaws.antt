-- A diagram whose numbers are all zero is the empty one.
-- Assumes nothing.
use Prim.Native.Nat.{ℕ}
use mathlib.Core.List.{List}
use mathlib.Core.Path.{◌≡◌}
use Rattle.std.specs.Array.{AllOfLen}
use Rattle.laws.proofs.ArrayLaws.{default-zeros}
use Rattle.diagrams.specs.declared.StoredDiagram.{StoredDiagram}
use Rattle.diagrams.specs.Empty.{empty_diagram}

abbrev Zeros : List ℕ → ℕ → Type 0
Zeros = AllOfLen (λ (x : ℕ). x ≡ 0)

pub zero-diagram :
    (d : StoredDiagram)
    → ((d.values.count ≡ 0) × (Zeros d.values.names 204 × (Zeros d.values.sizes 12 × (Zeros d.values.constants 1632)))) × (((d.types.count ≡ 0) × (Zeros d.types.kinds 24 × (Zeros d.types.names 408 × (Zeros d.types.sizes 24 × (Zeros d.types.parents 96 × (Zeros d.types.sets 24)))))) × (((d.attributes.count ≡ 0) × (Zeros d.attributes.owners 32 × (Zeros d.attributes.names 544 × (Zeros d.attributes.types 32)))) × ((d.associations.count ≡ 0) × (Zeros d.associations.forms 16 × (Zeros d.associations.arrows 16 × (Zeros d.associations.types 32 × (Zeros d.associations.lows 32 × (Zeros d.associations.ups 32 × (Zeros d.associations.roles 544)))))))))
    → d ≡ empty_diagram
unfolding empty_diagram
zero-diagram d (v, (t, (a, s))) = λ i.
    record {
      values = record { count = v.0 i; names = default-zeros (v.1.0) i; sizes = default-zeros (v.1.1.0) i; constants = default-zeros (v.1.1.1) i };
      types = record { count = t.0 i; kinds = default-zeros (t.1.0) i; names = default-zeros (t.1.1.0) i; sizes = default-zeros (t.1.1.1.0) i; parents = default-zeros (t.1.1.1.1.0) i; sets = default-zeros (t.1.1.1.1.1) i };
      attributes = record { count = a.0 i; owners = default-zeros (a.1.0) i; names = default-zeros (a.1.1.0) i; types = default-zeros (a.1.1.1) i };
      associations = record { count = s.0 i; forms = default-zeros (s.1.0) i; arrows = default-zeros (s.1.1.0) i; types = default-zeros (s.1.1.1.0) i; lows = default-zeros (s.1.1.1.1.0) i; ups = default-zeros (s.1.1.1.1.1.0) i; roles = default-zeros (s.1.1.1.1.1.1) i };
    }
