-- A file of edition 2 is four numbers longer than that of edition 1, for each association.
-- Assumes nothing.
use Prim.Native.Nat.{◌*◌, ◌+◌, ℕ, suc, zero}
use native.Mathlib.Omega.{arith}
use mathlib.Core.List.{[], ◌++◌, ◌∷◌}
use mathlib.Core.Path.{◌≡◌, refl}
use lib.ListN.{length, length-append}
use Rattle.laws.specs.Lists.{joined}
use Rattle.files.specs.Diagram.{Association, Diagram, End, association_at, attribute_at, type_at, value_type_at}
use Rattle.files.specs.DiagramBytes.{association_bytes, attribute_bytes, end_bytes, type_bytes, value_type_bytes, write_diagram}
use Rattle.files.specs.Field.{field}
use Rattle.files.specs.Limit.{limit_bytes}
use Rattle.files.proofs.SizeLaws.{field-length}

end-longer : (x : End) → length (end_bytes 2 x) ≡ length (end_bytes 1 x) + 2
unfolding end_bytes limit_bytes
end-longer x = omega arith

association-longer : (a : Association) → length (field 0x50 (association_bytes 2 a)) ≡ length (field 0x50 (association_bytes 1 a)) + 4
unfolding association_bytes
association-longer a =
    omega (
      arith,
      end-longer a.left,
      end-longer a.right,
      length-append (end_bytes 1 a.left) (end_bytes 1 a.right),
      length-append (end_bytes 2 a.left) (end_bytes 2 a.right),
      field-length 0x50 (association_bytes 1 a),
      field-length 0x50 (association_bytes 2 a),
    )

associations-longer : (f : ℕ → Association) (n : ℕ)
    → length (joined (λ i. field 0x50 (association_bytes 2 (f i))) n) ≡ length (joined (λ i. field 0x50 (association_bytes 1 (f i))) n) + n * 4
unfolding joined
associations-longer f zero = refl
associations-longer f (suc n) =
    omega (
      arith,
      associations-longer f n,
      association-longer (f n),
      length-append (joined (λ i. field 0x50 (association_bytes 1 (f i))) n) (field 0x50 (association_bytes 1 (f n))),
      length-append (joined (λ i. field 0x50 (association_bytes 2 (f i))) n) (field 0x50 (association_bytes 2 (f n))),
    )

pub edition-2-longer : (d : Diagram) → length (write_diagram 2 d) ≡ length (write_diagram 1 d) + length d.associations * 4
unfolding write_diagram
edition-2-longer d =
    let vs = joined (λ i. field 0x20 (value_type_bytes (value_type_at d i))) (length d.value_types) in
    let ts = joined (λ i. field 0x30 (type_bytes (type_at d i))) (length d.types) in
    let bs = joined (λ i. field 0x40 (attribute_bytes (attribute_at d i))) (length d.attributes) in
    let ss = joined (λ i. field 0x50 (association_bytes 1 (association_at d i))) (length d.associations) in
    let ss' = joined (λ i. field 0x50 (association_bytes 2 (association_at d i))) (length d.associations) in
    omega (
      arith,
      field-length 0x10 (1 ∷ []),
      field-length 0x10 (2 ∷ []),
      length-append (field 0x10 (1 ∷ [])) (vs ++ (ts ++ (bs ++ ss))),
      length-append (field 0x10 (2 ∷ [])) (vs ++ (ts ++ (bs ++ ss'))),
      length-append vs (ts ++ (bs ++ ss)),
      length-append vs (ts ++ (bs ++ ss')),
      length-append ts (bs ++ ss),
      length-append ts (bs ++ ss'),
      length-append bs ss,
      length-append bs ss',
      associations-longer (association_at d) (length d.associations),
    )
