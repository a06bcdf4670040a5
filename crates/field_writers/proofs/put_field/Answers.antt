use Prim.Native.Nat.{◌+◌, ℕ}
use native.Mathlib.Omega.{arith}
use mathlib.Core.List.{List, [], ◌++◌, ◌∷◌}
use mathlib.Core.Path.{◌≡◌, ap, refl}
use lib.ListN.{drop, get_or, length}
use Rattle.laws.specs.Lists.{over}
use Rattle.files.specs.Field.{field, two_bytes}
use Rattle.field_writers.specs.Put.{Put}
use Rattle.field_writers.proofs.PutLaws.{put_as, put_copy, put_next}
use Rattle.field_writers.proofs.put_field.Goals as goal

by_bytes : (tag n : ℕ) (two three out : List ℕ) → two ≡ two_bytes n → three ≡ tag ∷ get_or two 0 0 ∷ get_or two 1 0 ∷ [] → Put (tag ∷ two_bytes n) out 3 (three ++ drop 3 out)
unfolding over
by_bytes tag n two three out e f = record { length-is = refl; bytes = rw (f, e) refl }

pub returns : goal.returns
unfolding field
returns c =
    let k = c.copy in (
      ap (λ (m : ℕ). 3 + m) k.ensures.0,
      put_as (put_next (by_bytes c.args.tag (length c.args.c.now) _ _ c.args.out.now c.two_bytes.ensures c.copy_from_slice.ensures.after) (put_copy c.args.c.now _ _ _ k.ensures.0 k.ensures.1)
          (omega (arith, k.ensures.0, c.requires.1))) (field c.args.tag c.args.c.now) refl,
    )
