use Rattle.field_writers.proofs.PutLaws.{put-sets, put_as, put_next, put_copy}
use Rattle.files.specs.Content.{name_bytes}
use native.Mathlib.Omega.{arith}
use mathlib.Core.Path.{ap}
use mathlib.Core.List.{List, [], ◌∷◌}
use lib.ListN.{length}
use Prim.Native.Nat.{ℕ, ◌+◌}
use borrow.Author.Rules.{rules}
use Rattle.field_writers.proofs.put_name.Goals as goal

pub returns : goal.returns
unfolding name_bytes
returns c =
    let a = c.args in
    let k = c.copy in
    let xs : List ℕ = length a.w.now ∷ [] in (
      ap (λ (m : ℕ). 1 + m) k.ensures.0,
      put_as (put_next (put-sets xs a.out.now (search rules)) (put_copy a.w.now _ _ _ k.ensures.0 k.ensures.1) (omega (arith, k.ensures.0))) (name_bytes a.w.now) cc,
    )
