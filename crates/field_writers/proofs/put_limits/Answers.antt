use Prim.Native.Nat.{ℕ}
use mathlib.Core.List.{List, [], ◌++◌, ◌∷◌}
use mathlib.Core.Path.{◌≡◌, refl}
use lib.ListN.{drop, get_or}
use borrow.Author.Tests.{eq-eqb, ne_eqb}
use Rattle.laws.specs.Lists.{over}
use Rattle.files.specs.Field.{two_bytes}
use Rattle.files.specs.Limit.{limit_bytes, limits_end}
use Rattle.field_writers.specs.Put.{Put}
use Rattle.field_writers.proofs.put_limits.Goals as goal

wide : (e t low up : ℕ) (a b five out : List ℕ) → e ≡ 2 → a ≡ two_bytes low → b ≡ two_bytes up → five ≡ t ∷ get_or a 0 0 ∷ get_or a 1 0 ∷ get_or b 0 0 ∷ get_or b 1 0 ∷ []
    → (5 ≡ limits_end e) × Put (t ∷ (limit_bytes e low ++ limit_bytes e up)) out 5 (five ++ drop 5 out)
unfolding over limit_bytes
wide e t low up a b five out q p r s = (rw (eq-eqb e 2 q) refl, rw (eq-eqb e 2 q) (record { length-is = refl; bytes = rw (s, p, r) refl }))

narrow : (e t low up : ℕ) (three out : List ℕ) → (e ≡ 2 → ⊥) → three ≡ t ∷ low ∷ up ∷ []
    → (3 ≡ limits_end e) × Put (t ∷ (limit_bytes e low ++ limit_bytes e up)) out 3 (three ++ drop 3 out)
unfolding over limit_bytes
narrow e t low up three out q s = (rw (ne_eqb e 2 q) refl, rw (ne_eqb e 2 q) (record { length-is = refl; bytes = rw s refl }))

pub returns-then-edition-eq2 : goal.returns-then-edition-eq2
returns-then-edition-eq2 c = wide c.args.edition c.args.type_index c.args.low c.args.up _ _ _ c.args.out.now c.if-edition-eq2.true c.two_bytes.ensures c.two_bytes-then-edition-eq2.ensures c.copy_from_slice.ensures.after

pub returns-else-edition-eq2 : goal.returns-else-edition-eq2
returns-else-edition-eq2 c = narrow c.args.edition c.args.type_index c.args.low c.args.up _ c.args.out.now c.if-edition-eq2.false c.copy_from_slice-else-edition-eq2.ensures.after
