-- The test `within` says exactly what `Within` does, for every diagram and every record in memory; and of a byte the test of its
-- targets is one comparison.
-- Assumes nothing.
use Prim.Native.Nat.{ℕ, ◌*◌, ◌+◌, ◌-◌, ◌/◌, ◌^◌, ◌<◌}
use mathlib.Core.Bool.{Bool, true}
use mathlib.Core.Logic.{◌↔◌, ◌≢◌, ⊎_elim}
use mathlib.Core.Path.{◌≡◌}
use lib.Dec.{eqb, leb, ltb}
use lib.ListN.{get_or, length}
use borrow.Author.Tests.{eq-eqb, eqb-true, le-leb, leb-true, lt-ltb, ltb-true}
use Rattle.laws.specs.Bounded.{all}
use Rattle.laws.specs.Connective.{both, either}
use Rattle.laws.proofs.BitLaws.{bits_below, bit_below}
use Rattle.laws.proofs.BoundedLaws.{all-at, all_of}
use Rattle.laws.proofs.ConnectiveLaws.{both_left, both_of, both_right, either-cases, either_left, either-right, imp-of, imp_use, known, same_test, true-false}
use Rattle.records.specs.declared.MemoryRecord.{MemoryRecord}
use Rattle.files.specs.Diagram.{Diagram}
use Rattle.records.specs.Slots.{role_count}
use Rattle.records.specs.Written.{IsValue, Within, constant_known, value_in}
use Rattle.records.specs.WithinTest.{object_known, row_known, targets_known, value_known, values_known, within}

-- the targets in a byte are all below n exactly when it is below 2 ^ n
pub row_below : (n x : ℕ) → x < 256 → ltb x (2 ^ n) ≡ row_known n x
unfolding row_known
row_below n x l =
    same_test _ _ (λ e. all_of _ 8 (λ p _. imp-of _ _ (λ t. lt-ltb _ _ (bit_below n x p (ltb-true _ _ e) t))))
    (λ e. lt-ltb _ _ (bits_below n x (λ p t. ltb-true _ _ (imp_use _ _ (all-at _ 8 e p (bit_below 8 x p l t)) t))))

module _ (d : Diagram) where
  value-known : (v : ℕ) → (value_known d v ≡ true) ↔ (v ≢ 0 → IsValue d (v - 1))
  unfolding value_known
  value-known v = (there, back)
    where
      named : Bool
      named = both (ltb ((v - 1) / 8) (length d.value_types)) (constant_known d (v - 1))

      is : named ≡ true → IsValue d (v - 1)
      is h = record {
        type-known = ltb-true _ _ (both_left (ltb ((v - 1) / 8) (length d.value_types)) (constant_known d (v - 1)) h);
        constant-known = both_right (ltb ((v - 1) / 8) (length d.value_types)) (constant_known d (v - 1)) h;
      }

      there : either (eqb v 0) named ≡ true → v ≢ 0 → IsValue d (v - 1)
      there h n = ⊎_elim (λ e. absurd (n (eqb-true v 0 e))) is (either-cases (eqb v 0) named h)

      back : (v ≢ 0 → IsValue d (v - 1)) → either (eqb v 0) named ≡ true
      back f = ⊎_elim (either_left (eqb v 0) named)
          (λ e. let i = f (λ z. true-false (eq-eqb v 0 z) e) in
          either-right (eqb v 0) named (both_of _ _ (lt-ltb _ _ i.type-known) i.constant-known)) (known (eqb v 0))

  module _ (m : MemoryRecord) where
    pub within-sound : within d m ≡ true → Within d m
    unfolding within object_known values_known targets_known row_known
    within-sound h = record {
      few = leb-true _ _ (both_left (leb m.count 8) (all (object_known d m) m.count) h);
      types = λ o l. ltb-true _ _ (both_left (ltb (get_or m.types o 0) (length d.types)) (both (values_known d m o) (targets_known d m o)) (object o l));
      values = λ o s l k. (value-known (value_in m o s)).0 (all-at _ _ (both_left (values_known d m o) (targets_known d m o) (rest o l)) s k);
      targets = λ o s p l k j t. ltb-true _ _ (imp_use _ _ (all-at _ 8 (all-at _ _ (both_right (values_known d m o) (targets_known d m o) (rest o l)) s k) p j) t);
    }
      where
        object : (o : ℕ) → o < m.count → object_known d m o ≡ true
        object o l = all-at (object_known d m) m.count (both_right (leb m.count 8) (all (object_known d m) m.count) h) o l

        rest : (o : ℕ) → o < m.count → both (values_known d m o) (targets_known d m o) ≡ true
        rest o l = both_right (ltb (get_or m.types o 0) (length d.types)) (both (values_known d m o) (targets_known d m o)) (object o l)

    pub within-complete : Within d m → within d m ≡ true
    unfolding within object_known values_known targets_known row_known
    within-complete w =
        both_of _ _ (le-leb _ _ w.few)
        (all_of (object_known d m) m.count
        (λ o l.
        both_of _ _ (lt-ltb _ _ (w.types o l))
        (both_of _ _ (all_of (λ s. value_known d (value_in m o s)) (length d.attributes) (λ s k. (value-known (value_in m o s)).1 (w.values o s l k)))
        (all_of (λ s. row_known m.count (get_or m.links (o * 32 + s) 0)) (role_count d) (λ s k. all_of _ 8 (λ p j. imp-of _ _ (λ t. lt-ltb _ _ (w.targets o s p l k j t))))))))

    pub within-iff : (within d m ≡ true) ↔ Within d m
    within-iff = (within-sound, within-complete)
