-- Where a row may go, and rows all of whose bits may stand.
-- Assumes nothing.
use Prim.Native.Nat.{◌*◌, ◌<◌, ◌^◌, ℕ}
use mathlib.Core.Bool.{Bool, false, not, true, ◌||◌}
use mathlib.Core.List.{List}
use mathlib.Core.Path.{◌≡◌, ◌∙◌, ap, refl, sym}
use borrow.Author.Tests.{eq-eqb, eqb-true, lt-ltb, ltb-false, ltb-true, not-true}
use lib.Bits.{bit_or}
use lib.Dec.{eqb, ltb}
use lib.ListN.{get_or}
use Rattle.laws.specs.Bits.{bit}
use Rattle.laws.specs.Bounded.{all}
use Rattle.laws.specs.Connective.{imp}
use Rattle.laws.proofs.BitLaws.{bit-or, bit-zero, bits-eq}
use Rattle.std.proofs.lemmas.Nat.{or_lt}
use Rattle.laws.proofs.BoundedLaws.{all-at, all_of}
use Rattle.laws.proofs.ConnectiveLaws.{and_both, and_left, and_right, imp-of, imp_use, or_left, same_test, true-false}
use Rattle.link_search.specs.Nets.{net_of}
use Rattle.leaves.specs.Fitting.{typed}
use Rattle.leaves.specs.Arrays.{Mays, all_covered, covered, may_go, spot_of}

-- row i may go to p
pub record Open (targets types : List ℕ) (n : ℕ) (shut : List ℕ) (i p : ℕ) : Type 0 where
  pub row : i < n * 32
  pub target : p < n
  pub allowed : typed types (get_or targets (spot_of types i) 0) p ≡ true
  pub free : net_of shut i p ≡ false

module _ (targets types : List ℕ) (n : ℕ) (shut may : List ℕ) (m : Mays targets types n shut may) where
  pub may_of : (i p : ℕ) → i < 256 → Open targets types n shut i p → net_of may i p ≡ true
  may_of i p h o =
      (m i h).done o.row p
      ∙ and_both (ltb p n) _ (lt-ltb p n o.target) (and_both (typed types (get_or targets (spot_of types i) 0) p) _ o.allowed (ap not o.free))

  pub may_at : (i p : ℕ) → i < 256 → net_of may i p ≡ true → Open targets types n shut i p
  may_at i p h e = go (ltb i (n * 32)) refl
    where
      go : (b : Bool) → ltb i (n * 32) ≡ b → Open targets types n shut i p
      go true z =
          let row = ltb-true i (n * 32) z in
          let a = sym ((m i h).done row p) ∙ e in
          let r = and_right (ltb p n) (may_go targets types shut i p) a in
          record {
            row = row;
            target = ltb-true p n (and_left (ltb p n) _ a);
            allowed = and_left (typed types (get_or targets (spot_of types i) 0) p) _ r;
            free = not-true (net_of shut i p) (and_right (typed types (get_or targets (spot_of types i) 0) p) (not (net_of shut i p)) r);
          }
      go false z = absurd (true-false e (ap (bit p) ((m i h).rest (ltb-false i (n * 32) z)) ∙ bit-zero p))

module _ (must may : List ℕ) where
  pub covered_of : ((i p : ℕ) → i < 256 → p < 8 → net_of must i p ≡ true → net_of may i p ≡ true) → all_covered must may ≡ true
  unfolding all_covered covered
  covered_of f =
      all_of (λ i. covered (get_or must i 0) (get_or may i 0)) 256 (λ i h. all_of (λ k. imp (net_of must i k) (net_of may i k)) 8 (λ p l. imp-of (net_of must i p) _ (f i p h l)))

  pub covered-at : all_covered must may ≡ true → (i p : ℕ) → i < 256 → p < 8 → net_of must i p ≡ true → net_of may i p ≡ true
  unfolding all_covered covered
  covered-at e i p h l =
      imp_use (net_of must i p) (net_of may i p) (all-at (λ k. imp (net_of must i k) (net_of may i k)) 8 (all-at (λ i. covered (get_or must i 0) (get_or may i 0)) 256 e i h) p l)
