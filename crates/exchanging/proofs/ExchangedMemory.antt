-- Of every record in memory there is the one with two objects exchanged. It can be written where the other can, and two records
-- of names that such records stand for are judged alike.
-- Assumes nothing.
use Prim.Native.Nat.{◌%◌, ◌*◌, ◌+◌, ◌-◌, ◌/◌, ◌<◌, ◌≤◌, ℕ}
use mathlib.Core.Bool.{Bool, ◌&&◌, true}
use mathlib.Core.Logic.{◌↔◌, ◌≢◌}
use mathlib.Core.Path.{◌∙◌, ◌≡◌, ap, ap₂, refl, subst, sym}
use native.Mathlib.Omega.{arith}
use lib.Dec.{eqb}
use lib.ListN.{get_or, length}
use borrow.Author.Tests.{eqb-true, lt-ltb}
use Rattle.laws.specs.Bits.{bit, mask_of}
use Rattle.files.specs.Diagram.{Diagram}
use Rattle.files.specs.Membership.{has_link}
use Rattle.files.specs.Name.{same_name}
use Rattle.files.specs.Record.{Record, link_at, object_count}
use Rattle.files.specs.WellFormedDiagram.{WfDiagram}
use Rattle.records.specs.declared.MemoryRecord.{MemoryRecord}
use Rattle.records.specs.Represents.{link_bit}
use Rattle.records.specs.Slots.{own_role, role_name}
use Rattle.records.specs.Written.{IsValue, Within, link_in, value_in}
use Rattle.rules.specs.Judge.{Legal, judge}
use Rattle.memory_rules.specs.Stands.{Stands}
use Rattle.laws.specs.Swap.{swap}
use Rattle.exchanging.specs.ExchangedIn.{ExchangedIn, TargetsKnown, exchanged_memory}
use Rattle.laws.proofs.BoundedLaws.{any_at}
use Rattle.laws.proofs.ConnectiveLaws.{both_right}
use Rattle.laws.proofs.JoinedLaws.{get_or-each}
use Rattle.laws.proofs.MaskLaws.{mask-bit}
use Rattle.memory_rules.proofs.JudgeInLaws.{judge-in}
use Rattle.exchanging.proofs.ExchangedInLaws.{exchanged-in-judged}
use Rattle.laws.proofs.SwapLaws.{swap-below, swap-twice}

-- ---- the record that is made

module _ (i j : ℕ) (m : MemoryRecord) where
  made-value : (o s : ℕ) → o < 8 → s < 32 → value_in (exchanged_memory i j m) o s ≡ value_in m (swap i j o) s
  unfolding exchanged_memory
  made-value o s l k =
      let row : (o * 32 + s) / 32 ≡ o = omega arith in
      let column : (o * 32 + s) % 32 ≡ s = omega arith in
      get_or-each (λ x. value_in m (swap i j (x / 32)) (x % 32)) 0 256 (o * 32 + s) (omega arith)
      ∙ ap₂ (λ (o s : ℕ). value_in m (swap i j o) s) row column

  made-link : (o s p : ℕ) → o < 8 → s < 32 → p < 8 → link_in (exchanged_memory i j m) o s p ≡ link_in m (swap i j o) s (swap i j p)
  unfolding exchanged_memory
  made-link o s p l k t =
      let row : (o * 32 + s) / 32 ≡ o = omega arith in
      let column : (o * 32 + s) % 32 ≡ s = omega arith in
      ap (bit p)
      (get_or-each (λ x. mask_of (λ p. link_in m (swap i j (x / 32)) (x % 32) (swap i j p)) 8) 0 256 (o * 32 + s) (omega arith)
      ∙ ap₂ (λ (o s : ℕ). mask_of (λ p. link_in m (swap i j o) s (swap i j p)) 8) row column)
      ∙ mask-bit (λ p. link_in m (swap i j o) s (swap i j p)) 8 p
      ∙ ap (λ (b : Bool). b && link_in m (swap i j o) s (swap i j p)) (lt-ltb p 8 t)

  pub exchanged-memory : m.count ≤ 8 → ExchangedIn i j m (exchanged_memory i j m)
  unfolding exchanged_memory
  exchanged-memory few = record {
    count = refl;
    types = λ o l. get_or-each (λ o. get_or m.types (swap i j o) 0) 0 8 o (omega arith);
    values = λ o s l k. made-value o s (omega arith) k;
    links = λ o s p l k t. made-link o s p (omega arith) k t;
    stray-values = refl;
    stray-links = refl;
  }

-- ---- what it keeps

module _ (d : Diagram) (wf : WfDiagram d) (i j : ℕ) (m n : MemoryRecord) (hi : i < m.count) (hj : j < m.count) (h : ExchangedIn i j m n) where
  below : (o : ℕ) → o < n.count → o < m.count
  below o l = subst (λ (c : ℕ). o < c) h.count l

  goes-below : (o : ℕ) → o < n.count → swap i j o < m.count
  goes-below o l = swap-below i j m.count hi hj o (below o l)

  pub exchanged-in-targets : m.count ≤ 8 → TargetsKnown d m → TargetsKnown d n
  exchanged-in-targets few targets o s p l k t e =
      let to : swap i j p < m.count =
      targets (swap i j o) s (swap i j p) (goes-below o l) k (swap-below i j 8 (omega arith) (omega arith) p t)
      (sym (h.links o s p (below o l) (omega (arith, wf.few-associations)) t) ∙ e) in
      let back : p < m.count = subst (λ (q : ℕ). q < m.count) (swap-twice i j p) (swap-below i j m.count hi hj (swap i j p) to) in
      subst (λ (c : ℕ). p < c) (sym h.count) back

  pub exchanged-in-within : Within d m → Within d n
  exchanged-in-within within = record {
    few = subst (λ (c : ℕ). c ≤ 8) (sym h.count) within.few;
    types = λ o l. subst (λ (t : ℕ). t < length d.types) (sym (h.types o (below o l))) (within.types (swap i j o) (goes-below o l));
    values = λ o s l k some.
        let e : value_in n o s ≡ value_in m (swap i j o) s = h.values o s (below o l) (omega (arith, wf.few-attributes)) in
        subst (λ (v : ℕ). v ≢ 0 → IsValue d (v - 1)) (sym e) (within.values (swap i j o) s (goes-below o l) k) some;
    targets = exchanged-in-targets within.few within.targets;
  }

-- ---- records of names

-- each link of a record in memory goes to an object, where it stands for a record that has a file
pub stands-targets : (d : Diagram) (r : Record) (m : MemoryRecord) → Stands d r m → TargetsKnown d m
unfolding link_bit has_link
stands-targets d r m stands o s p l k t e =
    let few : m.count ≤ 8 = subst (λ (c : ℕ). c ≤ 8) (sym stands.count) stands.wf-record.few in
    let there : link_bit d r o s p ≡ true = sym (stands.represents.links o s p (omega arith) (omega (arith, stands.wf-diagram.few-associations)) t) ∙ e in
    let w = any_at _ (length r.links) (both_right (own_role d s) _ there) in
    let to : (link_at r w.0).to ≡ p = eqb-true _ _ (both_right (same_name (link_at r w.0).role (role_name d s)) _ (both_right (eqb (link_at r w.0).from o) _ w.2)) in
    subst (λ (c : ℕ). p < c) (sym stands.count) (subst (λ (q : ℕ). q < object_count r) to (stands.wf-record.link w.0 w.1).to_below)

-- two records of names, the one with two objects of the other exchanged
module _ (d : Diagram) (r s : Record) (m n : MemoryRecord) (a : Stands d r m) (b : Stands d s n) (i j : ℕ) (hi : i < m.count) (hj : j < m.count)
    (h : ExchangedIn i j m n) where
  pub exchanged-judged : judge d s ≡ judge d r
  exchanged-judged =
      let few : m.count ≤ 8 = subst (λ (c : ℕ). c ≤ 8) (sym a.count) a.wf-record.few in
      sym (judge-in d s n b) ∙ exchanged-in-judged d a.wf-diagram i j m n few hi hj h (stands-targets d r m a) ∙ judge-in d r m a

  pub exchanged-legal : Legal d s ↔ Legal d r
  exchanged-legal = (λ e. sym exchanged-judged ∙ e, λ e. exchanged-judged ∙ e)
