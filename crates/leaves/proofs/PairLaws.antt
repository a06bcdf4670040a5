-- A net keeps mirrors and wholes exactly when the links do.
-- Assumes nothing.
use Prim.Native.Nat.{◌*◌, ◌+◌, ◌<◌, ◌≤◌, ℕ}
use native.Mathlib.Omega.{arith}
use mathlib.Core.Bool.{Bool, false, true}
use mathlib.Core.List.{List}
use mathlib.Core.Path.{◌≡◌, ◌∙◌, ap, refl, subst, sym}
use borrow.Author.Tests.{lt-ltb, ltb-false, ltb-true}
use lib.Dec.{ltb}
use Rattle.laws.specs.Bounded.{tally}
use Rattle.laws.proofs.ConnectiveLaws.{and_both, and_left, and_right}
use Rattle.link_search.specs.Nets.{Net}
use Rattle.link_search.specs.Families.{Mirrors, Wholes, mirror_in, whole}
use Rattle.link_search.specs.declared.asked.Mirror.{Mirror}
use Rattle.link_search.specs.declared.asked.Whole.{Whole}
use Rattle.worlds.specs.declared.Lines.{Lines}
use Rattle.worlds.specs.Kept.{MirrorsKept, WholesKept, whole_of}
use Rattle.leaves.specs.Fitting.{typed}
use Rattle.leaves.specs.Arrays.{MirrorsAsk, WholesAsk}
use Rattle.leaves.proofs.NetCountLaws.{Agree, no-wholes, whole-count}
use Rattle.leaves.proofs.RetypedLaws.{made}
use Rattle.worlds.specs.Lined.{mirror_at}

module _ (x : Lines) (types : List ℕ) (n : ℕ) (link : ℕ → ℕ → ℕ → Bool) (v : Net) (g : Agree n link v) where
  module _ (ms : List Mirror) (asks : MirrorsAsk x types n ms) where
    -- a link by mirror j, and a link back
    there : (j o p : ℕ) → j < 16 → o < 8 → p < 8 → v (o * 32 + (mirror_in ms j).right) p ≡ link (mirror_at x j).right o p
    there j o p hj ho hp =
        let e = (asks j hj).right-is in
        let small = (mirror_in ms j).slotted_right in
        ap (λ (k : ℕ). v (o * 32 + k) p) e ∙ g.at (mirror_at x j).right o p (omega arith) ho hp

    back : (j o p : ℕ) → j < 16 → o < 8 → p < 8 → v (p * 32 + (mirror_in ms j).left) o ≡ link (mirror_at x j).left p o
    back j o p hj ho hp =
        let e = (asks j hj).left-is in
        let small = (mirror_in ms j).slotted_left in
        ap (λ (k : ℕ). v (p * 32 + k) o) e ∙ g.at (mirror_at x j).left p o (omega arith) hp ho

    pub mirrors-of : MirrorsKept x (made n types link) → Mirrors ms v
    mirrors-of k = record {
      at = λ j hj o p ho hp a b.
          let c = sym ((asks j hj).from-are o) ∙ a in
          let d = sym ((asks j hj).to-are p) ∙ b in
          there j o p hj ho hp
          ∙ k.at j o p hj (ltb-true o n (and_left (ltb o n) _ c)) (ltb-true p n (and_left (ltb p n) _ d))
          (and_right (ltb o n) (typed types (mirror_at x j).from o) c) (and_right (ltb p n) (typed types (mirror_at x j).to p) d)
          ∙ sym (back j o p hj ho hp);
    }

    pub mirrors-kept : Mirrors ms v → MirrorsKept x (made n types link)
    mirrors-kept m = record {
      at = λ j o p hj ho hp a b.
          let ho8 : o < 8 = omega (arith, g.few) in
          let hp8 : p < 8 = omega (arith, g.few) in
          sym (there j o p hj ho8 hp8)
          ∙ m.at j hj o p ho8 hp8 ((asks j hj).from-are o ∙ and_both (ltb o n) _ (lt-ltb o n ho) a) ((asks j hj).to-are p ∙ and_both (ltb p n) _ (lt-ltb p n hp) b)
          ∙ back j o p hj ho8 hp8;
    }

  module _ (ws : List Whole) (asks : WholesAsk x types n ws) where
    count : (p : ℕ) → p < 8 → tally (whole ws v p) 8 ≡ tally (whole_of x (made n types link) p) n
    count = whole-count n types link v g x ws asks

    pub wholes-of : WholesKept x (made n types link) → Wholes ws v
    wholes-of k = record { at = λ p hp. subst (λ (m : ℕ). m ≤ 1) (sym (count p hp)) (go p hp (ltb p n) refl) }
      where
        go : (p : ℕ) → p < 8 → (b : Bool) → ltb p n ≡ b → tally (whole_of x (made n types link) p) n ≤ 1
        go p hp true e = k.at p (ltb-true p n e)
        go p hp false e = omega (arith, no-wholes n types link v g x ws asks p (ltb-false p n e))

    pub wholes-kept : Wholes ws v → WholesKept x (made n types link)
    wholes-kept w = record { at = λ p hp. let h : p < 8 = omega (arith, g.few) in subst (λ (m : ℕ). m ≤ 1) (count p h) (w.at p h) }
