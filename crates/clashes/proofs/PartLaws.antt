-- Two links that must stand and make two objects wholes of one refute a query.
-- Assumes nothing.
use Prim.Native.Nat.{◌*◌, ◌+◌, ◌<◌, ◌≤◌, ℕ}
use mathlib.Core.Bool.{◌&&◌, true}
use mathlib.Core.List.{List}
use mathlib.Core.Path.{◌∙◌, ◌≡◌, ap}
use native.Mathlib.Omega.{arith}
use lib.ListN.{get_or}
use Rattle.laws.specs.Bits.{bit}
use Rattle.laws.specs.Bounded.{tally}
use Rattle.laws.proofs.BoundedLaws.{any_at}
use Rattle.laws.proofs.ConnectiveLaws.{and_both, and_left, and_right}
use Rattle.laws.proofs.CountLaws.{tally-mono}
use Rattle.growing.specs.World.{World}
use Rattle.growing.proofs.SplitLaws.{from-split}
use Rattle.link_search.specs.Nets.{net_of}
use Rattle.worlds.specs.declared.Lines.{Lines}
use Rattle.worlds.specs.Coherent.{Slotted}
use Rattle.worlds.specs.Kept.{WholesKept, whole_of}
use Rattle.clashes.specs.Refuted.{Begun, BitsKept, Refuted, must_whole, must_whole_by}
use Rattle.clashes.proofs.ClashLaws.{whole-by}
use Rattle.worlds.specs.Lined.{whole_at}

module _ (x : Lines) (slotted : Slotted x) (must shut types : List ℕ) (seeds p : ℕ) (eight : seeds ≤ 8) (given : p < seeds) where
  must-whole : (w : World) → Begun types seeds w → BitsKept must shut w → (o : ℕ) → o < seeds → must_whole x must types p o ≡ true → whole_of x w p o ≡ true
  must-whole w b h o l e =
      let v = any_at (must_whole_by x must types p o) 16 e in
      let j = v.0 in
      let from = bit (get_or types o 0) (whole_at x j).from in
      let to = bit (get_or types p 0) (whole_at x j).to in
      let net = net_of must (o * 32 + (whole_at x j).slot) p in
      let front = and_left (from && to) net v.2 in
      whole-by x w p o j v.1
      (and_both (bit (w.kind o) (whole_at x j).from) (bit (w.kind p) (whole_at x j).to && w.link (whole_at x j).slot o p)
      (ap (λ (t : ℕ). bit t (whole_at x j).from) (b.kept o l) ∙ and_left from to front)
      (and_both (bit (w.kind p) (whole_at x j).to) (w.link (whole_at x j).slot o p)
      (ap (λ (t : ℕ). bit t (whole_at x j).to) (b.kept p given) ∙ and_right from to front)
      (h.must-stand o (whole_at x j).slot p (omega arith) (slotted.whole j v.1) (omega arith) (and_right (from && to) net v.2))))

  pub part-refuted : 1 < tally (must_whole x must types p) seeds → Refuted (λ w. BitsKept must shut w × WholesKept x w) types seeds
  part-refuted two = record {
    at = λ w b h.
        let a = tally-mono (must_whole x must types p) (whole_of x w p) seeds (must-whole w b h.0) in
        let c = from-split (whole_of x w p) seeds w.size b.many in
        let d = h.1.at p (omega (arith, b.many)) in
        omega arith;
  }
