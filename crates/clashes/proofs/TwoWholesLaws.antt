-- Two targets whose links back make them wholes are two wholes of one object, and there is none with two.
-- Assumes nothing.
use Prim.Native.Nat.{◌<◌, ◌≤◌, ℕ}
use mathlib.Core.Bool.{◌&&◌, true}
use mathlib.Core.Path.{◌∙◌, ◌≡◌, ap, sym}
use native.Mathlib.Omega.{arith}
use lib.Bits.{bit_and}
use Rattle.laws.specs.Bits.{bit}
use Rattle.laws.proofs.BitLaws.{bit-and}
use Rattle.laws.proofs.ConnectiveLaws.{and_both, and_left, and_right}
use Rattle.laws.proofs.CountLaws.{tally-mono}
use Rattle.growing.specs.World.{World}
use Rattle.worlds.specs.declared.Lines.{Lines}
use Rattle.worlds.specs.Kept.{MirrorsKept, WholesKept, whole_of}
use Rattle.clashes.specs.Clashes.{FirstTargets, Never}
use Rattle.clashes.proofs.ClashLaws.{whole-by}
use Rattle.worlds.specs.Lined.{mirror_at, whole_at}

module _ (x : Lines) (t slot mask j : ℕ) (small : j < 16) (left : (mirror_at x j).left ≡ slot) (right : (whole_at x j).slot ≡ (mirror_at x j).right)
    (target : bit t (mirror_at x j).to ≡ true) (part : bit t (whole_at x j).to ≡ true)
    (inside : (u : ℕ) → bit u mask ≡ true → bit u (bit_and (mirror_at x j).from (whole_at x j).from) ≡ true) where
  module _ (low high : ℕ) (w : World) (f : FirstTargets t slot mask low high w) (mirrors : MirrorsKept x w) where
    target-whole : (o : ℕ) → o < w.size → w.link slot 0 o ≡ true → whole_of x w 0 o ≡ true
    target-whole o l e =
        whole-by x w 0 o j small
        (and_both (bit (w.kind o) (whole_at x j).from) (bit (w.kind 0) (whole_at x j).to && w.link (whole_at x j).slot o 0)
        (and_right (bit (w.kind o) (mirror_at x j).from) (bit (w.kind o) (whole_at x j).from) both)
        (and_both (bit (w.kind 0) (whole_at x j).to) (w.link (whole_at x j).slot o 0) (ap (λ (u : ℕ). bit u (whole_at x j).to) f.kind ∙ part) back))
      where
        both : bit (w.kind o) (mirror_at x j).from && bit (w.kind o) (whole_at x j).from ≡ true
        both = sym (bit-and (w.kind o) (mirror_at x j).from (whole_at x j).from) ∙ inside (w.kind o) (f.typed o l e)

        back : w.link (whole_at x j).slot o 0 ≡ true
        back = ap (λ (z : ℕ). w.link z o 0) right
            ∙ mirrors.at j o 0 small l f.some (and_left (bit (w.kind o) (mirror_at x j).from) (bit (w.kind o) (whole_at x j).from) both) (ap (λ (u : ℕ). bit u (mirror_at x j).to) f.kind ∙ target)
            ∙ ap (λ (z : ℕ). w.link z 0 o) left ∙ e

  pub two-wholes : (low high : ℕ) → 2 ≤ low → Never (λ w. FirstTargets t slot mask low high w × (MirrorsKept x w × WholesKept x w))
  two-wholes low high two = record {
    at = λ w p.
        let a = tally-mono (λ o. w.link slot 0 o) (whole_of x w 0) w.size (target-whole low high w p.0 p.1.0) in
        let b = p.1.1.at 0 p.0.some in
        omega (arith, p.0.within.least);
  }
