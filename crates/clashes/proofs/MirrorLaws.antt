-- Two links of which a mirror says that they stand together, where one must stand and the other must not, refute a query.
-- Assumes nothing.
use Prim.Native.Nat.{◌*◌, ◌+◌, ◌<◌, ℕ}
use mathlib.Core.Bool.{true}
use mathlib.Core.List.{List}
use mathlib.Core.Path.{◌∙◌, ◌≡◌, ap, sym}
use native.Mathlib.Omega.{arith}
use lib.ListN.{get_or}
use Rattle.laws.specs.Bits.{bit}
use Rattle.laws.proofs.ConnectiveLaws.{true-false}
use Rattle.link_search.specs.Nets.{net_of}
use Rattle.worlds.specs.declared.Lines.{Lines}
use Rattle.worlds.specs.Kept.{MirrorsKept}
use Rattle.clashes.specs.Clashes.{Never}
use Rattle.clashes.specs.Refuted.{BitsKept, MirroredBetween, Refuted}
use Rattle.worlds.specs.Lined.{mirror_at}

module _ (must shut : List ℕ) (o right p left : ℕ) (small-o : o < 8) (small-right : right < 32) (small-p : p < 8) (small-left : left < 32) where
  pub pair-first : net_of must (o * 32 + right) p ≡ true → net_of shut (p * 32 + left) o ≡ true
      → Never (λ w. BitsKept must shut w × (w.link right o p ≡ w.link left p o))
  pair-first e f = record {
    at = λ w h. true-false (sym h.1 ∙ h.0.must-stand o right p small-o small-right small-p e) (h.0.must-not p left o small-p small-left small-o f);
  }

  pub pair-second : net_of must (p * 32 + left) o ≡ true → net_of shut (o * 32 + right) p ≡ true
      → Never (λ w. BitsKept must shut w × (w.link right o p ≡ w.link left p o))
  pair-second e f = record {
    at = λ w h. true-false (h.1 ∙ h.0.must-stand p left o small-p small-left small-o e) (h.0.must-not o right p small-o small-right small-p f);
  }

module _ (must shut types : List ℕ) (seeds : ℕ) where
  pub mirror-refuted : (from to right left o p : ℕ) → o < seeds → p < seeds → bit (get_or types o 0) from ≡ true → bit (get_or types p 0) to ≡ true
      → Never (λ w. BitsKept must shut w × (w.link right o p ≡ w.link left p o))
      → Refuted (λ w. BitsKept must shut w × MirroredBetween from to right left w) types seeds
  mirror-refuted from to right left o p k l e f never = record {
    at = λ w b h. never.at w
        (h.0, h.1.at o p (omega (arith, b.many)) (omega (arith, b.many)) (ap (λ (t : ℕ). bit t from) (b.kept o k) ∙ e) (ap (λ (t : ℕ). bit t to) (b.kept p l) ∙ f));
  }

  pub turn-refuted : (x : Lines) (j : ℕ) → j < 16
      → Refuted (λ w. BitsKept must shut w × MirroredBetween (mirror_at x j).from (mirror_at x j).to (mirror_at x j).right (mirror_at x j).left w) types seeds
      → Refuted (λ w. BitsKept must shut w × MirrorsKept x w) types seeds
  turn-refuted x j l f = record { at = λ w b h. f.at w b (h.0, record { at = λ o p. h.1.at j o p l }) }
