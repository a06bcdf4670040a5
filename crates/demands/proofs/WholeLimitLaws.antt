-- A part that compositions give its whole has one whole, of the types that they ask for: a limit.
-- Assumes nothing.
use Rattle.std.specs.Prelude.{IfSome, None, Option, Some}
use Rattle.std.specs.Option.{MatchOption}
use Prim.Native.Nat.{◌<◌, ℕ}
use mathlib.Core.Bool.{Bool}
use mathlib.Core.Path.{◌≡◌, subst, sym}
use native.Mathlib.Omega.{arith}
use lib.ListN.{get_or}
use Rattle.laws.proofs.BitLaws.{bit-zero}
use Rattle.growing.specs.World.{World}
use Rattle.worlds.specs.declared.Lines.{Lines}
use Rattle.worlds.specs.Kept.{ColumnsKept, WholesKept, whole_of}
use Rattle.common_wholes.specs.Common.{Common}
use Rattle.demands.specs.declared.Start.{Start}
use Rattle.demands.specs.Wishes.{Limited, Sharpens}
use Rattle.demands.proofs.NeedLaws.{sharp-same}

whole-sharp : (x : Lines) (s : Start) (best r : Option ℕ) (p mask : ℕ) → p < s.k → Common x (get_or s.types.at p 0) mask
    → Sharpens (λ w. (q : ℕ → Bool) × Limited 1 1 mask 0 q w) s best r → Sharpens (λ w. ColumnsKept x w × WholesKept x w) s best r
whole-sharp x s best r p mask given common f = record {
  at = λ w a h.
      let l : p < w.size = omega (arith, a.many) in
      let c = common.at w h.0 h.1 p l (a.kept p given) in
      f.at w a
      (whole_of x w p, record { within = record { least = c.there; most = h.1.at p l }; typed = c.typed; apart = λ o _ _. bit-zero o });
}

-- what sharpens a wish to one, sharpens it to a wish that is the same
pub same-wish : {P : World → Type 0} {s : Start} {best r z : Option ℕ} → r ≡ z → Sharpens P s best z → Sharpens P s best r
same-wish {P} {s} {best} e f = subst (λ (x : Option ℕ). Sharpens P s best x) (sym e) f

-- with no such type asked, the wish stays
pub whole-by : {P : ℕ → Type 0} (x : Lines) (s : Start) (best r o : Option ℕ) (p : ℕ) {t : ℕ} → p < s.k → t ≡ get_or s.types.at p 0 → IfSome o (Common x t) → MatchOption o (r ≡ best) P
    → ((mask : ℕ) → P mask → Sharpens (λ w. (q : ℕ → Bool) × Limited 1 1 mask 0 q w) s best r) → Sharpens (λ w. ColumnsKept x w × WholesKept x w) s best r
whole-by x s best r None p given e common stays f = same-wish stays (sharp-same s best)
whole-by x s best r (Some mask) p given e common k f = whole-sharp x s best r p mask given (subst (λ (z : ℕ). Common x z mask) e common) (f mask k)
