-- Tests joined by `&` one behind the other, as the definitions nest them.
-- Assumes nothing.
use mathlib.Core.Bool.{Bool, true, false, ◌&&◌}
use mathlib.Core.Path.{◌≡◌, refl}
use Rattle.laws.specs.Connective.{both}

pub and-chain : (a b c : Bool) → (a && b) && c ≡ both a (both b c)
unfolding both
and-chain true true c = refl
and-chain true false c = refl
and-chain false b c = refl

pub and-chain-4 : (a b c d : Bool) → ((a && b) && c) && d ≡ both a (both b (both c d))
unfolding both
and-chain-4 true b c d = and-chain b c d
and-chain-4 false b c d = refl

pub and-chain-5 : (a b c d e : Bool) → (((a && b) && c) && d) && e ≡ both a (both b (both c (both d e)))
unfolding both
and-chain-5 true b c d e = and-chain-4 b c d e
and-chain-5 false b c d e = refl
