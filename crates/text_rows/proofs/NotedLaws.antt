-- A test as a number, and what is read of the class of a state.
-- Assumes nothing.
use Rattle.std.specs.Prelude.{ℕ, ◌≤◌, Bool, false, true, ◌≡◌, ltb, Option, None, Some, unwrap_or}
use Rattle.std.specs.Int.{from_bool}
use Rattle.std.specs.Option.{is_some}
use Rattle.std.proofs.Common.{◌∙◌, ap, refl, sym, arith}
use borrow.Author.Tests.{lt-ltb}
use Rattle.laws.specs.Bounded.{one}

pub one-from : (b : Bool) → from_bool b ≡ one b
one-from true = refl
one-from false = refl

pub passed-is : (o : Option ℕ) {n : ℕ} → unwrap_or o 29 ≡ n → ((c : ℕ) → o ≡ Some c → c ≤ 28) → is_some o ≡ ltb n 29
passed-is None e f = ap (λ (n : ℕ). ltb n 29) e
passed-is (Some c) e f = let l = f c refl in sym (lt-ltb c 29 (omega arith)) ∙ ap (λ (n : ℕ). ltb n 29) e
