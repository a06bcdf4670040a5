-- A reader's result that is a refusal.
-- Assumes nothing.
use Prim.Native.Nat.{◌<◌}
use native.Mathlib.Omega.{arith}
use mathlib.Core.Path.{◌≡◌, ap}
use Rattle.std.specs.Prelude.{Result, Ok, Err, IsErrAnd}
use Rattle.files.specs.Refusal.{refused}
use Rattle.fields.specs.Refusal.{answer_of, number_of, refusal_number}
use Rattle.fields.specs.declared.Refusal.{Refusal}
use Rattle.fields.specs.declared.Refusal.TheVariants.{Cut, Misplaced, Layout, Count, Order, Unknown, Parent, Whole, Bound, Place, Buffer, Empty, NoWitness, Grammar, Undeclared, Limit}

-- no refusal has the number 0, which stands for none
pub numbered : (r : Refusal) → 0 < number_of r
numbered Cut = omega arith
numbered Misplaced = omega arith
numbered Layout = omega arith
numbered Count = omega arith
numbered Order = omega arith
numbered Unknown = omega arith
numbered Parent = omega arith
numbered Whole = omega arith
numbered Bound = omega arith
numbered Place = omega arith
numbered Buffer = omega arith
numbered Empty = omega arith
numbered NoWitness = omega arith
numbered Grammar = omega arith
numbered Undeclared = omega arith
numbered Limit = omega arith

-- what a `?` passes on
pub passed-on : {T A : Type 0} (f : T → A) (r : Result T Refusal) (e : Refusal) → IsErrAnd r (λ y. y ≡ e) → answer_of f r ≡ refused (number_of e)
passed-on f (Ok x) e h = absurd h
passed-on f (Err y) e h = ap (λ (z : Refusal). refused (number_of z)) h

pub passed-number : {T : Type 0} (r : Result T Refusal) (e : Refusal) → IsErrAnd r (λ y. y ≡ e) → refusal_number r ≡ number_of e
passed-number (Ok x) e h = absurd h
passed-number (Err y) e h = ap number_of h
