-- The number of each refusal, and what a reader's result says as an answer.
-- Assumes nothing.
use Rattle.std.specs.Prelude.{ℕ, Result, Ok, Err}
use Rattle.files.specs.Refusal.{Answer, accepted, refused}
use Rattle.fields.specs.declared.Refusal.{Refusal}
use Rattle.fields.specs.declared.Refusal.TheVariants.{Cut, Misplaced, Layout, Count, Order, Unknown, Parent, Whole, Bound, Place, Buffer, Empty, NoWitness, Grammar, Undeclared, Limit}

abbrev pub number_of : Refusal → ℕ
number_of Cut = 1
number_of Misplaced = 2
number_of Layout = 3
number_of Count = 4
number_of Order = 5
number_of Unknown = 6
number_of Parent = 7
number_of Whole = 8
number_of Bound = 9
number_of Place = 10
number_of Buffer = 20
number_of Empty = 21
number_of NoWitness = 22
number_of Grammar = 23
number_of Undeclared = 24
number_of Limit = 25

-- 0 where it is accepted
abbrev pub refusal_number : {T : Type 0} → Result T Refusal → ℕ
refusal_number (Ok x) = 0
refusal_number (Err r) = number_of r

-- the answer, where what is read stands for what `f` gives
abbrev pub answer_of : {T A : Type 0} → (T → A) → Result T Refusal → Answer A
answer_of f (Ok x) = accepted (f x)
answer_of f (Err r) = refused (number_of r)
