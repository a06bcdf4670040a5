-- What converting a file into a lent buffer promises: before is what the buffer held, after what it holds.
-- Assumes nothing.
use Rattle.std.specs.Prelude.{ℕ, List, ◌≡◌, Result, length}
use Rattle.files.specs.Convert.{buffer_after, converted}
use Rattle.files.specs.Refusal.{accepted, and_then}
use Rattle.fields.specs.Refusal.{answer_of}
use Rattle.fields.specs.declared.Refusal.{Refusal}

pub record Conversion (file before : List ℕ) (r : Result ℕ Refusal) (after : List ℕ) : Type 0 where
  pub says : answer_of (λ n. n) r ≡ and_then (converted file before) (λ g. accepted (length g))  -- "The reply is the result's length"
  pub leaves : after ≡ buffer_after before (converted file before)
