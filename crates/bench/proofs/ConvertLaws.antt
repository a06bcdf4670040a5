-- Each way out of a conversion: the refusal, and what was put. The bench stays as it came.
-- Assumes nothing.
use Prim.Native.Nat.{ℕ}
use mathlib.Core.List.{List}
use mathlib.Core.Path.{◌≡◌}
use lib.ListN.{length}
use Rattle.std.specs.Prelude.{Result, Ok, Err, IsErrAnd}
use Rattle.laws.specs.Lists.{over}
use Rattle.files.specs.Convert.{converted}
use Rattle.files.specs.Refusal.{accepted}
use Rattle.fields.specs.Refusal.{number_of}
use Rattle.fields.specs.declared.Refusal.{Refusal}
use Rattle.steps.specs.Bench.{Convert}
use Rattle.steps.specs.Step.{writing}
use Rattle.converting.specs.Conversion.{Conversion}
use Rattle.converting.proofs.ConversionLaws.{conversion-done, conversion-refused}
use Rattle.bench.specs.Calls.{Does}
use Rattle.bench.specs.View.{asked_in}
use Rattle.bench.specs.declared.parts.Bench.{Bench}
use Rattle.bench.specs.declared.Reply.{Reply}
use Rattle.bench.specs.declared.Reply.TheVariants.{Refused, Written}
use Rattle.bench.proofs.CallLaws.{kept}

module _ (b : Bench) (file before after : List ℕ) where
  refused : (y : Refusal) → Conversion file before (Err y) after → Does b (Convert file before) (record { bench = b; reply = Refused (number_of y) }) after
  unfolding writing
  refused y c = let d = conversion-refused c in kept b (Convert file before) (Refused (number_of y)) after (rw (d.0, d.1))

  -- what a `?` passes on
  pub convert-refused : (r : Result Reply Refusal) {y : Refusal} → IsErrAnd r (λ z. z ≡ y) → Conversion file before (Err y) after
      → Does b (Convert file before) (asked_in b r) after
  convert-refused (Ok x) h c = absurd h
  convert-refused (Err z) h c = refused z (rw (h) c)

  written : (n : ℕ) (g : List ℕ) → converted file before ≡ accepted g → n ≡ length g → after ≡ over g before
      → Does b (Convert file before) (record { bench = b; reply = Written n }) after
  unfolding writing
  written n g e l a = kept b (Convert file before) (Written n) after (rw (e, l, a))

  pub convert-done : {n : ℕ} → Conversion file before (Ok n) after → Does b (Convert file before) (record { bench = b; reply = Written n }) after
  convert-done {n} c = let d = conversion-done c in written n d.0 d.1 d.2 d.3
