-- The refusal where there is no such place; the diagram in a place, or the refusal of a call that needs one.
-- Assumes nothing.
use Prim.Native.Nat.{◌≤◌, ℕ}
use mathlib.Core.Path.{◌≡◌, refl}
use borrow.Author.Tests.{le-ltb, lt-ltb}
use Rattle.std.specs.Prelude.{Option, None, Some, Result, Err, ok_or}
use Rattle.files.specs.Refusal.{Answer, refused}
use Rattle.fields.specs.Refusal.{answer_of, number_of}
use Rattle.fields.specs.declared.Refusal.{Refusal}
use Rattle.fields.specs.declared.Refusal.TheVariants.{Empty}
use Rattle.diagrams.specs.declared.ReadDiagram.{ReadDiagram}
use Rattle.steps.specs.Step.{diagram_at, in_place, needed}
use Rattle.bench.specs.Calls.{Placed}
use Rattle.bench.specs.Parts.{diagram_by}
use Rattle.bench.specs.View.{bench_of, place_in}
use Rattle.bench.specs.declared.parts.Bench.{Bench}
use Rattle.bench.proofs.PartLaws.{place_is}

pub no-place : (p : ℕ) (y : Refusal) {A : Type 0} (a : Answer A) → Placed p (Err y) → refused (number_of y) ≡ in_place p a
unfolding in_place
no-place p y a h = rw (h.1, lt-ltb 1 p h.0)

pub place-refused : (b : Bench) (p : ℕ) (y : Refusal) → Placed p (Err y) → refused (number_of y) ≡ diagram_at (bench_of b) p
unfolding diagram_at
place-refused b p y h = no-place p y _ h

-- x stands in the place
found : (b : Bench) (p : ℕ) (x : Option ReadDiagram) → p ≤ 1 → place_in b p ≡ x → answer_of diagram_by (ok_or x Empty) ≡ diagram_at (bench_of b) p
unfolding diagram_at in_place needed
found b p (Some d) h e = rw (le-ltb 1 p h, place_is b p, e)
found b p None h e = rw (le-ltb 1 p h, place_is b p, e)

pub found-in : (b : Bench) (p : ℕ) {x : Option ReadDiagram} {r : Result ReadDiagram Refusal} → p ≤ 1 → x ≡ place_in b p → r ≡ ok_or x Empty
    → answer_of diagram_by r ≡ diagram_at (bench_of b) p
found-in b p h e q = rw (q, e) (found b p (place_in b p) h refl)
