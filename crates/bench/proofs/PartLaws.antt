-- The bench in memory and what it stands for, part by part; and for each of the two ways to change it two laws: what the changed
-- bench stands for, and what stays.
-- Assumes nothing.
use Prim.Native.Nat.{ℕ}
use mathlib.Core.Bool.{Bool, cond, false, false≢true, not, true, true≢false}
use mathlib.Core.Option.{none}
use Rattle.std.specs.Prelude.{Option, None, Some, IfSome}
use mathlib.Core.Path.{◌∙◌, ◌≡◌, ap, refl, sym}
use lib.Dec.{eqb}
use Rattle.diagrams.specs.declared.ReadDiagram.{ReadDiagram}
use Rattle.steps.specs.Bench as abstract
use Rattle.steps.specs.Bench.{Call, done, is_refusal, place_of, settle, with_witness}
use Rattle.steps.specs.Effect.{Effect, at_place, at_witness, changes, effect, new_place, old_place, witness}
use Rattle.bench.specs.Calls.{Stays, Valid, ValidPlace}
use Rattle.bench.specs.Parts.{ValidWitness, diagram_in, no_witness, pick, witness_in}
use Rattle.bench.specs.View.{bench_of, place_in, settled_in, with_witness_in}
use Rattle.bench.specs.declared.parts.Bench.{Bench}
use Rattle.bench.specs.declared.parts.Witness.{Witness}

-- ---- a place

pub place_is : (b : Bench) (p : ℕ) → place_of p (bench_of b) ≡ diagram_in (place_in b p)
unfolding place_of bench_of pick
place_is b p = by (eqb p 0)
  where
    by : (t : Bool) → cond t (diagram_in b.old) (diagram_in b.new) ≡ diagram_in (cond t b.old b.new)
    by true = refl
    by false = refl

-- ---- every bench is a valid one

-- a diagram in a place is one that was read
valid_place : (x : Option ReadDiagram) → ValidPlace x
valid_place (Some d) = d.held
valid_place None = tt

pub valid : (b : Bench) → Valid b
valid b = record { old = valid_place b.old; new = valid_place b.new; witness = b.fits }

-- ---- what stays where nothing changes

pub stays_all : (b : Bench) (c : Call) (reply : abstract.Reply) → Stays b c reply b
stays_all b c reply = record { refused = λ h. refl; old = λ h. refl; new = λ h. refl; witness = λ h. refl }

-- ---- a place set, the witness dropped

module _ (b : Bench) (p : ℕ) (x : Option ReadDiagram) where
  abbrev by_place : Bool → Bench
  by_place t = cond t (record { old = x; new = b.new; witness = no_witness; fits = tt }) (record { old = b.old; new = x; witness = no_witness; fits = tt })

  pub settled_is : bench_of (settled_in b p x) ≡ settle p (diagram_in x) (bench_of b)
  unfolding bench_of settled_in settle
  settled_is = by (eqb p 0)
    where
      by : (t : Bool) → bench_of (by_place t)
          ≡ cond t (record { old = diagram_in x; new = diagram_in b.new; witness = none }) (record { old = diagram_in b.old; new = diagram_in x; witness = none })
      by true = refl
      by false = refl

  -- of a call that sets this place
  pub settled-stays : (c : Call) → effect c ≡ record { on = at_place p; lends = none } → Stays b c done (settled_in b p x)
  unfolding changes is_refusal settled_in
  settled-stays c q = by (eqb p 0) refl
    where
      changed : {A : Type 0} {t : Bool} → t ≡ true → t ≡ false → A
      changed e h = absurd (true≢false (sym e ∙ h))

      by : (t : Bool) → eqb p 0 ≡ t → Stays b c done (by_place t)
      by true e = record {
        refused = λ h. absurd (false≢true h);
        old = changed (ap (λ (f : Effect). f.on old_place) q ∙ e);
        new = λ h. refl;
        witness = changed (ap (λ (f : Effect). f.on witness) q);
      }
      by false e = record {
        refused = λ h. absurd (false≢true h);
        old = λ h. refl;
        new = changed (ap (λ (f : Effect). f.on new_place) q ∙ ap not e);
        witness = changed (ap (λ (f : Effect). f.on witness) q);
      }

-- ---- the witness stored or dropped

module _ (b : Bench) (w : Option Witness) (k : IfSome w (ValidWitness b.old b.new)) where
  pub witness-is : bench_of (with_witness_in b w k) ≡ with_witness (witness_in b.old b.new w) (bench_of b)
  unfolding bench_of with_witness
  witness-is = refl

  -- of a call that changes the witness alone
  pub witness-stays : (c : Call) (reply : abstract.Reply) → effect c ≡ record { on = at_witness; lends = none } → is_refusal reply ≡ false → Stays b c reply (with_witness_in b w k)
  unfolding changes
  witness-stays c reply q r = record {
    refused = λ h. absurd (true≢false (sym h ∙ r));
    old = λ h. refl;
    new = λ h. refl;
    witness = λ h. absurd (true≢false (sym (rw (r, q) refl) ∙ h));
  }
