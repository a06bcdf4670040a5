-- A call changes no part of the bench but those that `effect` names, and nothing where it is refused. One law for each way in which a
-- call can change the bench, then a line for each call; so a row of calls that change no witness keeps it.
-- Assumes nothing.
use Prim.Native.Nat.{ℕ}
use mathlib.Core.Bool.{Bool, false, not, true, true≢false}
use mathlib.Core.List.{List, [], ◌∷◌}
use mathlib.Core.Option.{Option, none, some}
use mathlib.Core.Path.{◌∙◌, ◌≡◌, ap, refl, subst, sym}
use lib.Dec.{eqb}
use Rattle.files.specs.Convert.{converted}
use Rattle.files.specs.Diagram.{Diagram}
use Rattle.files.specs.Record.{Record, object_count}
use Rattle.files.specs.Refusal.{Answer, accepted, refused}
use Rattle.steps.specs.Bench.{Bench, Call, Clear, Compare, Compile, Convert, Evaluate, HandOut, Judge, Load, LoadText, Outcome, Reply, is_refusal, settle, with_witness}
use Rattle.steps.specs.Effect.{Effect, at_place, at_witness, bytes_of, changes, effect, lent, new_place, old_place, witness}
use Rattle.steps.specs.Row.{Event, KeepsWitness, Row}
use Rattle.steps.specs.Step.{Choosing, Step, asking, clear, compared, compiled, differs, evaluated, handed_out, judged, load, load_text, saying, settling, writing}

pub record Leaves (b : Bench) (c : Call) (o : Outcome) : Type 0 where
  pub bench : is_refusal o.reply ≡ true → o.bench ≡ b
  pub buffer : is_refusal o.reply ≡ true → o.buffer ≡ lent c
  pub old : changes c o.reply old_place ≡ false → o.bench.old ≡ b.old
  pub new : changes c o.reply new_place ≡ false → o.bench.new ≡ b.new
  pub witness : changes c o.reply witness ≡ false → o.bench.witness ≡ b.witness

module _ (b : Bench) (c : Call) where
  -- the bench is left as it came
  kept : (o : Outcome) → o.bench ≡ b → (is_refusal o.reply ≡ true → o.buffer ≡ lent c) → Leaves b c o
  kept o e f = record {
    bench = λ h. e;
    buffer = f;
    old = λ h. ap (λ (x : Bench). x.old) e;
    new = λ h. ap (λ (x : Bench). x.new) e;
    witness = λ h. ap (λ (x : Bench). x.witness) e;
  }

  pub asking-leaves : (a : Answer Reply) → (effect c).lends ≡ none → Leaves b c (asking b a)
  unfolding asking lent
  asking-leaves (refused n) e = kept _ refl (λ h. sym (ap bytes_of e))
  asking-leaves (accepted reply) e = kept _ refl (λ h. sym (ap bytes_of e))

  settled : (p : ℕ) (x : Option Diagram) (t : Bool) → eqb p 0 ≡ t → effect c ≡ record { on = at_place p; lends = none } → Leaves b c (settling b p (accepted x))
  unfolding settling settle changes is_refusal
  settled p x true e q = record {
    bench = λ h. absurd (true≢false (sym h));
    buffer = λ h. absurd (true≢false (sym h));
    old = λ h. absurd (true≢false (sym (ap (λ (f : Effect). f.on old_place) q ∙ e) ∙ h));
    new = λ h. rw (e);
    witness = λ h. absurd (true≢false (sym (ap (λ (f : Effect). f.on witness) q) ∙ h));
  }
  settled p x false e q = record {
    bench = λ h. absurd (true≢false (sym h));
    buffer = λ h. absurd (true≢false (sym h));
    old = λ h. rw (e);
    new = λ h. absurd (true≢false (sym (ap (λ (f : Effect). f.on new_place) q ∙ ap not e) ∙ h));
    witness = λ h. absurd (true≢false (sym (ap (λ (f : Effect). f.on witness) q) ∙ h));
  }

  pub settling-leaves : (p : ℕ) (a : Answer (Option Diagram)) → effect c ≡ record { on = at_place p; lends = none } → Leaves b c (settling b p a)
  unfolding settling lent
  settling-leaves p (refused n) q = kept _ refl (λ h. sym (ap (λ (f : Effect). bytes_of f.lends) q))
  settling-leaves p (accepted x) q = settled p x (eqb p 0) refl q

  pub writing-leaves : (buffer : List ℕ) (a : Answer (List ℕ)) → (effect c).lends ≡ some buffer → Leaves b c (writing b buffer a)
  unfolding writing is_refusal lent
  writing-leaves buffer (refused n) e = kept _ refl (λ h. sym (ap bytes_of e))
  writing-leaves buffer (accepted file) e = kept _ refl (λ h. absurd (true≢false (sym h)))

  pub choosing-leaves : {A : Type 0} (a : Answer A) (S : A → List ℕ → Record → Type 0) (bound : ℕ) (says : Option Record → Reply) (o : Outcome)
      → effect c ≡ record { on = at_witness; lends = none } → ((w : Option Record) → is_refusal (says w) ≡ false) → Choosing b a S bound says o → Leaves b c o
  unfolding changes with_witness lent
  choosing-leaves (refused n) S bound says o q r s = subst (Leaves b c) (sym s) (kept _ refl (λ h. sym (ap (λ (f : Effect). bytes_of f.lends) q)))
  choosing-leaves (accepted x) S bound says o q r s =
      let w = s.0 in
      let kind : is_refusal (says w) ≡ false = r w in
      subst (Leaves b c) (sym s.2) (record {
        bench = λ h. absurd (true≢false (sym h ∙ kind));
        buffer = λ h. absurd (true≢false (sym h ∙ kind));
        old = λ h. refl;
        new = λ h. refl;
        witness = λ h. absurd (true≢false (sym (rw (kind, q) refl) ∙ h));
      })

-- ---- the calls

accepts : (empty : Reply) (tell : ℕ → Reply) → is_refusal empty ≡ false → ((n : ℕ) → is_refusal (tell n) ≡ false) → (w : Option Record) → is_refusal (saying empty tell w) ≡ false
unfolding saying
accepts empty tell e f none = e
accepts empty tell e f (some w) = f (object_count w)

pub leaves : (b : Bench) (c : Call) (o : Outcome) → Step b c o → Leaves b c o
unfolding effect is_refusal
leaves b (Load p file) o s = subst (Leaves b (Load p file)) (sym s) (settling-leaves b _ p (load p file) refl)
leaves b (Clear p) o s = subst (Leaves b (Clear p)) (sym s) (settling-leaves b _ p (clear p) refl)
leaves b (Judge p file) o s = subst (Leaves b (Judge p file)) (sym s) (asking-leaves b _ (judged b p file) refl)
leaves b (Compile p) o s = subst (Leaves b (Compile p)) (sym s) (asking-leaves b _ (compiled b p) refl)
leaves b (Evaluate p file) o s = subst (Leaves b (Evaluate p file)) (sym s) (asking-leaves b _ (evaluated b p file) refl)
leaves b (Compare bound) o s = choosing-leaves b _ (compared b bound) _ bound differs o refl (accepts _ _ refl (λ n. refl)) s
leaves b (HandOut buffer) o s = subst (Leaves b (HandOut buffer)) (sym s) (writing-leaves b _ buffer (handed_out b.witness buffer) refl)
leaves b (LoadText p text) o s = subst (Leaves b (LoadText p text)) (sym s) (settling-leaves b _ p (load_text p text) refl)
leaves b (Convert file buffer) o s = subst (Leaves b (Convert file buffer)) (sym s) (writing-leaves b _ buffer (converted file buffer) refl)

pub row_keeps : (b : Bench) (es : List Event) (c : Bench) → Row b es c → KeepsWitness es → c.witness ≡ b.witness
row_keeps b [] c r k = ap (λ (x : Bench). x.witness) (sym r)
row_keeps b (e ∷ es) c r k = row_keeps e.outcome.bench es c r.1 k.1 ∙ (leaves b e.call e.outcome r.0).witness k.0
