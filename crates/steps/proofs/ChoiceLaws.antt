-- A call that chooses a record: its reply is settled, since all with fewest objects have equally many; and behind a reply that says so
-- many objects stands a smallest record, with so many.
-- Assumes nothing.
use Prim.Native.Nat.{ℕ}
use native.Mathlib.Omega.{arith}
use mathlib.Core.List.{List}
use mathlib.Core.Option.{Option, map, none, some}
use mathlib.Core.Path.{◌∙◌, ◌≡◌, ap, refl, sym}
use Rattle.files.specs.Record.{Record, object_count}
use Rattle.files.specs.Refusal.{Answer, accepted, refused}
use Rattle.smallest_records.specs.Smallest.{Chooses, Fewest}
use Rattle.smallest_records.proofs.SmallestLaws.{one-count}
use Rattle.steps.specs.Bench.{Bench, Clear, Compare, Compile, Convert, Evaluate, HandOut, Judge, Load, LoadText, Outcome, Reply, difference, gives, with_witness}
use Rattle.steps.specs.HandedOut.{OneReply}
use Rattle.steps.specs.Step.{Choosing, compared, differs, saying}

-- a reply that goes by the object count alone
abbrev pub ByCount : (Option Record → Reply) → Type 0
ByCount says = (x y : Option Record) → map object_count x ≡ map object_count y → says x ≡ says y

pub choosing-one : {A : Type 0} (b : Bench) (a : Answer A) (S : A → List ℕ → Record → Type 0) (bound : ℕ) (says : Option Record → Reply) → ByCount says
    → (o p : Outcome) → Choosing b a S bound says o → Choosing b a S bound says p → o.reply ≡ p.reply
choosing-one b (refused n) S bound says k o p s t = ap (λ (q : Outcome). q.reply) (s ∙ sym t)
choosing-one b (accepted x) S bound says k o p s t =
    ap (λ (q : Outcome). q.reply) s.2 ∙ k s.0 t.0 (one-count (S x) bound s.0 t.0 s.1 t.1) ∙ ap (λ (q : Outcome). q.reply) (sym t.2)

by_count : (empty : Reply) (tell : ℕ → Reply) → ByCount (saying empty tell)
unfolding saying
by_count empty tell none none e = refl
by_count empty tell none (some w) e = cc
by_count empty tell (some v) none e = cc
by_count empty tell (some v) (some w) e = cc

-- the reply is settled, though the witness is free
pub one-reply : OneReply
one-reply b (Load p file) o q s t = ap (λ (x : Outcome). x.reply) (s ∙ sym t)
one-reply b (Clear p) o q s t = ap (λ (x : Outcome). x.reply) (s ∙ sym t)
one-reply b (Judge p file) o q s t = ap (λ (x : Outcome). x.reply) (s ∙ sym t)
one-reply b (Compile p) o q s t = ap (λ (x : Outcome). x.reply) (s ∙ sym t)
one-reply b (Evaluate p file) o q s t = ap (λ (x : Outcome). x.reply) (s ∙ sym t)
one-reply b (Compare bound) o q s t = choosing-one b (compared b bound) _ bound differs (by_count _ _) o q s t
one-reply b (HandOut buffer) o q s t = ap (λ (x : Outcome). x.reply) (s ∙ sym t)
one-reply b (LoadText p text) o q s t = ap (λ (x : Outcome). x.reply) (s ∙ sym t)
one-reply b (Convert file buffer) o q s t = ap (λ (x : Outcome). x.reply) (s ∙ sym t)

-- ---- what stands behind a reply that says n objects

pub record Chosen (S : List ℕ → Record → Type 0) (bound n : ℕ) (b : Bench) : Type 0 where
  pub found : Record
  pub fewest : Fewest S bound found
  pub stored : b.witness ≡ some found
  pub count : object_count found ≡ n

module _ (S : List ℕ → Record → Type 0) (bound n : ℕ) (b : Bench) (says : Option Record → Reply) (reply : Reply)
    (not_None : says none ≡ reply → ⊥) (counted : (w : Record) → says (some w) ≡ reply → object_count w ≡ n) where
  pub chosen : (o : Outcome) (w : Option Record) → Chooses S bound w → o ≡ gives (says w) (with_witness w b) → o.reply ≡ reply → Chosen S bound n o.bench
  unfolding with_witness
  chosen o none f e h = absurd (not_None (sym (ap (λ (q : Outcome). q.reply) e) ∙ h))
  chosen o (some w) f e h = record {
    found = w;
    fewest = f;
    stored = ap (λ (q : Outcome). q.bench.witness) e;
    count = counted w (sym (ap (λ (q : Outcome). q.reply) e) ∙ h);
  }

pub none-differs : (n : ℕ) → differs none ≡ difference n → ⊥
unfolding saying
none-differs n e = let z : ◌≡◌ {A = ℕ} 0 1 = cc in absurd (omega (arith, z))

pub differs-count : (n : ℕ) (w : Record) → differs (some w) ≡ difference n → object_count w ≡ n
unfolding saying
differs-count n w e = cc
