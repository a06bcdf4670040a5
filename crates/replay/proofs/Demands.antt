-- The demands of the replies in bytes: of each call, the bytes tell its replies apart, so they say what the steps say.
-- Assumes nothing.
use Prim.Native.Nat.{◌<◌, ◌≤◌, ℕ}
use native.Mathlib.Omega.{arith}
use mathlib.Core.Bool.{false, true≢false}
use mathlib.Core.List.{List, [], ◌++◌, ◌∷◌, append_assoc}
use mathlib.Core.Logic.{◌↔◌, ⊎_elim}
use mathlib.Core.Option.{Option, none, some}
use mathlib.Core.Path.{◌∙◌, ◌≡◌, ap, ap₂, refl, subst, sym}
use lib.ListN.{drop, length, take}
use Rattle.laws.specs.Lists.{over}
use Rattle.laws.proofs.OverLaws.{drop-over, take-over}
use Rattle.files.specs.Diagram.{Diagram, no_diagram}
use Rattle.files.specs.DiagramFile.{edition_in, read_diagram}
use Rattle.files.specs.Field.{rows}
use Rattle.files.specs.Record.{Record}
use Rattle.files.specs.RecordFile.{read_record}
use Rattle.files.specs.Refusal.{Answer, accepted, refused}
use Rattle.files.proofs.AnswerLaws.{by_answer}
use Rattle.files.proofs.RefusalLaws.{Within, diagram-refusals}
use Rattle.texts.specs.ReadText.{read_text}
use Rattle.texts.proofs.ReadTextLaws.{text-refused}
use Rattle.smallest_records.specs.Difference.{Gap}
use Rattle.smallest_records.specs.Smallest.{Chooses}
use Rattle.steps.specs.Bench.{Bench, Compare, Convert, fresh, Evaluate, HandOut, Judge, Outcome, Reply, difference, done, first_false, gives, is_refusal, no_difference, place_of, refusal, rule, with_witness, written}
use Rattle.steps.specs.Demands.{ConvertedTo}
use Rattle.steps.specs.Effect.{effect, lent}
use Rattle.steps.specs.HandedOut.{HandedOut}
use Rattle.steps.specs.Row.{Event, Row}
use Rattle.steps.specs.Step.{Choosing, Step, differs, handed_out, placed, saying, settling, writing}
use Rattle.steps.proofs.ConverterLaws as converter_laws
use Rattle.steps.proofs.Demands as steps
use Rattle.steps.proofs.RowLaws.{row_at}
use Rattle.steps.proofs.StepLaws.{compared-within, evaluate-accepted, judge-accepted, judge-refused, placed-accepted, placed-refused, replied}
use Rattle.coding.specs.ReplyBytes.{bytes_by, four, head_bytes, outcome_bytes, parts_of, reply_bytes}
use Rattle.replay.specs.Demands.{BytesConverter, BytesDemandThree, BytesDemandTwo, BytesSameHeads, EachReplied, GivenBytes, HandedBytes, ReplayRuns, refused_bytes}
use Rattle.replay.specs.Replays.{CodesRow, row_bytes}
use Rattle.replay.proofs.RowLaws.{replays-row}

-- ---- the list of calls

pub replay-runs : ReplayRuns
replay-runs calls room n after r =
    let taken : take n after ≡ r.replies = ap (take n) r.bytes ∙ ap (λ (i : ℕ). take i (over r.replies room)) r.count ∙ take-over r.replies room in
    record {
      codes-row = subst (CodesRow fresh calls room) (sym taken) (replays-row fresh calls room r.replies r.from-fresh);
      untouched = ap (drop n) r.bytes ∙ subst (λ (i : ℕ). drop i (over r.replies room) ≡ drop i room) (sym r.count) (drop-over r.replies room);
    }

row-bytes : (xs ys : List Event) → row_bytes (xs ++ ys) ≡ row_bytes xs ++ row_bytes ys
unfolding row_bytes
row-bytes [] ys = refl
row-bytes (x ∷ xs) ys =
    ap (λ (s : List ℕ). outcome_bytes x.call x.outcome ++ s) (row-bytes xs ys) ∙ sym (append_assoc (outcome_bytes x.call x.outcome) (row_bytes xs) (row_bytes ys))

pub each-replied : EachReplied
unfolding row_bytes
each-replied calls room replies x before e behind is = record {
  last = x.last;
  row = row_at fresh before e behind x.last (subst (λ (es : List Event). Row fresh es x.last) is x.row);
  bytes = x.coded ∙ ap row_bytes is ∙ row-bytes before (e ∷ behind) ∙ sym (append_assoc (row_bytes before) (outcome_bytes e.call e.outcome) (row_bytes behind));
}

-- ---- bytes of replies

said : (o : Outcome) {r : Reply} → o.reply ≡ r → bytes_by none o ≡ reply_bytes r
unfolding bytes_by
said o e = ap reply_bytes e

-- a list of one is none of two
short : (k m n : ℕ) → k ∷ [] ≡ m ∷ n ∷ [] → ⊥
short k m n e = let z : ◌≡◌ {A = ℕ} 1 2 = ap length e in absurd (omega (arith, z))

refused-some : (file : List ℕ) (n : ℕ) → read_diagram file ≡ refused n → 1 ≤ n
unfolding read_diagram
refused-some file n e = (subst (Within 8) e (diagram-refusals (edition_in file) 0 no_diagram (rows file))).0

text-some : (text : List ℕ) (n : ℕ) → read_text text ≡ refused n → 1 ≤ n
text-some text n e = ⊎_elim (λ x. omega (arith, x.0)) (λ x. omega (arith, x.3)) (text-refused text n e)

-- ---- demand 2

module _ (b : Bench) (p : ℕ) (h : p ≤ 1) where
  -- load, by what reading the file or the text gives
  placed-bytes : (a : Answer Diagram) → ((n : ℕ) → a ≡ refused n → 1 ≤ n) → (o : Outcome) → o ≡ settling b p (placed p a)
      → (bytes_by none o ≡ 0 ∷ []) ↔ (o.reply ≡ done)
  unfolding reply_bytes parts_of
  placed-bytes a positive o s = (
    λ q. by_answer a
        (λ n e. let k : n ∷ [] ≡ 0 ∷ [] = sym (said o (replied (s ∙ placed-refused b p h a n e))) ∙ q in let z : n ≡ 0 = cc in absurd (omega (arith, z, positive n e)))
        (λ d e. replied (s ∙ placed-accepted b p h a d e)),
    said o,
  )

  refused-bytes : (a : Answer Diagram) (o : Outcome) → o ≡ settling b p (placed p a) → (n : ℕ) → 0 < n → (bytes_by none o ≡ n ∷ []) ↔ (o.reply ≡ refusal n)
  unfolding reply_bytes parts_of
  refused-bytes a o s n l = (
    λ q. by_answer a
        (λ m e. let r = replied (s ∙ placed-refused b p h a m e) in let k : m ∷ [] ≡ n ∷ [] = sym (said o r) ∙ q in r ∙ cc)
        (λ d e. let k : 0 ∷ [] ≡ n ∷ [] = sym (said o (replied (s ∙ placed-accepted b p h a d e))) ∙ q in let z : 0 ≡ n = cc in absurd (omega (arith, z, l))),
    said o,
  )

  module _ (d : Diagram) (is : place_of p b ≡ some d) (file : List ℕ) where
    judge-bytes : (o : Outcome) → Step b (Judge p file) o → (n : ℕ) → (outcome_bytes (Judge p file) o ≡ 0 ∷ n ∷ []) ↔ (o.reply ≡ rule n)
    unfolding outcome_bytes effect reply_bytes parts_of
    judge-bytes o s n = (
      λ q. by_answer (read_record file)
          (λ k e. let z : k ∷ [] ≡ 0 ∷ n ∷ [] = sym (said o (replied (s ∙ judge-refused b p h d is file k e))) ∙ q in absurd (short k 0 n z))
          (λ x e. let r = replied (s ∙ judge-accepted b p h d is file x e) in let z = sym (said o r) ∙ q in r ∙ cc),
      said o,
    )

    evaluate-bytes : (o : Outcome) → Step b (Evaluate p file) o → (x : Record) → read_record file ≡ accepted x → (n : ℕ)
        → (outcome_bytes (Evaluate p file) o ≡ 0 ∷ n ∷ []) ↔ (o.reply ≡ first_false n)
    unfolding outcome_bytes effect reply_bytes parts_of
    evaluate-bytes o s x e n =
        let r = replied (s ∙ evaluate-accepted b p h d is file x e) in
        ((λ q. let z = sym (said o r) ∙ q in r ∙ cc), said o)

iff-trans : {A B C : Type 0} → A ↔ B → B ↔ C → A ↔ C
iff-trans f g = ((λ a. g.0 (f.0 a)), (λ c. f.1 (g.1 c)))

pub demand-two : BytesDemandTwo
unfolding outcome_bytes effect reply_bytes parts_of
demand-two b r p h =
    let exact = steps.demand-two b r p h in
    record {
      accepts = λ file o s. iff-trans (placed-bytes b p h (read_diagram file) (refused-some file) o s) (exact.accepts file o s);
      accepts-text = λ text o s. iff-trans (placed-bytes b p h (read_text text) (text-some text) o s) (exact.accepts-text text o s);
      refuses-text = λ text o s n l. iff-trans (refused-bytes b p h (read_text text) o s n l) (exact.refuses-text text o s n);
      judges = λ d is file o s n. iff-trans (judge-bytes b p h d is file o s n) (exact.judges d is file o s n);
      compiles = λ d is o s. said o (exact.compiles d is o s);
      evaluates = λ d is file o s x e. iff-trans (evaluate-bytes b p h d is file o s x e _) (exact.evaluates d is file o s x e);
    }

-- ---- demand 3

-- of compare, where both places are full and the bound is at most 8
module _ (b : Bench) (old new : Diagram) (eo : b.old ≡ some old) (en : b.new ≡ some new) (bound : ℕ) (h : bound ≤ 8) (o : Outcome) (s : Step b (Compare bound) o) where
  abbrev bytes : List ℕ
  bytes = outcome_bytes (Compare bound) o

  found : (w : Option Record) × Chooses (Gap old new) bound w × (o ≡ gives (differs w) (with_witness w b))
  found = subst (λ (a : Answer (Diagram × Diagram)). Choosing b a (λ d. Gap d.0 d.1) bound differs o) (compared-within b bound old new h eo en) s

  none-bytes : (bytes ≡ 0 ∷ 0 ∷ []) ↔ (o.reply ≡ no_difference)
  unfolding outcome_bytes effect reply_bytes parts_of saying
  none-bytes = ((λ q. by found.0 found.2 q), said o)
    where
      by : (w : Option Record) → o ≡ gives (differs w) (with_witness w b) → bytes ≡ 0 ∷ 0 ∷ [] → o.reply ≡ no_difference
      by none e q = replied e
      by (some w) e q = let z = sym (said o (replied e)) ∙ q in let y : ◌≡◌ {A = ℕ} 1 0 = cc in absurd (omega (arith, y))

  some_bytes : (n : ℕ) → (bytes ≡ 0 ∷ 1 ∷ n ∷ []) ↔ (o.reply ≡ difference n)
  unfolding outcome_bytes effect reply_bytes parts_of saying
  some_bytes n = ((λ q. by found.0 found.2 q), said o)
    where
      by : (w : Option Record) → o ≡ gives (differs w) (with_witness w b) → bytes ≡ 0 ∷ 1 ∷ n ∷ [] → o.reply ≡ difference n
      by none e q = let z = sym (said o (replied e)) ∙ q in let y : ◌≡◌ {A = ℕ} 0 1 = cc in absurd (omega (arith, y))
      by (some w) e q = let z = sym (said o (replied e)) ∙ q in replied e ∙ cc

-- a hand out that is not refused says a length
wrote : (c : Bench) (buffer : List ℕ) (a : Answer (List ℕ)) → is_refusal (writing c buffer a).reply ≡ false → (m : ℕ) × ((writing c buffer a).reply ≡ written m)
unfolding writing is_refusal
wrote c buffer (refused n) h = absurd (true≢false h)
wrote c buffer (accepted file) h = (length file, refl)

handed-bytes : (S : List ℕ → Record → Type 0) (n : ℕ) (c : Bench) (buffer : List ℕ) (p : Outcome) → Step c (HandOut buffer) p → 60000 ≤ length buffer
    → HandedOut S n buffer p → HandedBytes S n buffer (outcome_bytes (HandOut buffer) p)
unfolding outcome_bytes bytes_by effect head_bytes parts_of four
handed-bytes S n c buffer p s l h =
    let a = handed_out c.witness buffer in
    let k = wrote c buffer a (subst (λ (q : Outcome). is_refusal q.reply ≡ false) s (h.enough l)) in
    let e : p.reply ≡ written k.0 = replied s ∙ k.1 in
    let is : outcome_bytes (HandOut buffer) p ≡ head_bytes (written k.0) ++ p.buffer = ap (λ (r : Reply). head_bytes r ++ p.buffer) e in
    subst (HandedBytes S n buffer) (sym is) (record { m = k.0; head = refl; given = h.given k.0 e; untouched = (h.untouched k.0 e).0; size = let q = (h.untouched k.0 e).1 in omega arith })

pub demand-three : BytesDemandThree
demand-three b old new eo en bound h o s =
    let all = steps.demand-three b old new eo en bound h o s in
    let none-iff = none-bytes b old new eo en bound h o s in
    let some-iff = some_bytes b old new eo en bound h o s in
    record {
      no-difference = iff-trans none-iff all.no-difference;
      otherwise = λ i. let k = all.otherwise (λ q. i (none-iff.1 q)) in (k.0, (some-iff k.0).1 k.1);
      least = λ n i. all.least n ((some-iff n).0 i);
      handed-out = λ n i es c row k buffer l p t. handed-bytes (Gap old new) n c buffer p t l (all.handed-out n ((some-iff n).0 i) es c row k buffer p t);
    }

-- ---- the converter

module _ (b : Bench) (file buffer : List ℕ) (o : Outcome) (s : Step b (Convert file buffer) o) where
  -- refused, the buffer is as it came
  refused-lent : (n : ℕ) → o.reply ≡ refusal n → outcome_bytes (Convert file buffer) o ≡ refused_bytes n buffer
  unfolding outcome_bytes bytes_by effect head_bytes parts_of is_refusal lent
  refused-lent n e =
      let left : o.buffer ≡ buffer = (steps.demand-one b (Convert file buffer) o s).buffer (ap is_refusal e) in
      ap₂ (λ (r : Reply) (xs : List ℕ). head_bytes r ++ xs) e left

  given-bytes : (m : ℕ) → o.reply ≡ written m → ConvertedTo file buffer m o → GivenBytes file buffer (outcome_bytes (Convert file buffer) o)
  unfolding outcome_bytes bytes_by effect head_bytes parts_of four
  given-bytes m e c =
      let is : outcome_bytes (Convert file buffer) o ≡ head_bytes (written m) ++ o.buffer = ap (λ (r : Reply). head_bytes r ++ o.buffer) e in
      subst (GivenBytes file buffer) (sym is) (record {
        m = m;
        head = refl;
        read-back = c.read-back;
        edition = c.edition;
        long = c.long;
        untouched = c.behind;
        size = let q = c.size in omega arith;
        again = λ d second p l t.
            let q = c.again d second p l t in
            (ap (λ (r : Reply). take 5 (head_bytes r ++ p.buffer)) q.0, q.1);
      })

pub converter : BytesConverter
converter b file buffer o s =
    let all = converter_laws.converter b file buffer o s in
    record {
      own = λ n e. refused-lent b file buffer o s n (all.own n e);
      too-wide = λ w. refused-lent b file buffer o s 25 (all.too-wide.1 w);
      short = λ w l. refused-lent b file buffer o s 20 (all.buffer-short.1 (w, l));
      gives = λ w l. let g = all.gives.1 (w, l) in given-bytes b file buffer o s g.0 g.1 (all.result g.0 g.1);
    }

pub same-heads : BytesSameHeads
same-heads b old new eo en h bound l o s = (none-bytes b old new eo en bound l o s).1 (steps.same-heads b old new eo en h bound l o s)
