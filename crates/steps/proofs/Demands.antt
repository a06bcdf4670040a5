-- The three demands, from the laws of steps. That "the lowest rule broken" is one number makes the judgement exact; that all
-- records with fewest objects have equally many settles compare's reply.
-- Assumes nothing.
use Prim.Native.Nat.{◌≤◌, ℕ}
use native.Mathlib.Omega.{arith}
use mathlib.Core.Bool.{true}
use mathlib.Core.List.{List}
use mathlib.Core.Logic.{◌↔◌}
use mathlib.Core.Option.{Option, none, some}
use mathlib.Core.Path.{◌∙◌, ◌≡◌, ap, subst, sym}
use lib.ListN.{length}
use Rattle.files.specs.Diagram.{Diagram}
use Rattle.files.specs.DiagramFile.{read_diagram}
use Rattle.files.specs.Record.{Record, object_count}
use Rattle.files.specs.RecordBytes.{write_record}
use Rattle.files.specs.RecordFile.{read_record}
use Rattle.files.specs.Refusal.{Answer, accepted, refused}
use Rattle.files.proofs.AnswerLaws.{by_answer}
use Rattle.texts.specs.Declaration.{declarations}
use Rattle.texts.specs.Declared.{declared}
use Rattle.texts.specs.Grammar.{Belongs, Tree}
use Rattle.texts.specs.ReadText.{read_text}
use Rattle.texts.specs.TextChecks.{text_refusal}
use Rattle.texts.proofs.ReadTextLaws.{accepted-text, refused-text, text-accepted, text-refused}
use Rattle.rules.specs.Compile.{compile}
use Rattle.rules.specs.Evaluate.{evaluate}
use Rattle.rules.specs.Judge.{judge}
use Rattle.rules.specs.LinkRules.{rule6, rule7, rule8}
use Rattle.rules.specs.Site.{site_of}
use Rattle.rules.specs.WholeRule.{rule9}
use Rattle.rules.proofs.DemandTwo.{evaluate-iff}
use Rattle.rules.proofs.HeadLaws.{heads-judge}
use Rattle.smallest_records.specs.Difference.{Gap}
use Rattle.smallest_records.specs.Smallest.{Chooses}
use Rattle.steps.specs.Bench.{Bench, Evaluate, Judge, LoadText, Outcome, difference, done, first_false, gives, no_difference, place_of, refusal, rule, with_witness}
use Rattle.steps.specs.Demands.{DemandOne, DemandThree, DemandTwo, LowestBroken, NoneOverlooked, SameHeads, TextRefused}
use Rattle.steps.specs.Row.{Reached}
use Rattle.steps.specs.Step.{Choosing, Step, differs, placed, saying, settling}
use Rattle.steps.proofs.ChoiceLaws.{differs-count, none-differs, one-reply}
use Rattle.steps.proofs.EffectLaws.{leaves}
use Rattle.steps.proofs.HandOutLaws.{hands_out}
use Rattle.steps.proofs.HeldLaws.{reached-wf}
use Rattle.steps.proofs.LowestLaws.{judge-lowest, one-lowest}
use Rattle.steps.proofs.StepLaws.{compared-within, compile-gives, evaluate-accepted, judge-accepted, judge-refused, place-settled, placed-accepted, placed-refused, replied}

-- ---- demand 1

pub demand-one : DemandOne
demand-one b c o s = record {
  settled = λ p t. one-reply b c o p s t;
  bench = (leaves b c o s).bench;
  buffer = (leaves b c o s).buffer;
}

-- ---- demand 2

module _ (b : Bench) (r : Reached b) (p : ℕ) (h : p ≤ 1) where
  -- load, by what reading the file or the text gives
  module _ (a : Answer Diagram) (o : Outcome) (s : o ≡ settling b p (placed p a)) where
    placed-exact : (o.reply ≡ done) ↔ ((d : Diagram) × (a ≡ accepted d))
    placed-exact = (
      λ q. by_answer a
          (λ n e. let k : refusal n ≡ done = sym (replied (s ∙ placed-refused b p h a n e)) ∙ q in let z : ◌≡◌ {A = ℕ} 0 1 = cc in absurd (omega (arith, z)))
          (λ d e. (d, e)),
      λ q. replied (s ∙ placed-accepted b p h a q.0 q.1),
    )

    placed-stores : (d : Diagram) → a ≡ accepted d → place_of p o.bench ≡ some d
    placed-stores d e = ap (λ (q : Outcome). place_of p q.bench) (s ∙ placed-accepted b p h a d e) ∙ place-settled p (some d) b

    placed-refuses : (n : ℕ) → (o.reply ≡ refusal n) ↔ (a ≡ refused n)
    placed-refuses n = (
      λ q. by_answer a
          (λ m e. let k : refusal m ≡ refusal n = sym (replied (s ∙ placed-refused b p h a m e)) ∙ q in e ∙ cc)
          (λ d e. let k : done ≡ refusal n = sym (replied (s ∙ placed-accepted b p h a d e)) ∙ q in let z : ◌≡◌ {A = ℕ} 0 1 = cc in absurd (omega (arith, z))),
      λ e. replied (s ∙ placed-refused b p h a n e),
    )

  -- a text, by what its reading says of its tree
  module _ (text : List ℕ) (o : Outcome) (s : Step b (LoadText p text) o) where
    text-exact : (o.reply ≡ done) ↔ ((t : Tree) × Belongs text t × (text_refusal t ≡ 0))
    text-exact =
        let exact = placed-exact (read_text text) o s in (
          λ q. let d = exact.0 q in let t = text-accepted text d.0 d.1 in (t.0, t.1, t.2),
          λ t. exact.1 (declared (declarations t.0), accepted-text text t.0 t.1 t.2),
        )

    text-refuses : (n : ℕ) → (o.reply ≡ refusal n) ↔ TextRefused text n
    text-refuses n =
        let exact = placed-refuses (read_text text) o s n in ((λ q. text-refused text n (exact.0 q)), (λ x. exact.1 (refused-text text n x)))

  module _ (d : Diagram) (is : place_of p b ≡ some d) where
    judge-exact : (file : List ℕ) (o : Outcome) → Step b (Judge p file) o → (n : ℕ)
        → (o.reply ≡ rule n) ↔ ((x : Record) × (read_record file ≡ accepted x) × LowestBroken d x n)
    judge-exact file o s n = (
      λ q. by_answer (read_record file)
          (λ k e. let y : refusal k ≡ rule n = sym (replied (s ∙ judge-refused b p h d is file k e)) ∙ q in let z : ◌≡◌ {A = ℕ} 0 1 = cc in absurd (omega (arith, z)))
          (λ x e. (x, e, subst (LowestBroken d x) (let y : rule (judge d x) ≡ rule n = sym (reply x e) ∙ q in cc) (judge-lowest d x))),
      λ q. reply q.0 q.1 ∙ ap rule (one-lowest d q.0 _ n (judge-lowest d q.0) q.2),
    )
      where
        reply : (x : Record) → read_record file ≡ accepted x → o.reply ≡ rule (judge d x)
        reply x e = replied (s ∙ judge-accepted b p h d is file x e)

    evaluate-exact : (file : List ℕ) (o : Outcome) → Step b (Evaluate p file) o → (x : Record) → read_record file ≡ accepted x
        → (o.reply ≡ first_false (length (compile d)))
        ↔ ((rule6 d (site_of x) ≡ true) × (rule7 d (site_of x) ≡ true) × (rule8 d (site_of x) ≡ true) × (rule9 d (site_of x) ≡ true))
    evaluate-exact file o s x e =
        let reply : o.reply ≡ first_false (evaluate d x) = replied (s ∙ evaluate-accepted b p h d is file x e) in
        let iff = evaluate-iff d (reached-wf b r p d is) x in
        ((λ q. iff.0 (let y : first_false (evaluate d x) ≡ first_false (length (compile d)) = sym reply ∙ q in cc)), (λ q. reply ∙ ap first_false (iff.1 q)))

pub demand-two : DemandTwo
demand-two b r p h = record {
  accepts = λ file. placed-exact b r p h (read_diagram file);
  stores = λ file. placed-stores b r p h (read_diagram file);
  accepts-text = text-exact b r p h;
  stores-text = λ text o s t k e. placed-stores b r p h (read_text text) o s (declared (declarations t)) (accepted-text text t k e);
  refuses-text = text-refuses b r p h;
  judges = judge-exact b r p h;
  compiles = λ d is o s. replied (s ∙ compile-gives b p h d is);
  evaluates = evaluate-exact b r p h;
}

-- ---- demand 3

pub demand-three : DemandThree
unfolding saying
demand-three b old new eo en bound h o s = by whole.0 whole.1 whole.2
  where
    whole : (w : Option Record) × Chooses (Gap old new) bound w × (o ≡ gives (differs w) (with_witness w b))
    whole =
        subst (λ (a : Answer (Diagram × Diagram)). Choosing b a (λ d. Gap d.0 d.1) bound differs o) (compared-within b bound old new h eo en) s

    by : (w : Option Record) → Chooses (Gap old new) bound w → o ≡ gives (differs w) (with_witness w b) → NoneOverlooked old new bound o
    by none f e =
        let q : o.reply ≡ no_difference = replied e in
        let no : (n : ℕ) → o.reply ≡ difference n → ⊥ = λ n i. none-differs n (sym q ∙ i) in
        record {
          no-difference = (λ i file x g l. absurd (omega (arith, f file x g, l)), λ i. q);
          otherwise = λ i. absurd (i q);
          least = λ n i. absurd (no n i);
          handed-out = λ n i. absurd (no n i);
        }
    by (some w) f e =
        let q : o.reply ≡ difference (object_count w) = replied e in
        let count : (n : ℕ) → o.reply ≡ difference n → object_count w ≡ n = λ n i. differs-count n w (sym q ∙ i) in
        record {
          no-difference = (
            λ i. let y : no_difference ≡ difference (object_count w) = sym i ∙ q in let z : ◌≡◌ {A = ℕ} 0 1 = cc in absurd (omega (arith, z)),
            λ i. absurd (i (write_record w) w f.is f.bounded),
          );
          otherwise = λ i. (object_count w, q);
          least = λ n i. let c = count n i in
              (subst (λ (k : ℕ). k ≤ bound) c f.bounded, record { some-has = (write_record w, w, f.is, c); none-fewer = λ file x g. subst (λ (k : ℕ). k ≤ object_count x) c (f.least file x g) });
          handed-out = λ n i es c row k buffer p t. hands_out b old new bound n o eo en s i es c row k buffer p t;
        }

-- ---- lines with both arrowheads or none

-- what old allows new allows, since they judge alike
pub same-heads : SameHeads
same-heads b old new eo en h bound l o s =
    (demand-three b old new eo en bound l o s).no-difference.1 (λ file x g n. g.illegal (sym (heads-judge old new h x) ∙ g.legal))
