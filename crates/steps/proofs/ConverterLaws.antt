-- What the converter gives, by what the file says: its own refusals, 25, 20, or the file in its other edition.
-- Assumes nothing.
use Prim.Native.Nat.{ℕ}
use native.Mathlib.Omega.{arith}
use mathlib.Core.Bool.{and-false, false, not, true}
use mathlib.Core.List.{List, []}
use mathlib.Core.Logic.{inl, inr, ⊎_elim, ◌↔◌, ◌⊎◌}
use mathlib.Core.Path.{◌∙◌, ◌≡◌, ap, subst, sym}
use lib.ListN.{length, take}
use Rattle.laws.specs.Lists.{over}
use Rattle.laws.proofs.ConnectiveLaws.{known}
use Rattle.laws.proofs.OverLaws.{drop-over, length_over, take-over}
use Rattle.files.specs.Convert.{TooWide, converted, other_edition, other_file, rewritten, too_wide}
use Rattle.files.specs.Diagram.{Diagram}
use Rattle.files.specs.DiagramBytes.{write_diagram}
use Rattle.files.specs.DiagramFile.{edition_in, read_diagram}
use Rattle.files.specs.Refusal.{Answer, accepted, and_then, refused}
use Rattle.files.proofs.AnswerLaws.{by_answer, refused-not}
use Rattle.files.proofs.ConvertLaws.{converted-converts, converted-is, converted-of, converted-short, fits-of, other_is}
use Rattle.files.proofs.ConvertRefusals.{converted-read, own-refusal, refused-20-iff, refused-25-iff}
use Rattle.files.proofs.DiagramUnique.{diagram-edition}
use Rattle.files.proofs.DiagramWellFormed.{diagram-wf}
use Rattle.steps.specs.Bench.{Bench, Convert, Outcome, Reply, is_refusal, refusal, written}
use Rattle.steps.specs.Demands.{Converter, Convertible, ConvertedTo}
use Rattle.steps.specs.Effect.{changes, effect, witness}
use Rattle.steps.specs.Step.{Step, writing}
use Rattle.steps.proofs.StepLaws.{replied}

-- ---- a call that writes into the buffer

module _ (b : Bench) (buffer : List ℕ) (a : Answer (List ℕ)) (o : Outcome) (s : o ≡ writing b buffer a) where
  writes : (g : List ℕ) → a ≡ accepted g → o ≡ record { reply = written (length g); bench = b; buffer = over g buffer }
  unfolding writing
  writes g e = s ∙ ap (writing b buffer) e

  refuses : (n : ℕ) → a ≡ refused n → o ≡ record { reply = refusal n; bench = b; buffer = buffer }
  unfolding writing
  refuses n e = s ∙ ap (writing b buffer) e

  bench-kept : o.bench ≡ b
  bench-kept = by_answer a (λ n e. ap (λ (q : Outcome). q.bench) (refuses n e)) (λ g e. ap (λ (q : Outcome). q.bench) (writes g e))

  refusal-iff : (n : ℕ) → (o.reply ≡ refusal n) ↔ (a ≡ refused n)
  refusal-iff n = (
    λ q. by_answer a
        (λ m e. let k : refusal m ≡ refusal n = sym (replied (refuses m e)) ∙ q in e ∙ cc)
        (λ g e. let k : written (length g) ≡ refusal n = sym (replied (writes g e)) ∙ q in let z : ◌≡◌ {A = ℕ} 0 1 = cc in absurd (omega (arith, z))),
    λ e. replied (refuses n e),
  )

  -- the reply tells how long the result is
  written-is : (n : ℕ) → o.reply ≡ written n → (g : List ℕ) × (a ≡ accepted g) × (length g ≡ n)
  written-is n q =
      by_answer a
      (λ m e. let k : refusal m ≡ written n = sym (replied (refuses m e)) ∙ q in let z : ◌≡◌ {A = ℕ} 0 1 = cc in absurd (omega (arith, z)))
      (λ g e. let k : written (length g) ≡ written n = sym (replied (writes g e)) ∙ q in (g, e, cc))

-- ---- the files that have another edition

convertible-of : (file g : List ℕ) → other_file file ≡ accepted g → Convertible file
unfolding other_file and_then
convertible-of file g h = (
  by_answer (read_diagram file) (λ n e. absurd (refused-not (sym (ap (λ (a : Answer Diagram). and_then a (rewritten (edition_in file))) e) ∙ h))) (λ d e. (d, e)),
  λ w. let q : refused 25 ≡ refused 20 = sym ((refused-25-iff file []).1 w) ∙ converted-short file [] g h (omega arith) in let z : ◌≡◌ {A = ℕ} 25 20 = cc in omega (arith, z),
)

module _ (file : List ℕ) (d : Diagram) (q : read_diagram file ≡ accepted d) where
  wide : too_wide (edition_in file) d ≡ true → TooWide file
  wide t = (refused-25-iff file []).0 (converted-read file [] d q ∙ rw (t))

  unrefused : too_wide (edition_in file) d ≡ false → other_file file ≡ accepted (write_diagram (other_edition (edition_in file)) d)
  unrefused f = other_is file d q (fits-of d (diagram-wf file d q) (edition_in file) (diagram-edition file d q) f)

other-file : (file : List ℕ) → Convertible file → (g : List ℕ) × (other_file file ≡ accepted g)
other-file file w =
    let d = w.0.0 in
    let q = w.0.1 in
    ⊎_elim (λ t. absurd (w.1 (wide file d q t))) (λ f. (_, unrefused file d q f)) (known (too_wide (edition_in file) d))

-- refused by the reader, by 25, or neither
file-cases : (file : List ℕ) → ((n : ℕ) × (read_diagram file ≡ refused n)) ⊎ (TooWide file ⊎ Convertible file)
file-cases file = by_answer (read_diagram file) (λ n e. inl (n, e)) (λ d q. inr (⊎_elim (λ t. inl (wide file d q t)) (λ f. inr (convertible-of file _ (unrefused file d q f))) (known (too_wide (edition_in file) d))))

-- ---- the call

-- what the buffer holds behind the result g
module _ (file buffer g : List ℕ) (h : converted file buffer ≡ accepted g) where
  converted-to : (b : Bench) → ConvertedTo file buffer (length g) (record { reply = written (length g); bench = b; buffer = over g buffer })
  converted-to b =
      let c = converted-converts file buffer g h in
      let room = (converted-of file buffer g h).1 in
      let front : take (length g) (over g buffer) ≡ g = take-over g buffer in
      record {
        read-back = ap read_diagram front ∙ c.read-back;
        edition = ap edition_in front ∙ c.edition;
        again = λ e second p l s.
            let t = writes e second _ p (subst (λ (f : List ℕ). Step e (Convert f second) p) front s) file (c.again second l) in
            (replied t, ap (λ (q : Outcome). take (length file) q.buffer) t ∙ take-over file second);
        long = ap length front;
        behind = drop-over g buffer;
        size = length_over g buffer (let short = c.short in omega arith);
      }

keeps-witness : (file buffer : List ℕ) (reply : Reply) → changes (Convert file buffer) reply witness ≡ false
unfolding changes effect
keeps-witness file buffer reply = and-false (not (is_refusal reply))

pub converter : Converter
converter b file buffer o s = record {
  cases = file-cases file;
  bench = bench-kept b buffer (converted file buffer) o s;
  keeps = keeps-witness file buffer o.reply;
  own = λ n e. (refusal-iff b buffer (converted file buffer) o s n).1 (own-refusal file buffer n e);
  too-wide = (
    λ q. (refused-25-iff file buffer).0 ((refusal-iff b buffer (converted file buffer) o s 25).0 q),
    λ w. (refusal-iff b buffer (converted file buffer) o s 25).1 ((refused-25-iff file buffer).1 w),
  );
  buffer-short = (
    λ q. let w = (refused-20-iff file buffer).0 ((refusal-iff b buffer (converted file buffer) o s 20).0 q) in (convertible-of file w.0 w.1, w.2),
    λ w. let g = other-file file w.0 in (refusal-iff b buffer (converted file buffer) o s 20).1 (converted-short file buffer g.0 g.1 w.1),
  );
  gives = (
    λ q.
        let g = written-is b buffer (converted file buffer) o s q.0 q.1 in
        let of = converted-of file buffer g.0 g.1 in
        (convertible-of file g.0 of.0, of.1),
    λ w. let g = other-file file w.0 in (length g.0, replied (writes b buffer (converted file buffer) o s g.0 (converted-is file buffer g.0 g.1 w.1))),
  );
  result = λ n q.
      let g = written-is b buffer (converted file buffer) o s n q in
      subst (λ (m : ℕ). ConvertedTo file buffer m o) g.2
      (subst (ConvertedTo file buffer (length g.0)) (sym (writes b buffer (converted file buffer) o s g.0 g.1)) (converted-to file buffer g.0 g.1 b));
}
