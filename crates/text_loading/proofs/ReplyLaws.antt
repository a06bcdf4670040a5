-- The replies of the reader, way out by way out.
-- Assumes nothing.
use Prim.Native.Nat.{◌<◌, ◌≤◌, ℕ}
use native.Mathlib.Omega.{arith}
use mathlib.Core.Bool.{Bool, false, not, true}
use mathlib.Core.List.{List}
use mathlib.Core.Path.{◌∙◌, ◌≡◌, ap, ap₂, refl, subst, sym}
use lib.ListN.{drop, length, take}
use Rattle.std.specs.Borrow.{Bor}
use Rattle.std.specs.Option.{IsSome}
use Rattle.std.specs.Prelude.{Option, Some}
use lib.Seq.{take-append_seam}
use Rattle.laws.specs.Connective.{both}
use Rattle.laws.specs.Lists.{over}
use Rattle.laws.proofs.ConnectiveLaws.{true-false}
use Rattle.files.specs.DiagramBytes.{write_diagram}
use Rattle.files.specs.Refusal.{refused}
use Rattle.field_writers.specs.Put.{Put}
use Rattle.texts.specs.Declared.{declared}
use Rattle.texts.specs.ReadText.{read_text}
use Rattle.texts.specs.Table.{accepts, has_long_from}
use Rattle.texts.specs.TextChecks.{has_forbidden, has_unknown, is_overfull}
use Rattle.texts.specs.Token.{tokens}
use Rattle.std.specs.Prelude.{Result, Err}
use Rattle.fields.specs.Refusal.{number_of}
use Rattle.fields.specs.declared.Refusal.{Refusal}
use Rattle.fields.specs.declared.Refusal.TheVariants.{Count, Grammar, Undeclared}
use Rattle.diagrams.specs.declared.ReadDiagram.{ReadDiagram}
use Rattle.loading.specs.Loads.{Loads}
use Rattle.name_lists.specs.declared.list.Names.{Names}
use Rattle.name_lists.specs.Names.{names_in}
use Rattle.text_rows.specs.RowAt.{RowEnds, declarations_by}
use Rattle.text_outlines.specs.declared.Outlined.{Outlined}
use Rattle.text_outlines.specs.Outline.{Outlines}
use Rattle.text_checks.specs.Overlong.{has_many}
use Rattle.text_checks.specs.ValueNames.{value_names}
use Rattle.text_checks.proofs.OverfullLaws.{not-overfull, overfull-many, overfull-values}
use Rattle.text_loading.specs.LoadsText.{LoadsText}
use Rattle.text_loading.specs.Read.{Known, Read}
use Rattle.text_loading.proofs.ManyLaws.{many-overfull}
use Rattle.text_loading.proofs.ReadLaws.{not-true, read-file, read-forbidden, read-overfull, read-unknown, taken-ends, taken-read, untaken}

-- ---- refusals

says-refused : {s : List ℕ} (e : Refusal) → read_text s ≡ refused (number_of e) → LoadsText s (Err e)
says-refused e f = record { says = sym f }

not-not : (b : Bool) → not b ≡ false → b ≡ true
not-not true e = refl
not-not false e = absurd (true-false refl e)

pub says-untaken : {s : List ℕ} {r : Bool} → r ≡ both (accepts 0 (tokens s)) (not (has_long_from 0 (tokens s))) → not r ≡ true → LoadsText s (Err Grammar)
says-untaken {s} {r} e f = says-refused Grammar (untaken s (sym e ∙ not-true r f))

module _ {s : List ℕ} {r : Bool} (e : r ≡ both (accepts 0 (tokens s)) (not (has_long_from 0 (tokens s)))) (f : not r ≡ false) where
  pub ends_of : {o : Option (Bor (List ℕ))} → RowEnds 0 s o → IsSome o
  ends_of h = taken-ends h (sym e ∙ not-not r f)

  pub read_of : {o : Option (Bor (List ℕ))} {b : Bor (List ℕ)} {body : List ℕ} → RowEnds 0 s o → o ≡ Some b → body ≡ b.now → Read s body
  read_of {b = b} h q i = subst (λ (x : List ℕ). Read s x) (sym i) (taken-read h (sym e ∙ not-not r f) b q)

pub known_of : {body : List ℕ} {a b : Bool} → a ≡ has_forbidden (declarations_by body) → a ≡ false → b ≡ has_unknown (declarations_by body) → b ≡ false → Known body
known_of e f g h = record { allowed = sym e ∙ f; known = sym g ∙ h }

module _ {s body : List ℕ} (r : Read s body) where
  pub says-forbidden : {a : Bool} → a ≡ has_forbidden (declarations_by body) → a ≡ true → LoadsText s (Err Grammar)
  says-forbidden e h = says-refused Grammar (read-forbidden r (sym e ∙ h))

  pub says-unknown : {a b : Bool} → a ≡ has_forbidden (declarations_by body) → a ≡ false → b ≡ has_unknown (declarations_by body) → b ≡ true → LoadsText s (Err Undeclared)
  says-unknown e f g h = says-refused Undeclared (read-unknown r (sym e ∙ f) (sym g ∙ h))

  says-overfull : Known body → is_overfull (declarations_by body) ≡ true → LoadsText s (Err Count)
  says-overfull k h = says-refused Count (read-overfull r k.allowed k.known h)

  pub says-over-52 : {o : List Outlined} {n : ℕ} → Known body → Outlines body o n → 52 < n → LoadsText s (Err Count)
  says-over-52 {o} {n} k w h =
      let e : n ≡ length (declarations_by body) = w.count-is in
      let c = ap length r.declares in
      says-overfull k (ap is_overfull r.declares ∙ many-overfull r.tree (omega arith))

  pub says-many : {m : Bool} → Known body → m ≡ has_many (declarations_by body) → m ≡ true → LoadsText s (Err Count)
  says-many k e h = says-overfull k (overfull-many (declarations_by body) (sym e ∙ h))

  pub says-values : (v : Names) → Known body → names_in v ≡ take 13 (value_names (declarations_by body)) → 12 < v.count → LoadsText s (Err Count)
  says-values v k g h = says-overfull k (overfull-values (declarations_by body) v g h)

-- the body passes 4
pub few-of : (body : List ℕ) {m : Bool} (v : Names) → m ≡ has_many (declarations_by body) → m ≡ false → names_in v ≡ take 13 (value_names (declarations_by body)) → v.count ≤ 12
    → is_overfull (declarations_by body) ≡ false
few-of body {m} v e f g h = not-overfull (declarations_by body) v g (sym e ∙ f) h

-- ---- what is written and read

-- what was put is what is read
pub put_front : {xs d d' : List ℕ} {n : ℕ} → Put xs d n d' → take n d' ≡ xs
unfolding over
put_front {xs} {d} {d'} {n} p = ap₂ take p.length-is p.bytes ∙ take-append_seam xs (drop (length xs) d)

-- as many bytes are read as were put
pub put_count : {xs d d' : List ℕ} {n : ℕ} → Put xs d n d' → n ≡ length (take n d')
put_count p = p.length-is ∙ sym (ap length (put_front p))

pub says-read : {s body : List ℕ} {l : Result ReadDiagram Refusal} → Read s body → Known body → is_overfull (declarations_by body) ≡ false → Loads (write_diagram 2 (declared (declarations_by body))) l → LoadsText s l
says-read r k f m = record { says = m.says ∙ sym (read-file r k.allowed k.known f) }

pub loads-at : {xs file : List ℕ} {l : Result ReadDiagram Refusal} → file ≡ xs → Loads file l → Loads xs l
loads-at {xs} {file} {l} e m = subst (λ (x : List ℕ). Loads x l) e m

pub ruleset replies = (says-untaken, ends_of, read_of, known_of, says-forbidden, says-unknown)
