-- A record in memory that stands for a record has few objects, and each value that it keeps is a constant or no value at all:
-- what is kept is one more than a code, and a code is the first that fits, or 96.
-- Assumes nothing.
use Prim.Native.Nat.{◌+◌, ◌-◌, ◌<◌, ◌≤◌, suc, zero, ℕ}
use native.Mathlib.Decide.{dec_lt}
use native.Mathlib.Omega.{arith}
use mathlib.Core.Bool.{Bool, cond, false, false≢true, true}
use mathlib.Core.Logic.{◌≢◌, ◌⊎◌, ⊎_elim, inl, inr}
use mathlib.Core.Path.{◌∙◌, ◌≡◌, refl, subst, sym}
use lib.Dec.{eqb}
use lib.ListN.{length}
use borrow.Author.Tests.{eq-eqb, eqb-true}
use Rattle.laws.specs.Bounded.{first}
use Rattle.files.specs.Diagram.{Diagram, attribute_at}
use Rattle.files.specs.Name.{Name}
use Rattle.files.specs.Record.{Record, value_at}
use Rattle.records.specs.declared.MemoryRecord.{MemoryRecord}
use Rattle.records.specs.Represents.{code_among, value_byte, value_for}
use Rattle.records.specs.Slots.{code_of, is_code, own_attribute}
use Rattle.records.specs.Written.{IsValue, value_in}
use Rattle.records.proofs.SlotLaws.{code-value}
use Rattle.memory_rules.specs.Stands.{Stands}
use Rattle.tables.specs.Tables.{Coded, Codes}
use Rattle.laws.proofs.FirstLaws.{first_holds, first-le}

-- one more than a code
abbrev Kept : Diagram → ℕ → Type 0
Kept d x = IsValue d (x - 1) ⊎ (x ≡ 97)

code-kept : (d : Diagram) (t c : Name) → Kept d (1 + code_of d t c)
unfolding code_of
code-kept d t c = go (dec_lt (first (is_code d t c) 96) 96)
  where
    k : ℕ
    k = first (is_code d t c) 96

    go : Dec (k < 96) → Kept d (1 + k)
    go (yes l) =
        let e : 1 + k - 1 ≡ k = omega arith in
        inl (subst (IsValue d) (sym e) (code-value d t c k (first_holds (is_code d t c) 96 l)))
    go (no l) = let h = first-le (is_code d t c) 96 in inr (omega arith)

among-kept : (d : Diagram) (r : Record) (o : ℕ) (w : Name) (n : ℕ) → code_among d r o w n ≢ 0 → Kept d (code_among d r o w n)
unfolding code_among
among-kept d r o w zero h = absurd (h refl)
among-kept d r o w (suc n) h = go (value_for (value_at r n) o w) h (among-kept d r o w n)
  where
    go : (b : Bool) → cond b (1 + code_of d (value_at r n).value_type (value_at r n).constant) (code_among d r o w n) ≢ 0
        → (code_among d r o w n ≢ 0 → Kept d (code_among d r o w n))
        → Kept d (cond b (1 + code_of d (value_at r n).value_type (value_at r n).constant) (code_among d r o w n))
    go true k f = code-kept d (value_at r n).value_type (value_at r n).constant
    go false k f = f k

byte-kept : (d : Diagram) (r : Record) (o s : ℕ) → value_byte d r o s ≢ 0 → Kept d (value_byte d r o s)
unfolding value_byte
byte-kept d r o s h = go (own_attribute d s) h
  where
    go : (b : Bool) → cond b (code_among d r o (attribute_at d s).name (length r.values)) 0 ≢ 0
        → Kept d (cond b (code_among d r o (attribute_at d s).name (length r.values)) 0)
    go true k = among-kept d r o (attribute_at d s).name (length r.values) k
    go false k = absurd (k refl)

pub stands-coded : {d : Diagram} {r : Record} {m : MemoryRecord} → Stands d r m → Coded d m
stands-coded {d} {r} {m} h = record {
  few = subst (λ (n : ℕ). n ≤ 8) (sym h.count) h.wf-record.few;
  codes = λ o s l k nz.
      let small : o < 8 = let a = h.wf-record.few in let b = h.count in omega arith in
      let slot : s < 32 = let a = h.wf-diagram.few-attributes in omega arith in
      let e : value_in m o s ≡ value_byte d r o s = h.represents.values o s small slot in
      subst (Kept d) (sym e) (byte-kept d r o s (λ z. nz (e ∙ z)));
}

-- ---- the two forms

pub coded-codes : {d : Diagram} {m : MemoryRecord} → Coded d m → Codes d m
coded-codes c = record { few = c.few; known = λ o s l k n p. ⊎_elim (λ v. v) (λ e. absurd (p e)) (c.codes o s l k n) }

pub codes-coded : {d : Diagram} {m : MemoryRecord} → Codes d m → Coded d m
codes-coded {d} {m} c = record { few = c.few; codes = λ o s l k n. go o s l k n (eqb (value_in m o s) 97) refl }
  where
    go : (o s : ℕ) → o < m.count → s < length d.attributes → value_in m o s ≢ 0 → (b : Bool) → eqb (value_in m o s) 97 ≡ b → IsValue d (value_in m o s - 1) ⊎ (value_in m o s ≡ 97)
    go o s l k n true e = inr (eqb-true _ _ e)
    go o s l k n false e = inl (c.known o s l k n (λ q. false≢true (sym e ∙ eq-eqb _ _ q)))
