-- The types among the first k declarations of a body, counted one declaration after the other, and the enumerations.
-- Assumes nothing.
use Prim.Native.Nat.{ℕ, ◌+◌, ◌<◌, ◌^◌, ◌≤◌}
use native.Mathlib.Omega.{arith}
use mathlib.Core.Bool.{Bool, false, true}
use mathlib.Core.List.{List}
use mathlib.Core.Path.{◌∙◌, ◌≡◌, ap, ap₂, sym}
use lib.ListN.{length}
use Rattle.std.specs.Int.{from_bool}
use Rattle.laws.specs.Bounded.{one}
use Rattle.laws.proofs.CountLaws.{tally-more, tally-upto}
use Rattle.laws.proofs.LoopLaws.{tally-begin}
use Rattle.texts.specs.Declaration.{Declaration, declaration_at, is_type}
use Rattle.texts.specs.Declared.{types_before}
use Rattle.texts.proofs.DeclaredCountLaws.{few}
use Rattle.text_rows.specs.RowAt.{declarations_by}
use Rattle.text_rows.proofs.NotedLaws.{one-from}
use Rattle.text_parts.specs.declared.Kind.TheVariants.{Enumerations}
use Rattle.text_checks.specs.Kinds.{kind_count}
use Rattle.text_writing.specs.Pieces.{WritableBody, enumeration_count}

-- ---- types

pub types-begin : (ds : List Declaration) → 0 ≡ types_before ds 0
unfolding types_before
types-begin ds = tally-begin (λ j. is_type (declaration_at ds j))

pub types-next : (ds : List Declaration) (k : ℕ) {own more : ℕ} {b : Bool} → own ≡ types_before ds k → b ≡ is_type (declaration_at ds k) → more ≡ from_bool b
    → own + more ≡ types_before ds (k + 1)
unfolding types_before
types-next ds k {b = b} e q m =
    ap₂ (λ (x y : ℕ). x + y) e (m ∙ one-from b ∙ ap one q) ∙ sym (tally-more (λ j. is_type (declaration_at ds j)) k)

module _ {s : List ℕ} {n k own : ℕ} (w : WritableBody s n) (h : k < n) (e : own ≡ types_before (declarations_by s) k) where
  types-most : own ≤ 24
  unfolding types_before
  types-most =
      let ds = declarations_by s in
      let l : k ≤ length ds = omega (arith, w.count-is) in
      let a = tally-upto (λ j. is_type (declaration_at ds j)) k (length ds) l in
      let b = (few ds w.writable.few).types in omega arith

  pub types-fit : {more : ℕ} (b : Bool) → more ≡ from_bool b → own + more < 2 ^ 8
  types-fit {more} b m = let l : more ≤ 1 = rw m (one-small b) in omega (arith, types-most)
    where
      one-small : (b : Bool) → from_bool b ≤ 1
      one-small true = omega arith
      one-small false = omega arith

-- ---- enumerations

pub enumerations-counted : (ds : List Declaration) {count : ℕ} → count ≡ kind_count Enumerations ds → count ≡ enumeration_count ds
unfolding kind_count enumeration_count
enumerations-counted ds e = e
