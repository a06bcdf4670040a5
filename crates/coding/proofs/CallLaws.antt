-- A call that is read stands there whole: its operands end before the list of calls does, and a buffer has room behind the reply's first
-- five bytes. Whether it is lent a buffer is settled by its code.
-- Assumes nothing.
use Prim.Native.Nat.{ℕ, ◌*◌, ◌+◌, ◌<◌, ◌≤◌}
use native.Mathlib.Omega.{arith}
use mathlib.Core.Bool.{Bool, ◌&&◌, ◌||◌, cond, false, true, true≢false}
use mathlib.Core.List.{List}
use mathlib.Core.Logic.{⊎_elim, ◌⊎◌, ◌≢◌}
use mathlib.Core.Option.{Option, none, some}
use mathlib.Core.Path.{◌∙◌, ◌≡◌, refl, subst, sym}
use lib.Dec.{eqb, leb, ltb}
use lib.ListN.{drop, get_or, length}
use borrow.Author.Tests.{leb-true, ltb-true, ne_eqb}
use Rattle.laws.specs.Bounded.{all}
use Rattle.laws.proofs.BoundedLaws.{all-at}
use Rattle.laws.proofs.ConnectiveLaws.{and_left, and_right}
use Rattle.steps.specs.Effect.{effect}
use Rattle.coding.specs.CallBytes.{Operands, Shape, call, call_of, code_byte, codes, halt, length_at, next_by, next_of, operands_of, read_call, row_at}
use Rattle.std.specs.Prelude as rattle
use Rattle.std.specs.Prelude.{None, Some}
use Rattle.coding.specs.declared.Next.{Next}

pub record Whole (s : List ℕ) (room : ℕ) (n : Next) : Type 0 where
  pub least : 1 ≤ n.code
  pub known : n.code < length codes
  pub some : 0 < n.used
  pub little : n.used ≤ length s
  pub fits : (row_at n.code).buffers * 5 + n.lend ≤ room

module _ (s : List ℕ) (room : ℕ) where
  abbrev x : Shape
  x = row_at (code_byte s)

  abbrev from : ℕ
  from = 1 + x.bytes + x.files * 4

  abbrev len : ℕ
  len = length_at s x.files (1 + x.bytes)

  abbrev lend : ℕ
  lend = length_at s x.buffers (from + len)

  abbrev used : ℕ
  used = from + len + x.buffers * 4

  abbrev read : Next
  read = record { code = code_byte s; byte = get_or s 1 0; from = from; len = len; lend = lend; used = used }

  abbrev known : Bool
  known = leb 1 (code_byte s) && ltb (code_byte s) (length codes)

  whole-by : (t : Bool) (n : Next) → known && leb used (length s) && leb (x.buffers * 5 + lend) room ≡ t → ◌≡◌ {A = rattle.Option Next} (cond t (Some read) None) (Some n)
      → Whole s room n
  whole-by true n e h =
      let within = leb used (length s) in
      let room-is = leb (x.buffers * 5 + lend) room in
      let most : known && within ≡ true = and_left (known && within) room-is e in
      let same : ◌≡◌ {A = Next} read n = cc in
      subst (Whole s room) same
      (record {
        least = leb-true 1 (code_byte s) (and_left (leb 1 (code_byte s)) (ltb (code_byte s) (length codes)) (and_left known within most));
        known = ltb-true (code_byte s) (length codes) (and_right (leb 1 (code_byte s)) (ltb (code_byte s) (length codes)) (and_left known within most));
        some = omega arith;
        little = leb-true used (length s) (and_right known within most);
        fits = leb-true (x.buffers * 5 + lend) room (and_right (known && within) room-is e);
      })
  whole-by false n e h = cc

  pub whole-call : {y : rattle.Option Next} (n : Next) → y ≡ next_of s room → y ≡ Some n → Whole s room n
  unfolding next_of next_by
  whole-call n e h = whole-by _ n refl (sym e ∙ h)

module _ (s room : List ℕ) {y : rattle.Option Next} (e : y ≡ next_of s (length room)) where
  pub read-halt : y ≡ None → read_call s room ≡ halt
  unfolding read_call
  read-halt h = rw (← e, h)

  pub read-call : (n : Next) → y ≡ Some n → read_call s room ≡ call (call_of n.code (operands_of s room n)) (drop n.used s)
  unfolding read_call
  read-call n h = rw (← e, h)

-- ---- hand out and convert are lent a buffer, and no other call: one test of all codes

abbrev is_none : Option (List ℕ) → Bool
is_none none = true
is_none (some buffer) = false

is-none : (x : Option (List ℕ)) → is_none x ≡ true → x ≡ none
is-none none e = refl
is-none (some buffer) e = absurd (true≢false (sym e))

abbrev lends_none : Operands → ℕ → Bool
lends_none y code = eqb code 7 || eqb code 9 || is_none (effect (call_of code y)).lends

all-lend-none : (y : Operands) → all (lends_none y) (length codes) ≡ true
unfolding all effect call_of
all-lend-none y = refl

pub lends-none : (code : ℕ) (y : Operands) → code < length codes → code ≢ 7 → code ≢ 9 → (effect (call_of code y)).lends ≡ none
lends-none code y l h k =
    let r : lends_none y code ≡ true = all-at (lends_none y) (length codes) (all-lend-none y) code l in is-none _ (rw (ne_eqb code 7 h, ne_eqb code 9 k) at r)

-- lent a buffer, the call gets its bytes
pub record Lends (code : ℕ) (y : Operands) : Type 0 where
  pub one : (row_at code).buffers ≡ 1
  pub lends : (effect (call_of code y)).lends ≡ some y.buffer

pub lends-some : (code : ℕ) (y : Operands) → (code ≡ 7) ⊎ (code ≡ 9) → Lends code y
unfolding effect call_of
lends-some code y =
    ⊎_elim (λ e. subst (λ (k : ℕ). Lends k y) (sym e) (record { one = refl; lends = refl }))
    (λ e. subst (λ (k : ℕ). Lends k y) (sym e) (record { one = refl; lends = refl }))
