-- Laws of names added to a list unless they are there: what is in front stays, and what a list has.
-- Assumes nothing.
use mathlib.Core.Path.{◌≡◌, ap, ap₂, refl, sym, ◌∙◌}
use mathlib.Core.Bool.{Bool, cond, false, not, true, ◌||◌, or_assoc, or-false}
use mathlib.Core.List.{List, [], ◌∷◌, ◌++◌, append_assoc, append-nil}
use mathlib.Core.Logic.{⊎_elim}
use Prim.Native.Nat.{ℕ, ◌≤◌}
use native.Mathlib.Decide.{dec_le}
use native.Mathlib.Omega.{arith}
use lib.ListN.{length, take}
use lib.Seq.{length-take-le, take_all, take-append-le}
use Rattle.laws.specs.Lists.{member, only}
use Rattle.laws.proofs.ConnectiveLaws.{or_cases, or_left, same_test}
use Rattle.laws.proofs.PickedLaws.{member-append}
use Rattle.files.specs.Name.{Name, same_name}
use Rattle.files.proofs.NameLaws.{same_key, same-right}
use Rattle.text_checks.specs.ValueNames.{with_name, with_names}

-- the list has the name w
abbrev pub has : List Name → Name → Bool
has ns w = member (λ v. same_name v w) ns

-- one name: added where it is not there
pub with-name-is : (ns : List Name) (w : Name) → with_name ns w ≡ ns ++ only (not (has ns w)) w
unfolding with_name
with-name-is ns w = go (has ns w)
  where
    go : (b : Bool) → cond b ns (ns ++ (w ∷ [])) ≡ ns ++ only (not b) w
    go true = sym (append-nil ns)
    go false = refl

-- ---- what is in front stays

grows : (ns ws : List Name) → (more : List Name) × (with_names ns ws ≡ ns ++ more)
unfolding with_names
grows ns [] = ([], sym (append-nil ns))
grows ns (w ∷ ws) =
    let r = grows (with_name ns w) ws in
    let one : List Name = only (not (has ns w)) w in
    (one ++ r.0, r.1 ∙ ap (λ (xs : List Name). xs ++ r.0) (with-name-is ns w) ∙ append_assoc ns one r.0)

pub front_kept : (n : ℕ) (ns ws : List Name) → n ≤ length ns → take n (with_names ns ws) ≡ take n ns
front_kept n ns ws h = let r = grows ns ws in ap (take n) r.1 ∙ take-append-le n ns r.0 h

-- only the first n count for the first n
pub front-with : (n : ℕ) (ns ws : List Name) → take n (with_names (take n ns) ws) ≡ take n (with_names ns ws)
front-with n ns ws = go (dec_le (length ns) n)
  where
    go : Dec (length ns ≤ n) → take n (with_names (take n ns) ws) ≡ take n (with_names ns ws)
    go (yes h) = ap (λ (xs : List Name). take n (with_names xs ws)) (take_all n ns h)
    go (no h) =
        let l : n ≤ length ns = omega arith in
        let m : length (take n ns) ≡ n = length-take-le n ns l in
        let a : n ≤ length (take n ns) = omega arith in
        let b : length (take n ns) ≤ n = omega arith in
        front_kept n (take n ns) ws a ∙ take_all n (take n ns) b ∙ sym (front_kept n ns ws l)

pub with_append : (ns ws vs : List Name) → with_names ns (ws ++ vs) ≡ with_names (with_names ns ws) vs
unfolding with_names
with_append ns [] vs = refl
with_append ns (w ∷ ws) vs = with_append (with_name ns w) ws vs

-- ---- what a list has

-- a list that has w has what is the same as w
has_same : (ns : List Name) (v w : Name) → same_name v w ≡ true → has ns v ≡ has ns w
unfolding member
has_same [] v w e = refl
has_same (x ∷ ns) v w e = ap₂ (λ (a b : Bool). a || b) (same-right x v w (same_key v w e)) (has_same ns v w e)

has_one : (ns : List Name) (v w : Name) → has (with_name ns v) w ≡ has ns w || same_name v w
unfolding member
has_one ns v w =
    ap (λ (xs : List Name). has xs w) (with-name-is ns v) ∙ member-append (λ x. same_name x w) ns (only (not (has ns v)) v)
    ∙ go (has ns v) refl
  where
    go : (b : Bool) → has ns v ≡ b → has ns w || has (only (not b) v) w ≡ has ns w || same_name v w
    go true e =
        same_test (has ns w || false) (has ns w || same_name v w) (λ t. or_left (has ns w) (same_name v w) (sym (or-false (has ns w)) ∙ t))
        (λ t. or_left (has ns w) false (⊎_elim (λ a. a) (λ a. sym (has_same ns v w a) ∙ e) (or_cases (has ns w) (same_name v w) t)))
    go false e = ap (λ (b : Bool). has ns w || b) (or-false (same_name v w))

pub has_all : (ns ws : List Name) (w : Name) → has (with_names ns ws) w ≡ has ns w || has ws w
unfolding with_names member
has_all ns [] w = sym (or-false (has ns w))
has_all ns (v ∷ ws) w =
    has_all (with_name ns v) ws w ∙ ap (λ (b : Bool). b || has ws w) (has_one ns v w) ∙ or_assoc (has ns w) (same_name v w) (has ws w)
