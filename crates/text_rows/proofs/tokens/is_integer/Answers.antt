use Rattle.std.proofs.Common.{◌∙◌, ℕ, zero, suc, ◌≤◌, ◌≡◌, ◌&&◌, Bool, List, ap, arith, get_or, length, refl, sym, take}
use Rattle.std.specs.List.{list_all}
use Rattle.std.specs.Char.{is_ascii_digit}
use Rattle.std.proofs.lemmas.Iterator.{YieldsList-from_slice}
use Rattle.std.proofs.lemmas.Iterator.Search.{all_from_yields_List}
use Rattle.std.proofs.lemmas.List.Folds.{list_all_more}
use lib.Seq.{take-length}
use native.Mathlib.Numerals.{add-one}
use borrow.Author.Rules.{rules}
use Rattle.laws.specs.Bounded.{all}
use Rattle.laws.proofs.ConnectiveLaws.{and-is-both}
use Rattle.texts.specs.Token.{is_digit, is_integer}
use Rattle.text_rows.proofs.tokens.is_integer.Goals as goal

digit-is : (b : ℕ) → is_ascii_digit b ≡ is_digit b
unfolding is_digit
digit-is b = and-is-both _ _

-- the library's test of all elements, as one over the indices below n
all-front : (p : ℕ → Bool) (xs : List ℕ) (n : ℕ) → n ≤ length xs → list_all p (take n xs) ≡ all (λ i. p (get_or xs i 0)) n
unfolding all
all-front p xs zero h = refl
all-front p xs (suc n) h =
    ap (λ m. list_all p (take m xs)) (sym (add-one n)) ∙ list_all_more p xs n 0 (omega arith)
    ∙ ap (λ b. b && p (get_or xs n 0)) (all-front p xs n (omega arith))

pub returns : goal.returns
unfolding is_integer
returns c =
    let w = c.args.w.now in
    all_from_yields_List is_digit _ _ _ c.all.ensures.ran (YieldsList-from_slice w cc) (λ x b q k. (search rules, search (rules, digit-is)))
    ∙ ap (list_all is_digit) (sym (take-length w)) ∙ all-front is_digit w (length w) (omega arith)
