-- Loops over a row of names: what is left behind the first i of them, and the names by index.
-- Assumes nothing.
use Prim.Native.Nat.{ℕ, ◌+◌, ◌<◌, ◌≤◌}
use native.Mathlib.Nat.{le_antisymm}
use native.Mathlib.Numerals.{add-one}
use mathlib.Core.Bool.{Bool, true, false, not}
use mathlib.Core.List.{List, [], ◌∷◌}
use mathlib.Core.Path.{◌≡◌, refl, sym, ap, ap₂, ◌∙◌}
use lib.Dec.{eqb, leb}
use lib.ListN.{length, get_or, drop}
use Rattle.laws.specs.Connective.{both}
use Rattle.laws.specs.Bounded.{all, any}
use Rattle.laws.specs.Lists.{joined}
use Rattle.laws.proofs.BoundedLaws.{all-ext, any-ext}
use Rattle.laws.proofs.LoopLaws.{all-begin, all-broke, all-next}
use Rattle.laws.proofs.JoinedLaws.{length-each, get_or-each}
use Rattle.files.specs.Name.{same_name, differ}
use Rattle.files.specs.Content.{byte, name_in, past_name, starts_name, past_names, at_end}
use Rattle.files.specs.DiagramLayout.{value_type_laid}
use Rattle.layouts.specs.Names.{names_laid}

-- ---- what is left

pub past-begin : (c : List ℕ) → c ≡ past_names 0 c
unfolding past_names
past-begin c = refl

pub past_next : (c : List ℕ) (i : ℕ) {r s : List ℕ} → r ≡ past_names i c → s ≡ past_name r → s ≡ past_names (i + 1) c
unfolding past_names
past_next c i e f = f ∙ ap past_name e ∙ sym (ap (λ (n : ℕ). past_names n c) (add-one i))

-- ---- whether names stand there

abbrev pub starts : List ℕ → ℕ → Bool
starts c i = starts_name (past_names i c)

pub starts-begin : (c : List ℕ) → all (starts c) 0 ≡ true
starts-begin c = all-begin (starts c)

pub starts-next : (c : List ℕ) (i : ℕ) {r : List ℕ} {b : Bool} → all (starts c) i ≡ true → r ≡ past_names i c → b ≡ starts_name r → b ≡ true → all (starts c) (i + 1) ≡ true
starts-next c i e p q t = all-next (starts c) i e (q ∙ ap starts_name p) t

pub laid-not : (c : List ℕ) (n i : ℕ) {r : List ℕ} {b : Bool} → i < n → r ≡ past_names i c → b ≡ starts_name r → b ≡ false → false ≡ names_laid c n
unfolding names_laid both
laid-not c n i h p q t = ap (λ (b : Bool). both b (at_end (past_names n c))) (all-broke (starts c) n i h (q ∙ ap starts_name p) t)

pub laid_end : (c : List ℕ) (n i : ℕ) {r : List ℕ} → i ≤ n → n ≤ i → r ≡ past_names i c → all (starts c) i ≡ true → eqb (length r) 0 ≡ names_laid c n
unfolding names_laid both at_end
laid_end c n i h l p e =
    let q : i ≡ n = le_antisymm h l in
    ap (λ (s : List ℕ). eqb (length s) 0) (p ∙ ap (λ (k : ℕ). past_names k c) q)
    ∙ sym (ap (λ (a : Bool). both a (at_end (past_names n c))) (sym (ap (all (starts c)) q) ∙ e))

pub value-type-laid-is : (c : List ℕ)
    → value_type_laid c ≡ both (starts_name c) (both (both (leb 1 (length (past_name c))) (leb (byte (past_name c) 0) 8)) (names_laid (drop 1 (past_name c)) (byte (past_name c) 0)))
unfolding value_type_laid names_laid
value-type-laid-is c = refl

-- ---- whether they differ

abbrev pub name_at : List ℕ → ℕ → List ℕ
name_at c i = name_in (past_names i c)

abbrev pub again : List ℕ → ℕ → Bool
again c i = any (λ j. same_name (name_at c j) (name_at c i)) i

pub differ-names : (c : List ℕ) (n : ℕ) → differ (joined (λ i. name_at c i ∷ []) n) ≡ all (λ i. not (again c i)) n
unfolding differ
differ-names c n =
    let ws : List (List ℕ) = joined (λ i. name_at c i ∷ []) n in
    ap (all (λ i. not (any (λ j. same_name (get_or ws j []) (get_or ws i [])) i))) (length-each (name_at c) [] n)
    ∙ all-ext _ _ n (λ i l. ap not (any-ext _ _ i (λ j k.
    ap₂ (λ (v w : List ℕ). same_name v w) (get_or-each (name_at c) [] n j (native.Mathlib.Nat.lt_trans k l)) (get_or-each (name_at c) [] n i l))))
