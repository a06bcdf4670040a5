-- Searches for worlds that do not keep something, one after the other.
-- Assumes nothing.
use Prim.Native.Nat.{ℕ}
use mathlib.Core.Path.{◌∙◌, ◌≡◌}
use mathlib.Core.Bool.{Bool, false, true}
use Rattle.laws.proofs.ConnectiveLaws.{true-false}
use Rattle.growing.specs.World.{World}
use Rattle.worlds.specs.declared.Query.{Query}
use Rattle.worlds.specs.Kept.{Allowed, Sheet}
use Rattle.worlds.specs.Asked.{Answers, Satisfies, Breaks, Solution}

-- all allowed worlds of n objects keep K
abbrev pub Throughout : Sheet → (World → Type 0) → ℕ → Type 0
Throughout x K n = (w : World) → Allowed x w → w.size ≡ n → K w

module _ (x : Sheet) (n : ℕ) (ok : Bool) (m : World) where
  -- a world that does not keep a part of K
  pub breaks-hit : (K L : World → Type 0) → ok ≡ true → ((w : World) → K w → L w) → Breaks x L n ok m → Breaks x K n ok m
  breaks-hit K L e f b =
      record { allowed = b.allowed; size = b.size; broken = λ t k. b.broken t (f m k); kept = λ t. absurd (true-false e t) }

  -- nothing is found, and nothing is to be found
  pub breaks-none : (K : World → Type 0) → ok ≡ false → Throughout x K n → Breaks x K n ok m
  breaks-none K e f =
      record { allowed = λ t. absurd (true-false t e); size = λ t. absurd (true-false t e); broken = λ t. absurd (true-false t e); kept = λ _. f }

  -- the last part of K: all worlds keep the others
  pub breaks-last : (K L : World → Type 0) → ((w : World) → K w → L w) → ((w : World) → Allowed x w → w.size ≡ n → L w → K w) → Breaks x L n ok m → Breaks x K n ok m
  breaks-last K L f g b =
      record { allowed = b.allowed; size = b.size; broken = λ t k. b.broken t (f m k); kept = λ t w a e. g w a e (b.kept t w a e) }

  -- a query that asks for what K rules out: a world that keeps K is not asked for, and one of which no numbering is asked for keeps K
  pub breaks-query : (K : World → Type 0) (q : Query) → ((w : World) → Allowed x w → Satisfies q w → K w → ⊥)
      → ((w : World) → Allowed x w → ((v : World) → Allowed x v → v.size ≡ w.size → Satisfies q v → ⊥) → K w)
      → Answers (Solution x q n) ok m → Breaks x K n ok m
  breaks-query K q sound complete a = record {
    allowed = λ t. (a.sound t).allowed;
    size = λ t. (a.sound t).size;
    broken = λ t. sound m (a.sound t).allowed (a.sound t).asked;
    kept = λ t w h e. complete w h (λ v g z s. a.complete t v (record { allowed = g; asked = s; size = z ∙ e }));
  }

  -- another name for K, among allowed worlds
  pub breaks-same : (K L : World → Type 0) → ((w : World) → Allowed x w → K w → L w) → ((w : World) → Allowed x w → L w → K w) → Breaks x L n ok m → Breaks x K n ok m
  breaks-same K L f g b =
      record { allowed = b.allowed; size = b.size; broken = λ t k. b.broken t (f m (b.allowed t) k); kept = λ t w a e. g w a (b.kept t w a e) }
