-- A limit as read: the definition's number, whose low byte, a byte of the file, is below 256.
-- Assumes nothing.
use Prim.Native.Nat.{ℕ, ◌*◌, ◌+◌, ◌<◌}
use mathlib.Core.Bool.{Bool, ◌&&◌, true}
use mathlib.Core.List.{List}
use mathlib.Core.Path.{◌≡◌, ap, ap₂, sym, ◌∙◌}
use lib.Dec.{ltb}
use lib.ListN.{drop, get_or}
use borrow.Author.Tests.{eq-eqb, lt-ltb, ne_eqb}
use Rattle.laws.specs.Connective.{both, imp}
use Rattle.files.specs.Content.{starts_name}
use Rattle.files.specs.DiagramLayout.{end_laid}
use Rattle.files.specs.Limit.{limit_at, limit_written, limits_end, limits_laid, up_start}

module _ (e : ℕ) (c : List ℕ) where
  -- what is promised of a limit that is read
  abbrev Reads : ℕ → ℕ → Type 0
  Reads i r = (r ≡ limit_at e c i) × (limit_written e c i ≡ true)

  pub limit-wide : (i h l : ℕ) {r : ℕ} → e ≡ 2 → h ≡ get_or c i 0 → l ≡ get_or c (i + 1) 0 → l < 256 → r ≡ h * 256 + l → Reads i r
  unfolding limit_at limit_written imp
  limit-wide i h l q eh el k er =
      (rw (eq-eqb e 2 q) (er ∙ ap₂ (λ (a b : ℕ). a * 256 + b) eh el), rw (eq-eqb e 2 q) (ap (λ (n : ℕ). ltb n 256) (sym el) ∙ lt-ltb l 256 k))

  pub limit-narrow : (i b : ℕ) {r : ℕ} → (e ≡ 2 → ⊥) → b ≡ get_or c i 0 → r ≡ b → Reads i r
  unfolding limit_at limit_written imp
  limit-narrow i b q eb er = (rw (ne_eqb e 2 q) (er ∙ eb), rw (ne_eqb e 2 q))

  -- what is left of an end's layout once its limits are known to be written in bytes
  pub end_is : {low up : ℕ} {role : List ℕ} {a b : Bool} → Reads 1 low → Reads (up_start e) up → a ≡ limits_laid e low up → role ≡ drop (limits_end e) c
      → b ≡ starts_name role → a && b ≡ end_laid e c
  unfolding end_laid both
  end_is l u ea er eb =
      rw (l.1, u.1) (ap₂ (λ (x y : Bool). x && y) (ea ∙ ap₂ (limits_laid e) l.0 u.0) (eb ∙ ap starts_name er))
