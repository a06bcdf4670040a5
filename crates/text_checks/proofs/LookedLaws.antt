-- A name looked for among the declarations of a kind.
-- Assumes nothing.
use mathlib.Core.Path.{◌≡◌, ap, ◌∙◌}
use mathlib.Core.Bool.{Bool, false, true}
use mathlib.Core.List.{List}
use Prim.Native.Nat.{ℕ, ◌+◌, ◌<◌, ◌≤◌}
use Rattle.laws.specs.Bounded.{any}
use Rattle.laws.proofs.LoopLaws.{any-done, any_found, any_next}
use Rattle.files.specs.Name.{Name}
use Rattle.texts.specs.Declaration.{Declaration, declaration_at}
use Rattle.texts.specs.TextChecks.{is_declared}
use Rattle.text_parts.specs.declared.Kind.{Kind}
use Rattle.text_parts.specs.Sort.{of_kind}
use Rattle.text_checks.specs.Kinds.{declared_as}

-- declaration j is of that kind and has the name w
abbrev pub declared_at : Kind → List Declaration → Name → ℕ → Bool
declared_at kind ds w j = declared_as kind w (declaration_at ds j)

-- a loop over the first k leaves at the first that has it: none before j has
module _ (kind : Kind) (ds : List Declaration) (w : Name) (j : ℕ) where
  module _ (d : Declaration) {r : Bool} (e : d ≡ declaration_at ds j) (q : r ≡ declared_as kind w d) where
    pub looked-found : {k : ℕ} → j < k → r ≡ true → true ≡ is_declared (of_kind kind) ds k w
    unfolding is_declared
    looked-found {k} h t = any_found (declared_at kind ds w) k j h (q ∙ ap (declared_as kind w) e) t

    pub looked-next : any (declared_at kind ds w) j ≡ false → r ≡ false → any (declared_at kind ds w) (j + 1) ≡ false
    looked-next f t = any_next (declared_at kind ds w) j f (q ∙ ap (declared_as kind w) e) t

  pub looked-done : {k : ℕ} → j ≤ k → k ≤ j → any (declared_at kind ds w) j ≡ false → false ≡ is_declared (of_kind kind) ds k w
  unfolding is_declared
  looked-done {k} h l f = any-done (declared_at kind ds w) k j h l f
