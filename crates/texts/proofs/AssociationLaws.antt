-- The associations that declarations declare: both ends of each are known, and one is a composition with its whole on the right
-- exactly if one is so declared.
-- Assumes nothing.
use Prim.Native.Nat.{◌-◌, ◌<◌, ◌≤◌, ℕ}
use native.Mathlib.Nat.{le_refl}
use native.Mathlib.Omega.{arith}
use mathlib.Core.Bool.{Bool, ◌&&◌, false, true}
use mathlib.Core.List.{List}
use mathlib.Core.Logic.{⊎_elim}
use mathlib.Core.Path.{◌∙◌, ◌≡◌, ap, refl, subst, sym}
use lib.Dec.{eqb}
use lib.ListN.{length}
use borrow.Author.Tests.{eq-eqb, eqb-true, ltb-false, not-false}
use Rattle.laws.specs.Bounded.{any}
use Rattle.laws.specs.Connective.{both}
use Rattle.files.specs.Diagram.{Upper, association_at, at_most, is_composition, no_limit}
use Rattle.files.specs.WellFormedDiagram.{FitsUpper}
use Rattle.texts.specs.Declaration.{Declaration, DeclaredEnd, declaration_at, is_association, is_type}
use Rattle.texts.specs.Declared.{association_of, declared, end_in, type_index}
use Rattle.texts.specs.TextChecks.{has_unknown_end, has_whole_right, limits_forbidden, upper_forbidden}
use Rattle.texts.specs.WellFormedDeclaration.{WfDeclarations, WfDeclaredEnd}
use Rattle.laws.proofs.BoundedLaws.{any-ext}
use Rattle.laws.proofs.ConnectiveLaws.{both-no-right, either-cases, either-neither, either-right, known, same_test}
use Rattle.laws.proofs.PickedLaws.{any-picked, picked-each}
use Rattle.files.proofs.LaidDiagram.{KnownEnds, LaidAssociation, LaidEnd}
use Rattle.texts.proofs.DeclaredCountLaws.{types-counted}
use Rattle.texts.proofs.TypeIndexLaws.{Known, known-declared, type-index-below}

upper-allowed : (low : ℕ) (up : Upper) → upper_forbidden low up ≡ false → FitsUpper 2 low up
unfolding upper_forbidden
upper-allowed low (at_most up) e = let a = either-neither _ _ e in (ltb-false up low a.1, omega (arith, ltb-false _ up a.0))
upper-allowed low no_limit e = tt

association-what : (d : Declaration) → is_association d ≡ true → d.what - 5 ≤ 1
unfolding is_association
association-what d e =
    ⊎_elim (λ h. let q : d.what ≡ 5 = eqb-true d.what 5 h in omega arith) (λ h. let q : d.what ≡ 6 = eqb-true d.what 6 h in omega arith) (either-cases _ _ e)

composition-what : (n : ℕ) → eqb (n - 5) 1 ≡ eqb n 6
composition-what n =
    same_test _ _ (λ e. let q : n - 5 ≡ 1 = eqb-true (n - 5) 1 e in eq-eqb n 6 (omega arith)) (λ e. let q : n ≡ 6 = eqb-true n 6 e in eq-eqb (n - 5) 1 (omega arith))

composition-is : (d : Declaration) → eqb d.what 6 ≡ true → is_association d ≡ true
unfolding is_association
composition-is d e = either-right _ _ e

-- a test that implies another, beside it
under : (a b c : Bool) → (b ≡ true → a ≡ true) → a && both b c ≡ both b c
unfolding both
under a true c f = ap (λ (x : Bool). x && c) (f refl)
under true false c f = refl
under false false c f = refl

module _ (ds : List Declaration) where
  end-laid : (e : DeclaredEnd) → WfDeclaredEnd e → LaidEnd 2 (end_in ds e)
  unfolding end_in limits_forbidden
  end-laid e f =
      let a = either-neither _ _ f.limits-allowed in
      record { limits-fit = record { low-fits = omega (arith, ltb-false _ _ a.0); up-fits = upper-allowed _ _ a.1 }; role-named = f.role-named }

  pub association-laid : WfDeclarations ds → (i : ℕ) → i < length (declared ds).associations → LaidAssociation 2 (association_at (declared ds) i)
  unfolding declared
  association-laid f =
      picked-each (LaidAssociation 2) (λ k. is_association (declaration_at ds k)) (association_of ds) _ (length ds) (λ k l a.
      let g = f.each k l in
      record {
        form-known = association-what (declaration_at ds k) a;
        arrow-first = g.arrow-first a;
        arrow-last = g.arrow-last a;
        left_laid = end-laid _ (g.left-fits a);
        right-laid = end-laid _ (g.right-fits a);
      })

  end_known : (e : DeclaredEnd) → Known ds e.type (length ds) → (end_in ds e).type < length (declared ds).types
  unfolding end_in
  end_known e k = subst (λ (n : ℕ). type_index ds e.type < n) (sym (types-counted ds)) (type-index-below ds e.type (length ds) k)

  ends-known : (k : ℕ) → has_unknown_end ds k ≡ false → is_association (declaration_at ds k) ≡ true
      → Known ds (declaration_at ds k).left_end.type (length ds) × Known ds (declaration_at ds k).right_end.type (length ds)
  unfolding has_unknown_end
  ends-known k e a =
      let b = either-neither _ _ (both-no-right _ _ e a) in (
        known-declared ds is_type (λ d t. t) (length ds) (le_refl _) _ (not-false _ b.0),
        known-declared ds is_type (λ d t. t) (length ds) (le_refl _) _ (not-false _ b.1),
      )

  pub association-known : ((k : ℕ) → k < length ds → has_unknown_end ds k ≡ false)
      → (i : ℕ) → i < length (declared ds).associations → KnownEnds (declared ds) (association_at (declared ds) i)
  unfolding declared
  association-known known =
      picked-each (KnownEnds (declared ds)) (λ k. is_association (declaration_at ds k)) (association_of ds) _ (length ds) (λ k l a.
      let e = ends-known k (known k l) a in record { left-known = end_known _ e.0; right-known = end_known _ e.1 })

  pub whole-right : any (λ i. both (is_composition (association_at (declared ds) i)) (eqb (association_at (declared ds) i).arrow 2)) (length (declared ds).associations)
      ≡ has_whole_right ds
  unfolding declared has_whole_right is_composition
  whole-right =
      any-picked (λ a. both (is_composition a) (eqb a.arrow 2)) (λ k. is_association (declaration_at ds k)) (association_of ds) _ (length ds)
      ∙ any-ext _ _ (length ds) (λ k l.
      let d = declaration_at ds k in
      ap (λ (b : Bool). is_association d && both b (eqb d.arrow 2)) (composition-what d.what) ∙ under (is_association d) (eqb d.what 6) (eqb d.arrow 2) (composition-is d))
