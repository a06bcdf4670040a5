-- Reading the file of the diagram that declarations declare gives exactly the later checks of the text, 5 and then 8.
-- Assumes nothing.
use mathlib.Core.Bool.{Bool, false, not, true}
use mathlib.Core.List.{List}
use mathlib.Core.Logic.{inr}
use mathlib.Core.Path.{◌∙◌, ◌≡◌, ap, ap₂, refl, sym}
use lib.ListN.{length}
use Rattle.laws.specs.Bounded.{any}
use Rattle.laws.specs.Connective.{either, refuse}
use Rattle.files.specs.DiagramBytes.{write_diagram}
use Rattle.files.specs.DiagramFile.{read_diagram}
use Rattle.files.specs.Name.{differ}
use Rattle.files.specs.Refusal.{accepted, or_refused}
use Rattle.files.specs.WellFormedDiagram.{WfDiagram}
use Rattle.texts.specs.Declaration.{Declaration, declaration_at, is_enumeration, is_type}
use Rattle.texts.specs.Declared.{declared, parent_names}
use Rattle.texts.specs.TextChecks.{has_twice, has_unknown, has_whole_right, is_overfull, names_of_kind}
use Rattle.texts.specs.WellFormedDeclaration.{WfDeclarations}
use Rattle.laws.proofs.BoundedLaws.{any-either}
use Rattle.files.proofs.DiagramFieldLaws.{twice_in_type, twice_in_value_type}
use Rattle.files.proofs.DiagramReadLaws.{diagram-read, diagram_has_twice}
use Rattle.files.proofs.DiagramWellFormed.{diagram-wf}
use Rattle.texts.proofs.AssociationLaws.{whole-right}
use Rattle.texts.proofs.DeclaredCountLaws.{few}
use Rattle.texts.proofs.DeclaredLaidLaws.{declared_known, declared-laid, parents-known}
use Rattle.texts.proofs.TypeLaws.{parents-twice, type-names-twice}
use Rattle.texts.proofs.ValueTypeLaws.{constants-twice, names-twice}

either-pairs : (a b c d : Bool) → either (either a c) (either b d) ≡ either a (either b (either c d))
unfolding either
either-pairs true b c d = refl
either-pairs false true true d = refl
either-pairs false true false d = refl
either-pairs false false c d = refl

module _ (ds : List Declaration) (wf : WfDeclarations ds) (known : has_unknown ds ≡ false) where
  value-types-twice : any (twice_in_value_type (declared ds)) (length (declared ds).value_types)
      ≡ either (not (differ (names_of_kind is_enumeration ds))) (any (λ k. not (differ (declaration_at ds k).constants)) (length ds))
  unfolding declared
  value-types-twice = any-either _ _ (length (declared ds).value_types) ∙ ap₂ either (names-twice ds) (constants-twice ds wf)

  types-twice : any (twice_in_type (declared ds)) (length (declared ds).types)
      ≡ either (not (differ (names_of_kind is_type ds))) (any (λ k. not (differ (parent_names (declaration_at ds k)))) (length ds))
  types-twice = any-either _ _ (length (declared ds).types) ∙ ap₂ either (type-names-twice ds) (parents-twice ds wf (parents-known ds known))

  twice : diagram_has_twice (declared ds) ≡ has_twice ds
  unfolding has_twice
  twice =
      ap₂ either value-types-twice types-twice
      ∙ either-pairs (not (differ (names_of_kind is_enumeration ds))) (not (differ (names_of_kind is_type ds))) (any (λ k. not (differ (declaration_at ds k).constants)) (length ds))
      (any (λ k. not (differ (parent_names (declaration_at ds k)))) (length ds))
      ∙ ap (λ (b : Bool). either (not (differ (names_of_kind is_enumeration ds))) (either (not (differ (names_of_kind is_type ds))) b)) (sym (any-either _ _ (length ds)))

pub text-file : (ds : List Declaration) → WfDeclarations ds → has_unknown ds ≡ false → is_overfull ds ≡ false
    → read_diagram (write_diagram 2 (declared ds)) ≡ or_refused (refuse (has_twice ds) 5 (refuse (has_whole_right ds) 8 0)) (accepted (declared ds))
text-file ds wf known e =
    diagram-read 2 (inr refl) (declared ds) (declared-laid ds wf (few ds e)) (declared_known ds known wf)
    ∙ ap₂ (λ (x y : Bool). or_refused (refuse x 5 (refuse y 8 0)) (accepted (declared ds))) (twice ds wf known) (whole-right ds)

-- a text that passes all checks declares a well-formed diagram
pub declared-wf : (ds : List Declaration) → WfDeclarations ds → has_unknown ds ≡ false → is_overfull ds ≡ false → has_twice ds ≡ false → has_whole_right ds ≡ false
    → WfDiagram (declared ds)
declared-wf ds wf known e t r =
    diagram-wf (write_diagram 2 (declared ds)) (declared ds)
    (text-file ds wf known e ∙ ap₂ (λ (x y : Bool). or_refused (refuse x 5 (refuse y 8 0)) (accepted (declared ds))) t r ∙ (unfold refuse or_refused in refl))
