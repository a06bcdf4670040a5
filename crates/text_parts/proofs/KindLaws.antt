-- Which numbers of declarations are of which kind, as the code asks for them.
-- Assumes nothing.
use Rattle.std.proofs.Common.{◌≡◌, ℕ, Bool, false, true, refl, ap, ◌∙◌}
use mathlib.Core.Logic.{◌⊎◌, ⊎_elim}
use Rattle.laws.specs.Connective.{either}
use Rattle.texts.specs.Declaration.{Declaration, is_association, is_class, is_enumeration, is_interface_type, is_type}
use Rattle.text_parts.specs.declared.Kind.{Kind}
use Rattle.text_parts.specs.declared.Kind.TheVariants.{Associations, Classes, Enumerations, Interfaces, Types}
use Rattle.text_parts.specs.declared.Sort.{Sort}
use Rattle.text_parts.specs.declared.Sort.TheVariants.{AbstractClass, Association, Class, Composition, SingletonClass}
use Rattle.text_parts.specs.Sort.{kind_test, number_of, of_kind, sort_number}
use Rattle.std.specs.Prelude.{Option, None, Some}
use Rattle.std.specs.Option.{MatchOption}

pub kind-of : (k : Kind) (d : Declaration) → kind_test k d.what ≡ of_kind k d
unfolding is_association is_class is_enumeration is_interface_type is_type
kind-of Classes d = refl
kind-of Interfaces d = refl
kind-of Types d = refl
kind-of Enumerations d = refl
kind-of Associations d = refl

pub kind-at : (k : Kind) {n : ℕ} {b : Bool} → b ≡ kind_test k n → (d : Declaration) → n ≡ d.what → b ≡ of_kind k d
kind-at k e d q = e ∙ ap (λ (n : ℕ). kind_test k n) q ∙ kind-of k d

pub kind-none : (k : Kind) → false ≡ kind_test k 7
unfolding either
kind-none Classes = refl
kind-none Interfaces = refl
kind-none Types = refl
kind-none Enumerations = refl
kind-none Associations = refl

pub kind-asked : (k : Kind) (o : Option Sort) {b : Bool} {P : Sort → Type 0} → MatchOption o (b ≡ false) P → ((x : Sort) → P x → b ≡ kind_test k (sort_number x))
    → (d : Declaration) → number_of o ≡ d.what → b ≡ of_kind k d
kind-asked k None m f d q = kind-at k (m ∙ kind-none k) d q
kind-asked k (Some x) m f d q = kind-at k (f x m) d q

-- ---- classes

class-on : (k : Kind) (n : ℕ) → true ≡ kind_test Classes n → true ≡ kind_test Types n → (k ≡ Classes) ⊎ (k ≡ Types) → true ≡ kind_test k n
class-on k n p q t = ⊎_elim (λ e. rw e p) (λ e. rw e q) t

class-off : (k : Kind) (n : ℕ) → false ≡ kind_test Interfaces n → false ≡ kind_test Enumerations n → false ≡ kind_test Associations n
    → (k ≡ Classes → ⊥) → (k ≡ Types → ⊥) → false ≡ kind_test k n
class-off Classes n p q r f g = absurd (f refl)
class-off Interfaces n p q r f g = p
class-off Types n p q r f g = absurd (g refl)
class-off Enumerations n p q r f g = q
class-off Associations n p q r f g = r

module _ (k : Kind) (w : Sort) where
  pub classes-on : (w ≡ Class) ⊎ ((w ≡ AbstractClass) ⊎ (w ≡ SingletonClass)) → (k ≡ Classes) ⊎ (k ≡ Types) → true ≡ kind_test k (sort_number w)
  unfolding either
  classes-on s t =
      ⊎_elim (λ e. rw e (class-on k 0 refl refl t)) (λ r. ⊎_elim (λ e. rw e (class-on k 1 refl refl t)) (λ e. rw e (class-on k 3 refl refl t)) r) s

  pub classes-off : (w ≡ Class) ⊎ ((w ≡ AbstractClass) ⊎ (w ≡ SingletonClass)) → (k ≡ Classes → ⊥) → (k ≡ Types → ⊥) → false ≡ kind_test k (sort_number w)
  unfolding either
  classes-off s f g =
      ⊎_elim (λ e. rw e (class-off k 0 refl refl refl f g))
      (λ r. ⊎_elim (λ e. rw e (class-off k 1 refl refl refl f g)) (λ e. rw e (class-off k 3 refl refl refl f g)) r) s

  pub association-on : (w ≡ Association) ⊎ (w ≡ Composition) → k ≡ Associations → true ≡ kind_test k (sort_number w)
  unfolding either
  association-on s t = rw t (⊎_elim (λ e. rw e refl) (λ e. rw e refl) s)

  pub association-off : (w ≡ Association) ⊎ (w ≡ Composition) → (k ≡ Associations → ⊥) → false ≡ kind_test k (sort_number w)
  unfolding either
  association-off s f = ⊎_elim (λ e. rw e (five k f)) (λ e. rw e (six k f)) s
    where
      five : (k : Kind) → (k ≡ Associations → ⊥) → false ≡ kind_test k 5
      five Classes f = refl
      five Interfaces f = refl
      five Types f = refl
      five Enumerations f = refl
      five Associations f = absurd (f refl)

      six : (k : Kind) → (k ≡ Associations → ⊥) → false ≡ kind_test k 6
      six Classes f = refl
      six Interfaces f = refl
      six Types f = refl
      six Enumerations f = refl
      six Associations f = absurd (f refl)

-- ---- the others

pub interface-off : (k : Kind) → (k ≡ Interfaces → ⊥) → (k ≡ Types → ⊥) → false ≡ kind_test k 2
unfolding either
interface-off Classes f g = refl
interface-off Interfaces f g = absurd (f refl)
interface-off Types f g = absurd (g refl)
interface-off Enumerations f g = refl
interface-off Associations f g = refl

pub enumeration-off : (k : Kind) → (k ≡ Enumerations → ⊥) → false ≡ kind_test k 4
unfolding either
enumeration-off Classes f = refl
enumeration-off Interfaces f = refl
enumeration-off Types f = refl
enumeration-off Enumerations f = absurd (f refl)
enumeration-off Associations f = refl
