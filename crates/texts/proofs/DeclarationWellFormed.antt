-- The declarations of a text that passes check 23 are well formed, each by itself: a name is a word of at most 16 bytes, a role left
-- out is its type's name with its first byte lowered, a name too, and no limits are forbidden.
-- Assumes nothing.
use Prim.Native.Nat.{◌≤◌, suc, ℕ}
use native.Mathlib.Omega.{arith}
use mathlib.Core.Bool.{false, false≢true, true, true≢false}
use mathlib.Core.List.{List, [], ◌∷◌, map}
use mathlib.Core.Option.{Option}
use mathlib.Core.Path.{◌≡◌, ap, refl}
use lib.ListN.{length}
use Rattle.laws.specs.Connective.{either}
use Rattle.files.specs.Name.{Name}
use Rattle.texts.specs.Declaration.{Declaration, DeclaredEnd, arrow_of, attributes_of, declaration_at, declaration_of, declarations, end_of, form_of, is_association, is_enumeration, is_interface_type, is_type, kind_of, nothing}
use Rattle.texts.specs.Grammar.{Arrow, Belongs, Form, Item, Modifier, TextAttribute, TextEnd, Tree, abstract, association, association_item, both_ways, class_item, composition, enum_item, interface_item, item_names, left, no-head, plain, right, singleton}
use Rattle.texts.specs.TextChecks.{ends_forbidden, has_forbidden, has_long_name, limits_forbidden}
use Rattle.texts.specs.WellFormedDeclaration.{ValidNames, WfDeclaration, WfDeclarations, WfDeclaredEnd}
use Rattle.laws.proofs.BoundedLaws.{any-no}
use Rattle.laws.proofs.ConnectiveLaws.{either-neither, true-false}
use Rattle.laws.proofs.EachLaws.{Each, each_at, each_map, each-then}
use Rattle.texts.proofs.ItemNameLaws.{EndNames, association-names, class-names}
use Rattle.texts.proofs.ValidNameLaws.{Valid, lowered-valid, names-valid}

-- ---- what an item declares

named : (ws : List Name) → Each Valid ws → ValidNames ws
named ws f = record { each = each_at Valid [] ws f }

none_named : ValidNames []
none_named = named [] tt

paired : (list : List TextAttribute) → length (map (λ a. a.name) list) ≡ length (map (λ a. a.type) list)
paired [] = refl
paired (a ∷ rest) = ap suc (paired rest)

class-wf : (m : Modifier) (n : Name) (supers faces : List Name) (body : Option (List TextAttribute)) → Each Valid (item_names (class_item m n supers faces body))
    → WfDeclaration (declaration_of (class_item m n supers faces body))
unfolding declaration_of
class-wf m n supers faces body f =
    let d = declaration_of (class_item m n supers faces body) in
    let c = class-names Valid m n supers faces body f in
    record {
      type-named = λ e. c.own;
      enumeration-named = λ e. c.own;
      used-named = named d.attribute_types c.attribute-types;
      attributes-named = named d.attribute_names c.attribute-names;
      attributes-paired = paired (attributes_of body);
      constants-named = none_named;
      arrow-first = λ e. absurd (true-false e (no-association m));
      arrow-last = λ e. absurd (true-false e (no-association m));
      left-fits = λ e. absurd (true-false e (no-association m));
      right-fits = λ e. absurd (true-false e (no-association m));
      no-superclasses = λ e. absurd (true-false (is-type m) e);
      no-interfaces = λ e. absurd (true-false (is-type m) e);
      no-attributes = λ e. absurd (true-false (is-type m) e);
      no-constants = λ e. refl;
      interface-alone = λ e. absurd (true-false e (no-interface m));
    }
  where
    is-type : (m : Modifier) → is_type (declaration_of (class_item m n supers faces body)) ≡ true
    is-type plain = unfold is_type kind_of in refl
    is-type abstract = unfold is_type kind_of in refl
    is-type singleton = unfold is_type kind_of in refl

    no-interface : (m : Modifier) → is_interface_type (declaration_of (class_item m n supers faces body)) ≡ false
    no-interface plain = unfold is_interface_type kind_of in refl
    no-interface abstract = unfold is_interface_type kind_of in refl
    no-interface singleton = unfold is_interface_type kind_of in refl

    no-association : (m : Modifier) → is_association (declaration_of (class_item m n supers faces body)) ≡ false
    no-association plain = unfold is_association kind_of either in refl
    no-association abstract = unfold is_association kind_of either in refl
    no-association singleton = unfold is_association kind_of either in refl

interface-wf : (n : Name) (supers : List Name) → Each Valid (item_names (interface_item n supers)) → WfDeclaration (declaration_of (interface_item n supers))
unfolding declaration_of item_names is_type is_association either
interface-wf n supers f = record {
  type-named = λ e. f.0;
  enumeration-named = λ e. f.0;
  used-named = none_named;
  attributes-named = none_named;
  attributes-paired = refl;
  constants-named = none_named;
  arrow-first = λ e. absurd (false≢true e);
  arrow-last = λ e. absurd (false≢true e);
  left-fits = λ e. absurd (false≢true e);
  right-fits = λ e. absurd (false≢true e);
  no-superclasses = λ e. refl;
  no-interfaces = λ e. absurd (true≢false e);
  no-attributes = λ e. refl;
  no-constants = λ e. refl;
  interface-alone = λ e. refl;
}

enum-wf : (n : Name) (constants : List Name) → Each Valid (item_names (enum_item n constants)) → WfDeclaration (declaration_of (enum_item n constants))
unfolding declaration_of item_names is_enumeration is_association either
enum-wf n constants f = record {
  type-named = λ e. f.0;
  enumeration-named = λ e. f.0;
  used-named = none_named;
  attributes-named = none_named;
  attributes-paired = refl;
  constants-named = named constants f.1;
  arrow-first = λ e. absurd (false≢true e);
  arrow-last = λ e. absurd (false≢true e);
  left-fits = λ e. absurd (false≢true e);
  right-fits = λ e. absurd (false≢true e);
  no-superclasses = λ e. refl;
  no-interfaces = λ e. refl;
  no-attributes = λ e. refl;
  no-constants = λ e. absurd (true≢false e);
  interface-alone = λ e. refl;
}

-- ---- associations

arrow-numbers : (a : Arrow) → (1 ≤ arrow_of a) × (arrow_of a ≤ 4)
unfolding arrow_of
arrow-numbers right = (omega arith, omega arith)
arrow-numbers left = (omega arith, omega arith)
arrow-numbers both_ways = (omega arith, omega arith)
arrow-numbers no-head = (omega arith, omega arith)

end-wf : (e : DeclaredEnd) → EndNames Valid e → limits_forbidden e.limits ≡ false → WfDeclaredEnd e
end-wf e n l = record { role-named = n.role; limits-allowed = l }

association-wf : (c : Form) (l : TextEnd) (a : Arrow) (r : TextEnd) → Each Valid (item_names (association_item c l a r))
    → ends_forbidden (declaration_of (association_item c l a r)) ≡ false → WfDeclaration (declaration_of (association_item c l a r))
unfolding declaration_of ends_forbidden
association-wf c l a r f e =
    let g = association-names Valid lowered-valid c l a r f in
    let allowed = either-neither (limits_forbidden (end_of l).limits) (limits_forbidden (end_of r).limits) e in
    record {
      type-named = λ h. absurd (true-false h (no-type c));
      enumeration-named = λ h. absurd (true-false h (no-enumeration c));
      used-named = none_named;
      attributes-named = none_named;
      attributes-paired = refl;
      constants-named = none_named;
      arrow-first = λ h. (arrow-numbers a).0;
      arrow-last = λ h. (arrow-numbers a).1;
      left-fits = λ h. end-wf (end_of l) g.0 allowed.0;
      right-fits = λ h. end-wf (end_of r) g.1 allowed.1;
      no-superclasses = λ h. refl;
      no-interfaces = λ h. refl;
      no-attributes = λ h. refl;
      no-constants = λ h. refl;
      interface-alone = λ h. refl;
    }
  where
    no-type : (c : Form) → is_type (declaration_of (association_item c l a r)) ≡ false
    no-type association = unfold is_type form_of in refl
    no-type composition = unfold is_type form_of in refl

    no-enumeration : (c : Form) → is_enumeration (declaration_of (association_item c l a r)) ≡ false
    no-enumeration association = unfold is_enumeration form_of in refl
    no-enumeration composition = unfold is_enumeration form_of in refl

-- ---- all of them

abbrev WfWhereAllowed : Declaration → Type 0
WfWhereAllowed d = ends_forbidden d ≡ false → WfDeclaration d

item-wf : (i : Item) → Each Valid (item_names i) → ends_forbidden (declaration_of i) ≡ false → WfDeclaration (declaration_of i)
item-wf (class_item m n supers faces body) f e = class-wf m n supers faces body f
item-wf (interface_item n supers) f e = interface-wf n supers f
item-wf (enum_item n constants) f e = enum-wf n constants f
item-wf (association_item c l a r) f e = association-wf c l a r f e

pub belongs-wf : (s : List ℕ) (t : Tree) → Belongs s t → has_long_name t ≡ false → has_forbidden (declarations t) ≡ false → WfDeclarations (declarations t)
unfolding declarations has_forbidden
belongs-wf s t b e h =
    let ds = map declaration_of t.items in
    let fit : Each WfWhereAllowed ds =
    each_map WfWhereAllowed declaration_of t.items
    (each-then (λ i. Each Valid (item_names i)) (λ i. WfWhereAllowed (declaration_of i)) item-wf t.items (names-valid s t b e)) in
    record { each = λ k l. each_at WfWhereAllowed nothing ds fit k l (any-no (λ j. ends_forbidden (declaration_at ds j)) (length ds) h k l) }
