-- Where no name of a tree is over 16 bytes, none of its declarations has such a name, and a name in its place is as short: a role left
-- out is as long as its type's name, and what stands for none is empty.
-- Assumes nothing.
use Prim.Native.Nat.{◌≤◌, ℕ}
use native.Mathlib.Omega.{arith}
use mathlib.Core.Bool.{false}
use mathlib.Core.List.{List, [], ◌∷◌, map}
use mathlib.Core.Path.{◌≡◌}
use lib.ListN.{get_or, length}
use borrow.Author.Tests.{ltb-false}
use Rattle.laws.specs.Lists.{member}
use Rattle.files.specs.Name.{Name}
use Rattle.texts.specs.Declaration.{DeclaredEnd, declaration_of, declarations, lowered, nothing, nowhere}
use Rattle.texts.specs.Grammar.{Item, Tree, association_item, class_item, enum_item, interface_item, item_names}
use Rattle.texts.specs.TextChecks.{has_long_name, is_long, long_items}
use Rattle.texts.specs.WellFormedDeclaration.{ShortDeclaration, ShortEnd, ShortNames}
use Rattle.laws.proofs.ConnectiveLaws.{either-neither}
use Rattle.laws.proofs.EachLaws.{Each, each_map, each-not, each-or-none, each-then}
use Rattle.texts.proofs.ItemNameLaws.{EndNames, association-names, class-names}

abbrev pub Short : Name → Type 0
Short w = length w ≤ 16

lowered-short : (w : Name) → Short w → Short (lowered w)
unfolding lowered
lowered-short [] h = h
lowered-short (x ∷ w) h = h

no_bytes : Short []
no_bytes = omega arith

-- ---- the names of a tree

not-long : (w : Name) → is_long w ≡ false → Short w
unfolding is_long
not-long w e = ltb-false 16 (length w) e

short-items : (is : List Item) → long_items is ≡ false → Each (λ i. Each Short (item_names i)) is
unfolding long_items
short-items [] e = tt
short-items (i ∷ is) e =
    let n = either-neither (member is_long (item_names i)) (long_items is) e in
    (each-not Short is_long not-long (item_names i) n.0, short-items is n.1)

pub tree-short : (t : Tree) → has_long_name t ≡ false → Each (λ i. Each Short (item_names i)) t.items
unfolding has_long_name
tree-short t e = short-items t.items (either-neither (is_long t.name) (long_items t.items) e).1

-- ---- those of its declarations

at-any : (ws : List Name) → Each Short ws → (i : ℕ) → Short (get_or ws i [])
at-any = each-or-none Short [] no_bytes

none-long : (i : ℕ) → Short (get_or {A = Name} [] i [])
none-long i = no_bytes

nowhere-short : ShortEnd nowhere
nowhere-short = record { type = no_bytes; role = no_bytes }

nothing-short : ShortDeclaration nothing
nothing-short = record {
  name = no_bytes;
  superclasses = none-long;
  interfaces = none-long;
  attribute_types = none-long;
  attribute_names = none-long;
  constants = none-long;
  left_end = nowhere-short;
  right_end = nowhere-short;
}

short-end : (e : DeclaredEnd) → EndNames Short e → ShortEnd e
short-end e n = record { type = n.type; role = n.role }

declaration-short : (i : Item) → Each Short (item_names i) → ShortDeclaration (declaration_of i)
unfolding declaration_of
declaration-short (class_item m n supers faces body) f =
    let d = declaration_of (class_item m n supers faces body) in
    let c = class-names Short m n supers faces body f in
    record {
      name = c.own;
      superclasses = at-any supers c.superclasses;
      interfaces = at-any faces c.interfaces;
      attribute_types = at-any d.attribute_types c.attribute-types;
      attribute_names = at-any d.attribute_names c.attribute-names;
      constants = none-long;
      left_end = nowhere-short;
      right_end = nowhere-short;
    }
declaration-short (interface_item n supers) f =
    let g : Each Short (n ∷ supers) = unfold item_names in f in
    record {
      name = g.0;
      superclasses = none-long;
      interfaces = at-any supers g.1;
      attribute_types = none-long;
      attribute_names = none-long;
      constants = none-long;
      left_end = nowhere-short;
      right_end = nowhere-short;
    }
declaration-short (enum_item n constants) f =
    let g : Each Short (n ∷ constants) = unfold item_names in f in
    record {
      name = g.0;
      superclasses = none-long;
      interfaces = none-long;
      attribute_types = none-long;
      attribute_names = none-long;
      constants = at-any constants g.1;
      left_end = nowhere-short;
      right_end = nowhere-short;
    }
declaration-short (association_item c l a r) f =
    let g = association-names Short lowered-short c l a r f in
    record {
      name = no_bytes;
      superclasses = none-long;
      interfaces = none-long;
      attribute_types = none-long;
      attribute_names = none-long;
      constants = none-long;
      left_end = short-end _ g.0;
      right_end = short-end _ g.1;
    }

pub short-names : (t : Tree) → has_long_name t ≡ false → ShortNames (declarations t)
unfolding declarations
short-names t e = record {
  each =
      each-or-none ShortDeclaration nothing nothing-short (map declaration_of t.items)
      (each_map ShortDeclaration declaration_of t.items
      (each-then (λ i. Each Short (item_names i)) (λ i. ShortDeclaration (declaration_of i)) declaration-short t.items (tree-short t e)));
}
