-- What holds of each name of an item holds of each name that it declares: of those of its attributes, and of its ends' types and
-- roles, where it also holds of a name whose first byte is lowered.
-- Assumes nothing.
use mathlib.Core.List.{List, [], ◌++◌, ◌∷◌, map}
use mathlib.Core.Option.{Option, none, some}
use Rattle.files.specs.Name.{Name}
use Rattle.texts.specs.Declaration.{DeclaredEnd, attributes_of, end_of, lowered, role_of}
use Rattle.texts.specs.Grammar.{Arrow, Form, Modifier, TextAttribute, TextEnd, association_item, attribute_names, body_names, class_item, item_names, optional}
use Rattle.laws.proofs.EachLaws.{Each, each_back, each-front}

module _ (P : Name → Type 0) where
  -- ---- attributes

  types-hold : (list : List TextAttribute) → Each P (attribute_names list) → Each P (map (λ a. a.type) list)
  unfolding attribute_names
  types-hold [] f = tt
  types-hold (a ∷ rest) f = (f.0, types-hold rest f.1.1)

  names-hold : (list : List TextAttribute) → Each P (attribute_names list) → Each P (map (λ a. a.name) list)
  unfolding attribute_names
  names-hold [] f = tt
  names-hold (a ∷ rest) f = (f.1.0, names-hold rest f.1.1)

  body-types : (body : Option (List TextAttribute)) → Each P (body_names body) → Each P (map (λ a. a.type) (attributes_of body))
  body-types none f = tt
  body-types (some list) f = types-hold list f

  body-names : (body : Option (List TextAttribute)) → Each P (body_names body) → Each P (map (λ a. a.name) (attributes_of body))
  body-names none f = tt
  body-names (some list) f = names-hold list f

  pub record ClassNames (name : Name) (supers faces types names : List Name) : Type 0 where
    pub own : P name
    pub superclasses : Each P supers
    pub interfaces : Each P faces
    pub attribute-types : Each P types
    pub attribute-names : Each P names

  pub class-names : (m : Modifier) (n : Name) (supers faces : List Name) (body : Option (List TextAttribute)) → Each P (item_names (class_item m n supers faces body))
      → ClassNames n supers faces (map (λ a. a.type) (attributes_of body)) (map (λ a. a.name) (attributes_of body))
  unfolding item_names
  class-names m n supers faces body f =
      let g = each_back P supers (faces ++ body_names body) f.1 in
      let h = each_back P faces (body_names body) g in
      record {
        own = f.0;
        superclasses = each-front P supers (faces ++ body_names body) f.1;
        interfaces = each-front P faces (body_names body) g;
        attribute-types = body-types body h;
        attribute-names = body-names body h;
      }

  -- ---- ends

  pub record EndNames (e : DeclaredEnd) : Type 0 where
    pub type : P e.type
    pub role : P e.role

  module _ (lowers : (w : Name) → P w → P (lowered w)) where
    end-names : (e : TextEnd) → Each P (optional e.role) → P e.type → EndNames (end_of e)
    unfolding end_of role_of
    end-names e f p = record { type = p; role = go e.role f }
      where
        go : (o : Option Name) → Each P (optional o) → P (role_of o e.type)
        go none f = lowers e.type p
        go (some w) f = f.0

    pub association-names : (c : Form) (l : TextEnd) (a : Arrow) (r : TextEnd) → Each P (item_names (association_item c l a r)) → EndNames (end_of l) × EndNames (end_of r)
    unfolding item_names
    association-names c l a r f =
        let rest = optional r.role ++ (r.type ∷ []) in
        let g = each_back P (optional l.role) rest f.1 in (
          end-names l (each-front P (optional l.role) rest f.1) f.0,
          end-names r (each-front P (optional r.role) (r.type ∷ []) g) (each_back P (optional r.role) (r.type ∷ []) g).0,
        )
