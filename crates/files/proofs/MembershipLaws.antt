-- What a record has, it has for every name of one key; and a value or a link that it has is one of its own up to its names' keys.
-- Assumes nothing.
use Prim.Native.Nat.{◌<◌, ℕ}
use mathlib.Core.Bool.{Bool, true}
use mathlib.Core.Path.{◌≡◌, ap, refl}
use lib.Dec.{eqb}
use lib.ListN.{length}
use borrow.Author.Tests.{eq-eqb, eqb-true}
use Rattle.laws.specs.Connective.{both}
use Rattle.laws.proofs.BoundedLaws.{any_at, any-ext, any_of}
use Rattle.laws.proofs.ConnectiveLaws.{both_left, both_of, both_right}
use Rattle.files.specs.Membership.{has_link, has_value, is_valued, same_value}
use Rattle.files.specs.Name.{Name, key, same_name}
use Rattle.files.specs.Record.{Link, Record, Value, link_at, value_at}
use Rattle.files.proofs.NameLaws.{same_key, same-right, same_self}

-- one value, one link, up to the keys of their names
abbrev pub AlikeValue : Value → Value → Type 0
AlikeValue v w =
    (v.object ≡ w.object) × (key v.attribute ≡ key w.attribute) × (key v.value_type ≡ key w.value_type) × (key v.constant ≡ key w.constant)

abbrev pub AlikeLink : Link → Link → Type 0
AlikeLink k l = (k.from ≡ l.from) × (key k.role ≡ key l.role) × (k.to ≡ l.to)

-- ---- names of one key

module _ (r : Record) where
  pub value-alike : (o : ℕ) (v w : Name) → key v ≡ key w → has_value r o v ≡ has_value r o w
  unfolding has_value
  value-alike o v w e = any-ext _ _ (length r.values) (λ i l. ap (both (eqb (value_at r i).object o)) (same-right (value_at r i).attribute v w e))

  pub link-alike : (o : ℕ) (v w : Name) (p : ℕ) → key v ≡ key w → has_link r o v p ≡ has_link r o w p
  unfolding has_link
  link-alike o v w p e =
      any-ext _ _ (length r.links) (λ i l.
      ap (λ (b : Bool). both (eqb (link_at r i).from o) (both b (eqb (link_at r i).to p))) (same-right (link_at r i).role v w e))

-- ---- what a record has is one of its own

same-value-self : (v : Value) → same_value v v ≡ true
unfolding same_value
same-value-self v =
    both_of _ _ (eq-eqb v.object v.object refl)
    (both_of _ _ (same_self v.attribute) (both_of _ _ (same_self v.value_type) (same_self v.constant)))

same-value-alike : (v w : Value) → same_value v w ≡ true → AlikeValue v w
unfolding same_value
same-value-alike v w h =
    let h2 = both_right (eqb v.object w.object) _ h in
    let h3 = both_right (same_name v.attribute w.attribute) _ h2 in
    (eqb-true _ _ (both_left _ _ h), same_key _ _ (both_left _ _ h2), same_key _ _ (both_left _ _ h3), same_key _ _ (both_right _ _ h3))

module _ (r : Record) where
  pub valued-at : (i : ℕ) → i < length r.values → is_valued r (value_at r i) ≡ true
  unfolding is_valued
  valued-at i l = any_of (λ j. same_value (value_at r j) (value_at r i)) (length r.values) i l (same-value-self (value_at r i))

  pub linked-at : (i : ℕ) → i < length r.links → has_link r (link_at r i).from (link_at r i).role (link_at r i).to ≡ true
  unfolding has_link
  linked-at i l =
      let k : Link = link_at r i in
      any_of (λ j. both (eqb (link_at r j).from k.from) (both (same_name (link_at r j).role k.role) (eqb (link_at r j).to k.to))) (length r.links) i l
      (both_of _ _ (eq-eqb k.from k.from refl) (both_of _ _ (same_self k.role) (eq-eqb k.to k.to refl)))

  pub value-of : (v : Value) → is_valued r v ≡ true → (i : ℕ) × (i < length r.values) × AlikeValue (value_at r i) v
  unfolding is_valued
  value-of v e =
      let i = any_at (λ i. same_value (value_at r i) v) (length r.values) e in
      (i.0, i.1, same-value-alike (value_at r i.0) v i.2)

  pub link-of : (k : Link) → has_link r k.from k.role k.to ≡ true → (i : ℕ) × (i < length r.links) × AlikeLink (link_at r i) k
  unfolding has_link
  link-of k e =
      let i = any_at (λ i. both (eqb (link_at r i).from k.from) (both (same_name (link_at r i).role k.role) (eqb (link_at r i).to k.to))) (length r.links) e in
      let rest = both_right (eqb (link_at r i.0).from k.from) _ i.2 in
      (i.0, i.1, (eqb-true _ _ (both_left _ _ i.2), same_key _ _ (both_left _ _ rest), eqb-true _ _ (both_right _ _ rest)))
