-- Attributes and associations in memory with one more at the end; an upper limit as it is kept.
-- Assumes nothing.
use mathlib.Core.Path.{◌≡◌, sym, ap, ◌∙◌, subst}
use mathlib.Core.Bool.{true}
use Prim.Native.Nat.{ℕ, ◌+◌, ◌*◌, ◌≤◌, ◌<◌}
use native.Mathlib.Omega.{arith}
use mathlib.Core.List.{List}
use lib.ListN.{length, get_or, drop, set}
use borrow.Author.Tests.{eq-eqb, ne_eqb}
use Rattle.laws.proofs.ConnectiveLaws.{both_left, both_right}
use Rattle.laws.proofs.JoinedLaws.{listed_more}
use Rattle.laws.proofs.ListLaws.{set-kept, set_is}
use Rattle.files.specs.Content.{name_in, past_name}
use Rattle.files.specs.DiagramLayout.{association_laid, association_of, attribute_laid, attribute_of, end_laid, end_of, past_end}
use Rattle.files.specs.Limit.{limit_at, limits_end, none_of, up_start, upper_of}
use Rattle.diagrams.specs.declared.Attributes.{Attributes}
use Rattle.diagrams.specs.declared.Associations.{Associations}
use Rattle.diagrams.specs.View.{association_in, associations_of, attribute_in, attributes_of, end_in, upper_in}
use Rattle.loading.specs.Stored.{NameStored, AttributeFits, AttributeStored, EndStored, AssociationFits, AssociationStored}
use Rattle.files.proofs.EndLaws.{none-wide, up-most}
use Rattle.loading.proofs.SlotLaws.{name-short}

-- ---- attributes

pub attribute-name-short : (a : Attributes) (c : List ℕ) {s w : List ℕ} → AttributeFits a c → s ≡ drop 1 c → w ≡ name_in s → length w ≤ 16
unfolding attribute_laid
attribute-name-short a c f p q = subst (λ (x : List ℕ). length x ≤ 16) (sym (q ∙ ap name_in p)) (name-short (drop 1 c) (both_left _ _ f.laid))

pub attribute-stored : (a r : Attributes) (c : List ℕ) {s w rest : List ℕ} {x y : ℕ} → AttributeFits a c → length a.owners ≡ 32 → length a.types ≡ 32
    → s ≡ drop 1 c → w ≡ name_in s → rest ≡ past_name s → x ≡ get_or c 0 0 → y ≡ get_or rest 0 0 → r.count ≡ a.count + 1
    → r.owners ≡ set a.owners a.count x → NameStored a.names a.count w r.names → r.types ≡ set a.types a.count y → AttributeStored a c r
unfolding attributes_of attribute_in attribute_of
attribute-stored a r c {x = x} {y = y} fits m n p q e f g count owners names types = record {
  count = count;
  says = listed_more (attribute_in r) (attribute_in a) a.count r.count (attribute_of c) count
      (λ i l. cc (set-kept a.owners r.owners a.count x i owners l, names.kept i l, set-kept a.types r.types a.count y i types l))
      (let k : a.count < length a.owners = omega (arith, fits.room) in
      let j : a.count < length a.types = omega (arith, fits.room) in
      cc (set_is a.owners r.owners a.count x owners k, names.is, set_is a.types r.types a.count y types j));
}

-- ---- limits

module _ (edition up none : ℕ) (e : none ≡ none_of edition) where
  pub upper-none : up ≡ none → upper_in 65535 ≡ upper_of edition up
  unfolding upper_in upper_of
  upper-none h = rw (eq-eqb up (none_of edition) (h ∙ e))

  pub upper-some : (up ≡ none → ⊥) → up ≤ none_of edition → upper_in up ≡ upper_of edition up
  unfolding upper_in upper_of
  upper-some n h =
      rw (ne_eqb up (none_of edition) (λ q. n (q ∙ sym e)), ne_eqb up 65535 (λ q. n (omega (arith, none-wide edition))))

pub up_fits : (edition : ℕ) (c : List ℕ) {up : ℕ} → end_laid edition c ≡ true → up ≡ limit_at edition c (up_start edition) → up ≤ none_of edition
unfolding end_laid
up_fits edition c h e = subst (λ (n : ℕ). n ≤ none_of edition) (sym e) (up-most edition _ _ (both_left _ _ h))

-- ---- ends

pub role-short : (edition : ℕ) (c : List ℕ) {s w : List ℕ} → end_laid edition c ≡ true → s ≡ drop (limits_end edition) c → w ≡ name_in s → length w ≤ 16
unfolding end_laid
role-short edition c h p q = subst (λ (x : List ℕ). length x ≤ 16) (sym (q ∙ ap name_in p)) (name-short (drop (limits_end edition) c) (both_right _ _ (both_right _ _ h)))

pub end-stored : (edition : ℕ) (a r : Associations) (e : ℕ) (c : List ℕ) (v : ℕ) {s w : List ℕ} {x y u : ℕ} → e < 32 → length a.types ≡ 32 → length a.lows ≡ 32
    → length a.ups ≡ 32 → x ≡ get_or c 0 0 → y ≡ limit_at edition c 1 → u ≡ limit_at edition c (up_start edition) → s ≡ drop (limits_end edition) c → w ≡ name_in s → r.count ≡ a.count
    → r.forms ≡ a.forms → r.arrows ≡ a.arrows → r.types ≡ set a.types e x → r.lows ≡ set a.lows e y → r.ups ≡ set a.ups e v → upper_in v ≡ upper_of edition u
    → NameStored a.roles e w r.roles → EndStored edition a e c r
unfolding end_in end_of
end-stored edition a r e c v {x = x} {y = y} h k l m p q t f g count forms arrows types lows ups up roles = record {
  count = count;
  forms = forms;
  arrows = arrows;
  kept = λ j b.
      cc (set-kept a.types r.types e x j types b, set-kept a.lows r.lows e y j lows b, set-kept a.ups r.ups e v j ups b, roles.kept j b);
  is =
      let k' : e < length a.types = omega arith in
      let l' : e < length a.lows = omega arith in
      let m' : e < length a.ups = omega arith in
      let last : upper_in (get_or r.ups e 0) ≡ upper_of edition (limit_at edition c (up_start edition)) =
      ap upper_in (set_is a.ups r.ups e v ups m') ∙ up ∙ ap (upper_of edition) t in
      cc (set_is a.types r.types e x types k', set_is a.lows r.lows e y lows l', roles.is);
}

-- ---- associations

pub left_laid : (edition : ℕ) (a : Associations) (c : List ℕ) {l : List ℕ} → AssociationFits edition a c → l ≡ drop 2 c → end_laid edition l ≡ true
unfolding association_laid
left_laid edition a c f e = ap (end_laid edition) e ∙ both_left _ _ (both_right _ _ (both_right _ _ f.laid))

pub right-laid : (edition : ℕ) (a : Associations) (c : List ℕ) {l r : List ℕ} → AssociationFits edition a c → l ≡ drop 2 c → r ≡ past_end edition l → end_laid edition r ≡ true
unfolding association_laid
right-laid edition a c f e q = ap (end_laid edition) (q ∙ ap (past_end edition) e) ∙ both_left _ _ (both_right _ _ (both_right _ _ (both_right _ _ f.laid)))

end_same : (r n : Associations) → r.types ≡ n.types → r.lows ≡ n.lows → r.ups ≡ n.ups → r.roles ≡ n.roles → (e : ℕ) → end_in r e ≡ end_in n e
unfolding end_in
end_same r n p q f g e = cc

pub association-stored : (edition : ℕ) (a m n r : Associations) (c : List ℕ) {left right : List ℕ} {x y : ℕ} → AssociationFits edition a c → length a.forms ≡ 16 → length a.arrows ≡ 16
    → left ≡ drop 2 c → right ≡ past_end edition left → EndStored edition a (a.count * 2) left m → EndStored edition m (a.count * 2 + 1) right n → x ≡ get_or c 0 0 → y ≡ get_or c 1 0
    → r.count ≡ a.count + 1 → r.forms ≡ set n.forms a.count x → r.arrows ≡ set n.arrows a.count y → r.types ≡ n.types → r.lows ≡ n.lows → r.ups ≡ n.ups
    → r.roles ≡ n.roles → AssociationStored edition a c r
unfolding associations_of association_in association_of
association-stored edition a m n r c {x = x} {y = y} fits p q f g u v s t count forms arrows k1 k2 k3 k4 =
    let ends : (e : ℕ) → end_in r e ≡ end_in n e = end_same r n k1 k2 k3 k4 in
    record {
      count = count;
      says = listed_more (association_in r) (association_in a) a.count r.count (association_of edition c) count
          (λ i l.
          let i2 : i * 2 < a.count * 2 = omega arith in
          let i3 : i * 2 + 1 < a.count * 2 = omega arith in
          let j2 : i * 2 < a.count * 2 + 1 = omega arith in
          let j3 : i * 2 + 1 < a.count * 2 + 1 = omega arith in
          let lefts : end_in r (i * 2) ≡ end_in a (i * 2) = ends (i * 2) ∙ v.kept (i * 2) j2 ∙ u.kept (i * 2) i2 in
          let rights : end_in r (i * 2 + 1) ≡ end_in a (i * 2 + 1) = ends (i * 2 + 1) ∙ v.kept (i * 2 + 1) j3 ∙ u.kept (i * 2 + 1) i3 in
          let form : get_or r.forms i 0 ≡ get_or a.forms i 0 = set-kept n.forms r.forms a.count x i forms l ∙ ap (λ (z : List ℕ). get_or z i 0) (v.forms ∙ u.forms) in
          let arrow : get_or r.arrows i 0 ≡ get_or a.arrows i 0 = set-kept n.arrows r.arrows a.count y i arrows l ∙ ap (λ (z : List ℕ). get_or z i 0) (v.arrows ∙ u.arrows) in
          cc)
          (let k : a.count < length n.forms = omega (arith, fits.room, ap length (v.forms ∙ u.forms)) in
          let j : a.count < length n.arrows = omega (arith, fits.room, ap length (v.arrows ∙ u.arrows)) in
          let b : a.count * 2 < a.count * 2 + 1 = omega arith in
          let lefts : end_in r (a.count * 2) ≡ end_of edition (drop 2 c) = ends (a.count * 2) ∙ v.kept (a.count * 2) b ∙ u.is ∙ ap (end_of edition) f in
          let rights : end_in r (a.count * 2 + 1) ≡ end_of edition (past_end edition (drop 2 c)) = ends (a.count * 2 + 1) ∙ v.is ∙ ap (end_of edition) (g ∙ ap (past_end edition) f) in
          let form : get_or r.forms a.count 0 ≡ get_or c 0 0 = set_is n.forms r.forms a.count x forms k ∙ s in
          let arrow : get_or r.arrows a.count 0 ≡ get_or c 1 0 = set_is n.arrows r.arrows a.count y arrows j ∙ t in
          cc);
    }
