-- A record in memory that stands for a record of names, and a link more: its bit is set at its role's own slot, and a role
-- without a slot belongs to no place and leaves its mark.
-- Assumes nothing.
use Prim.Native.Nat.{◌*◌, ◌+◌, ◌^◌, ◌<◌, ◌≤◌, ℕ}
use native.Mathlib.Omega.{arith}
use mathlib.Core.Bool.{Bool, ◌||◌, cond, false, or-false, true}
use mathlib.Core.List.{List, []}
use mathlib.Core.Path.{◌∙◌, ◌≡◌, ap, ap₂, refl, sym}
use lib.Bits.{bit_or, or_lt}
use lib.Pow.{pow-lt}
use lib.Dec.{eqb, ltb}
use lib.ListN.{get_or, length, set}
use borrow.Author.Tests.{eq-eqb, eqb-true, ltb-false, ltb-true, ne_eqb}
use Rattle.laws.specs.Bits.{bit}
use Rattle.laws.specs.Connective.{both}
use Rattle.laws.proofs.BitLaws.{bit-or, bit-pow, bits-eq}
use Rattle.laws.proofs.ConnectiveLaws.{both-chain, both_false}
use Rattle.laws.proofs.BoundedLaws.{eqb-turned}
use Rattle.laws.proofs.PickedLaws.{any_snoc}
use Rattle.files.specs.Diagram.{Diagram}
use Rattle.files.specs.Membership.{has_link}
use Rattle.files.specs.Name.{Name, same_name}
use Rattle.files.specs.Record.{Link, Record, object_count}
use Rattle.files.specs.RecordFile.{with_link}
use Rattle.records.specs.declared.MemoryRecord.{MemoryRecord}
use Rattle.records.specs.Slots.{own_role, role_count, role_name, role_slot}
use Rattle.records.specs.Represents.{link_bit, stray_link, stray_value}
use Rattle.resolving.specs.Stored.{StandsSoFar, link_stored, with_mask_at, with_stray_link}
use Rattle.records.proofs.SlotLaws.{own-role-below, own-role-same, role-most, role-own}
use Rattle.resolving.proofs.PlaceLaws.{set-place}
use Rattle.resolving.proofs.StoreLaws.{byte-same}

-- ---- what stands in each place, with a link more

module _ (d : Diagram) (q : Record) (l : Link) where
  -- bit p of place (o, s) is the link's
  abbrev bit_of : ℕ → ℕ → ℕ → Bool
  bit_of o s p = both (both (eqb l.from o) (eqb (role_slot d l.role) s)) (eqb l.to p)

  link-more : (o : ℕ) (w : Name) (p : ℕ)
      → has_link (with_link q l) o w p ≡ has_link q o w p || both (eqb l.from o) (both (same_name l.role w) (eqb l.to p))
  unfolding has_link with_link
  link-more o w p =
      any_snoc (λ (x : Link). both (eqb x.from o) (both (same_name x.role w) (eqb x.to p))) q.links l
      (record { from = 0; role = []; to = 0 })

  bit-own : (o s p : ℕ) → own_role d s ≡ true → link_bit d (with_link q l) o s p ≡ link_bit d q o s p || bit_of o s p
  unfolding link_bit
  bit-own o s p h =
      ap₂ both h (link-more o (role_name d s) p
      ∙ ap (λ (b : Bool). has_link q o (role_name d s) p || both (eqb l.from o) (both b (eqb l.to p))) (own-role-same d l.role s h)
      ∙ ap (λ (b : Bool). has_link q o (role_name d s) p || b) (both-chain (eqb l.from o) (eqb (role_slot d l.role) s) (eqb l.to p)))
      ∙ always (has_link q o (role_name d s) p) (bit_of o s p)
      ∙ ap (λ (b : Bool). both b (has_link q o (role_name d s) p) || bit_of o s p) (sym h)
    where
      always : (a b : Bool) → both true (a || b) ≡ both true a || b
      always a b = unfold both in refl

  bit-none : (r : Record) (o s p : ℕ) → own_role d s ≡ false → link_bit d r o s p ≡ false
  unfolding link_bit both
  bit-none r o s p h = ap (λ (b : Bool). both b (has_link r o (role_name d s) p)) h

  not-its : (o s p : ℕ) → eqb (role_slot d l.role) s ≡ false → bit_of o s p ≡ false
  unfolding both
  not-its o s p e = ap (λ (b : Bool). both b (eqb l.to p)) (ap (both (eqb l.from o)) e ∙ both_false (eqb l.from o))

  bit_kept : (o s p : ℕ) → (own_role d s ≡ true → eqb (role_slot d l.role) s ≡ false) → link_bit d (with_link q l) o s p ≡ link_bit d q o s p
  bit_kept o s p f = go (own_role d s) refl
    where
      go : (b : Bool) → own_role d s ≡ b → link_bit d (with_link q l) o s p ≡ link_bit d q o s p
      go true h = bit-own o s p h ∙ ap (λ (b : Bool). link_bit d q o s p || b) (not-its o s p (f h)) ∙ or-false (link_bit d q o s p)
      go false h = bit-none (with_link q l) o s p h ∙ sym (bit-none q o s p h)

  bit-hit : (o s p : ℕ) → role_slot d l.role < role_count d → link_bit d (with_link q l) o s p ≡ link_bit d q o s p || bit_of o s p
  bit-hit o s p h = go (eqb (role_slot d l.role) s) refl
    where
      go : (b : Bool) → eqb (role_slot d l.role) s ≡ b → link_bit d (with_link q l) o s p ≡ link_bit d q o s p || bit_of o s p
      go true e = bit-own o s p (ap (own_role d) (sym (eqb-true _ _ e)) ∙ role-own d l.role h)
      go false e =
          bit_kept o s p (λ x. e) ∙ sym (or-false (link_bit d q o s p)) ∙ ap (λ (b : Bool). link_bit d q o s p || b) (sym (not-its o s p e))

  bit-miss : (o s p : ℕ) → role_count d ≤ role_slot d l.role → link_bit d (with_link q l) o s p ≡ link_bit d q o s p
  bit-miss o s p h = bit_kept o s p (λ x. let k : s < role_count d = own-role-below d s x in ne_eqb (role_slot d l.role) s (λ e. omega arith))

  stray-more : stray_link d (with_link q l) ≡ stray_link d q || eqb (role_slot d l.role) (role_count d)
  unfolding stray_link with_link
  stray-more = any_snoc (λ (x : Link). eqb (role_slot d x.role) (role_count d)) q.links l (record { from = 0; role = []; to = 0 })

-- a mask with one bit more is the mask or that bit
pub mask-with : (r mask t : ℕ) → r < 256 → mask < 256 → t < 8 → ((j : ℕ) → bit j r ≡ bit j mask || eqb j t) → r ≡ bit_or mask (2 ^ t)
mask-with r mask t hr hm ht f =
    bits-eq 8 r (bit_or mask (2 ^ t)) hr (or_lt 8 mask (2 ^ t) hm (pow-lt ht))
    (λ k l. f k ∙ sym (bit-or k mask (2 ^ t) ∙ ap (λ (b : Bool). bit k mask || b) (bit-pow k t)))

-- a bit set in the mask at place (f, a): the other bits and the other places stay
mask-place : (ms : List ℕ) (f a t o s p : ℕ) → length ms ≡ 256 → f < 8 → a < 32 → s < 32
    → bit p (get_or (set ms (f * 32 + a) (bit_or (get_or ms (f * 32 + a) 0) (2 ^ t))) (o * 32 + s) 0)
    ≡ bit p (get_or ms (o * 32 + s) 0) || both (both (eqb f o) (eqb a s)) (eqb t p)
unfolding both
mask-place ms f a t o s p long hf ha hs =
    ap (bit p) (set-place ms f a (bit_or (get_or ms (f * 32 + a) 0) (2 ^ t)) o s long hf ha hs) ∙ go (eqb f o) (eqb a s) refl refl
  where
    go : (b c : Bool) → eqb f o ≡ b → eqb a s ≡ c
        → bit p (cond (both b c) (bit_or (get_or ms (f * 32 + a) 0) (2 ^ t)) (get_or ms (o * 32 + s) 0))
        ≡ bit p (get_or ms (o * 32 + s) 0) || both (both b c) (eqb t p)
    go true true x y =
        let e : f ≡ o = eqb-true _ _ x in
        let g : a ≡ s = eqb-true _ _ y in
        let i : f * 32 + a ≡ o * 32 + s = omega arith in
        bit-or p (get_or ms (f * 32 + a) 0) (2 ^ t)
        ∙ ap₂ (λ (j : ℕ) (b : Bool). bit p (get_or ms j 0) || b) i (bit-pow p t ∙ eqb-turned p t)
    go true false x y = sym (or-false (bit p (get_or ms (o * 32 + s) 0)))
    go false c x y = sym (or-false (bit p (get_or ms (o * 32 + s) 0)))

-- ---- the store

module _ (d : Diagram) (q : Record) (m : MemoryRecord) (st : StandsSoFar d q m) (l : Link) where
  abbrev slot : ℕ
  slot = role_slot d l.role

  abbrev place : ℕ
  place = l.from * 32 + slot

  link-hit : slot < role_count d → role_count d ≤ 32 → l.from < 8 → length m.links ≡ 256
      → StandsSoFar d (with_link q l) (with_mask_at m place (bit_or (get_or m.links place 0) (2 ^ l.to)))
  unfolding object_count with_link stray_value
  link-hit h few hf long = record {
    count = st.count;
    stands = record {
      types = st.stands.types;
      values = λ o s lo ls. st.stands.values o s lo ls ∙ byte-same d q (with_link q l) o s refl;
      links = λ o s p lo ls lp.
          mask-place m.links l.from slot l.to o s p long hf (omega arith) ls
          ∙ ap (λ (b : Bool). b || bit_of d q l o s p) (st.stands.links o s p lo ls lp) ∙ sym (bit-hit d q l o s p h);
      stray-values = st.stands.stray-values;
      stray-links =
          st.stands.stray-links ∙ sym (or-false (stray_link d q))
          ∙ ap (λ (b : Bool). stray_link d q || b) (sym (ne_eqb slot (role_count d) (λ e. omega arith))) ∙ sym (stray-more d q l);
    };
  }

  link-miss : role_count d ≤ slot → StandsSoFar d (with_link q l) (with_stray_link m)
  unfolding object_count with_link stray_value
  link-miss h =
      let k : slot ≤ role_count d = role-most d l.role in
      record {
        count = st.count;
        stands = record {
          types = st.stands.types;
          values = λ o s lo ls. st.stands.values o s lo ls ∙ byte-same d q (with_link q l) o s refl;
          links = λ o s p lo ls lp. st.stands.links o s p lo ls lp ∙ sym (bit-miss d q l o s p h);
          stray-values = st.stands.stray-values;
          stray-links =
              sym (stray-more d q l ∙ ap (λ (b : Bool). stray_link d q || b) (eq-eqb slot (role_count d) (omega arith)) ∙ always (stray_link d q));
        };
      }
    where
      always : (b : Bool) → b || true ≡ true
      always true = refl
      always false = refl

  pub link-stands : role_count d ≤ 32 → l.from < 8 → length m.links ≡ 256
      → StandsSoFar d (with_link q l) (link_stored m slot (role_count d) l.from l.to)
  unfolding link_stored
  link-stands few hf long = go (ltb slot (role_count d)) refl
    where
      go : (b : Bool) → ltb slot (role_count d) ≡ b
          → StandsSoFar d (with_link q l) (cond b (with_mask_at m place (bit_or (get_or m.links place 0) (2 ^ l.to))) (with_stray_link m))
      go true e = link-hit (ltb-true _ _ e) few hf long
      go false e = link-miss (ltb-false _ _ e)
