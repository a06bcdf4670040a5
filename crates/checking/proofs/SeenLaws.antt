-- What the numbers and the last contents say of the record read so far: the refusals over them are those of the record, and
-- each field that is not refused keeps it so.
-- Assumes nothing.
use Prim.Native.Nat.{◌-◌, ◌<◌, ◌≤◌, zero-le, ℕ}
use native.Mathlib.Omega.{arith}
use mathlib.Core.Bool.{true}
use mathlib.Core.List.{List, [], ◌∷◌}
use mathlib.Core.Path.{◌≡◌, refl, subst}
use lib.Dec.{eqb}
use Rattle.std.specs.Borrow.{Bor}
use lib.ListN.{get_or, length, length-append}
use borrow.Author.Tests.{eqb-true, leb-false, not-false}
use Rattle.laws.proofs.BoundedLaws.{any_at}
use Rattle.laws.proofs.ConnectiveLaws.{refuse-passed}
use Rattle.laws.proofs.ListLaws.{last_snoc}
use Rattle.files.specs.Content.{name_in, past_name}
use Rattle.files.specs.Record.{Record, link_at, no_record, value_at}
use Rattle.files.specs.RecordFile.{count_refusal, link_refusal, link_rises, object_refusal, record_refusal, record_tags, record_with, value_refusal, value_rises, with_link, with_object, with_value}
use Rattle.files.specs.RecordLayout.{count_laid, link_of, value_of}
use Rattle.files.specs.Refusal.{full}
use Rattle.files.proofs.RecordUnique.{by-tag, misplaced-no, placed}
use Rattle.checking.specs.declared.Progress.{Progress}
use Rattle.checking.specs.Progress.{counted, field_no, link_no, object_no, value_no}
use Rattle.files.proofs.RecordWellFormed.{count_fits}

-- The numbers are the record's, and the contents are those of its last value and last link. Where there is none, the last
-- one is what an empty content says. The bounds are those that the refusals keep.
pub record Seen (s : Progress) (r : Record) : Type 0 where
  pub objects : s.objects ≡ length r.objects
  pub values : s.values ≡ length r.values
  pub links : s.links ≡ length r.links
  pub last-value : value_at r (length r.values - 1) ≡ value_of s.value.now
  pub last-link : link_at r (length r.links - 1) ≡ link_of s.link.now
  pub few : s.count ≤ 8
  pub few-objects : s.objects ≤ 8
  pub few-values : s.values ≤ 256
  pub few-links : s.links ≤ 2048

-- before the first field
pub seen_nothing : {x y : Bor (List ℕ)} → x.now ≡ [] → y.now ≡ [] → Seen (record { last = 0; count = 0; objects = 0; values = 0; links = 0; value = x; link = y }) no_record
unfolding value_of link_of name_in past_name
seen_nothing p q = record {
  objects = refl;
  values = refl;
  links = refl;
  last-value = rw p;
  last-link = rw q;
  few = zero-le;
  few-objects = zero-le;
  few-values = zero-le;
  few-links = zero-le;
}

-- ---- the refusals are the record's

module _ (s : Progress) (r : Record) (seen : Seen s r) where
  object-refusal : (c : List ℕ) → object_no s.count s.objects c ≡ object_refusal s.count r c
  unfolding object_no object_refusal full
  object-refusal c = rw seen.objects

  value-refusal : (c : List ℕ) → value_no s.count s.values s.value.now c ≡ value_refusal s.count r c
  unfolding value_no value_refusal full value_rises value_of
  value-refusal c = rw (seen.values, seen.last-value)

  link-refusal : (c : List ℕ) → link_no s.count s.links s.link.now c ≡ link_refusal s.count r c
  unfolding link_no link_refusal full link_rises
  link-refusal c = rw (seen.links, seen.last-link)

  pub field-refusal : (t : ℕ) (c : List ℕ) → field_no s t c ≡ record_refusal s.last s.count r t c
  unfolding field_no record_refusal
  field-refusal t c = rw (object-refusal c, value-refusal c, link-refusal c)

-- ---- a field more

abbrev Keeps : Progress → Record → Bor (List ℕ) → ℕ → Type 0
Keeps s r c t = Seen s r → record_refusal s.last s.count r t c.now ≡ 0 → Seen (counted s t c) (record_with r t c.now)

module _ (s : Progress) (r : Record) (c : Bor (List ℕ)) where
  keeps-60 : Keeps s r c 0x60
  unfolding record_refusal count_refusal record_with counted
  keeps-60 g e =
      let laid : count_laid c.now ≡ true = not-false (count_laid c.now) (refuse-passed _ 2 _ (refuse-passed _ 1 _ e).1).0 in
      record {
        objects = omega (arith, g.objects);
        values = omega (arith, g.values);
        links = omega (arith, g.links);
        last-value = g.last-value;
        last-link = g.last-link;
        few = count_fits c.now laid;
        few-objects = omega (arith, g.few-objects);
        few-values = omega (arith, g.few-values);
        few-links = omega (arith, g.few-links);
      }

  keeps-61 : Keeps s r c 0x61
  unfolding record_refusal object_refusal full record_with with_object counted
  keeps-61 g e =
      let room : length r.objects < s.count = leb-false s.count (length r.objects) (refuse-passed _ 3 _ (refuse-passed _ 1 _ e).1).0 in
      record {
        objects = omega (arith, g.objects, length-append r.objects (name_in c.now ∷ []));
        values = omega (arith, g.values);
        links = omega (arith, g.links);
        last-value = g.last-value;
        last-link = g.last-link;
        few = g.few;
        few-objects = omega (arith, g.objects, g.few);
        few-values = omega (arith, g.few-values);
        few-links = omega (arith, g.few-links);
      }

  keeps-62 : Keeps s r c 0x62
  unfolding record_refusal value_refusal full record_with with_value counted
  keeps-62 g e =
      let room : length r.values < 256 = leb-false 256 (length r.values) (refuse-passed _ 3 _ (refuse-passed _ 1 _ e).1).0 in
      record {
        objects = omega (arith, g.objects);
        values = omega (arith, g.values, length-append r.values (value_of c.now ∷ []));
        links = omega (arith, g.links);
        last-value = last_snoc r.values (value_of c.now) _;
        last-link = g.last-link;
        few = g.few;
        few-objects = omega (arith, g.few-objects);
        few-values = omega (arith, g.values);
        few-links = omega (arith, g.few-links);
      }

  keeps-63 : Keeps s r c 0x63
  unfolding record_refusal link_refusal full record_with with_link counted
  keeps-63 g e =
      let room : length r.links < 2048 = leb-false 2048 (length r.links) (refuse-passed _ 3 _ (refuse-passed _ 1 _ e).1).0 in
      record {
        objects = omega (arith, g.objects);
        values = omega (arith, g.values);
        links = omega (arith, g.links, length-append r.links (link_of c.now ∷ []));
        last-value = g.last-value;
        last-link = last_snoc r.links (link_of c.now) _;
        few = g.few;
        few-objects = omega (arith, g.few-objects);
        few-values = omega (arith, g.few-values);
        few-links = omega (arith, g.links);
      }

  pub keeps : (t : ℕ) → Keeps s r c t
  keeps t g e =
      let i = any_at (λ i. eqb (get_or record_tags i 0) t) 4 (placed s.last t (misplaced-no s.last s.count r t c.now e)).known in
      subst (Keeps s r c) (eqb-true _ _ i.2) (by-tag (Keeps s r c) keeps-60 keeps-61 keeps-62 keeps-63 i.0 i.1) g e
