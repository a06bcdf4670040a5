-- A record in memory within its diagram stands for a record that has a file: its names are the diagram's, its values and links
-- come in the order of places, which is that of the names. So its one file reads back as it, and has at most 59,300 bytes.
-- Assumes nothing.
use Prim.Native.Nat.{ℕ, ◌%◌, ◌*◌, ◌-◌, ◌/◌, ◌<◌, ◌≤◌}
use native.Mathlib.Omega.{arith}
use mathlib.Core.Bool.{Bool, true, false}
use mathlib.Core.List.{List, [], ◌∷◌}
use mathlib.Core.Logic.{◌⊎◌, inl, inr, ⊎_elim, ◌≢◌}
use mathlib.Core.Path.{◌≡◌, refl}
use lib.Dec.{eqb, ltb}
use lib.ListN.{length, get_or}
use borrow.Author.Tests.{eqb-true, eq-eqb, eqb-false, ltb-true, ltb-false, lt-ltb, not-true}
use Rattle.laws.specs.Connective.{both, either}
use Rattle.laws.specs.Lists.{picked}
use Rattle.laws.proofs.ConnectiveLaws.{both_left, both_right, both_of, either_left, either-right, either-cases, known}
use Rattle.laws.proofs.PickedLaws.{picked-most, picked-rising, picked-each, rising-at}
use Rattle.files.specs.Diagram.{Diagram, ValueType, attribute_at}
use Rattle.files.specs.Name.{Name, before, same_name, valid_name}
use Rattle.files.specs.Record.{Link, Value}
use Rattle.files.specs.RecordBytes.{write_record}
use Rattle.files.specs.RecordFile.{link_before, value_before, read_record}
use Rattle.files.specs.Refusal.{accepted}
use Rattle.files.specs.WellFormedDiagram.{WfDiagram, WfValueType}
use Rattle.files.specs.WellFormedRecord.{WfLink, WfRecord, WfValue}
use Rattle.files.proofs.NameLaws.{same_self}
use Rattle.files.proofs.RecordRoundTrip.{record-read-back}
use Rattle.files.proofs.SizeLaws.{written-most}
use Rattle.records.specs.declared.MemoryRecord.{MemoryRecord}
use Rattle.records.specs.Slots.{role_count, role_name}
use Rattle.records.specs.Written.{Within, attribute_place, link_in, link_is, link_on, record_of, role_place, value_in, value_is, value_on}
use Rattle.records.proofs.PlaceLaws.{attribute-place, role-place}
use Rattle.records.proofs.RankLaws.{place-order}
use Rattle.records.proofs.WrittenLaws.{written_count, written-object}

-- ---- the places of a diagram's attributes and roles

attribute-order : (d : Diagram) (t u : ℕ) → t < u → attribute_place d t < length d.attributes → attribute_place d u < length d.attributes
    → before (attribute_at d (attribute_place d t)).name (attribute_at d (attribute_place d u)).name ≡ true
attribute-order d t u l h g =
    rw (attribute-place d t, attribute-place d u)
    (place-order (λ s. (attribute_at d s).name) (length d.attributes) t u l
    (rw (attribute-place d t) at h) (rw (attribute-place d u) at g))

role-order : (d : Diagram) (t u : ℕ) → t < u → role_place d t < role_count d → role_place d u < role_count d
    → before (role_name d (role_place d t)) (role_name d (role_place d u)) ≡ true
role-order d t u l h g =
    rw (role-place d t, role-place d u)
    (place-order (role_name d) (role_count d) t u l (rw (role-place d t) at h) (rw (role-place d u) at g))

-- ---- names

role-named : (d : Diagram) → WfDiagram d → (e : ℕ) → e < role_count d → valid_name (role_name d e) ≡ true
unfolding role_name
role-named d f e h = go (eqb (e % 2) 0) refl
  where
    a : e / 2 < length d.associations
    a = omega arith

    go : (b : Bool) → eqb (e % 2) 0 ≡ b → valid_name (role_name d e) ≡ true
    go true q = rw q (f.association (e / 2) a).left-fits.role-named
    go false q = rw q (f.association (e / 2) a).right-fits.role-named

constant-named : (v : ValueType) → WfValueType v → (i : ℕ) → either (ltb i (length v.constants)) (both (eqb (length v.constants) 0) (eqb i 0)) ≡ true
    → either (valid_name (get_or v.constants i [])) (eqb (length (get_or v.constants i [])) 0) ≡ true
constant-named v f i h =
    ⊎_elim (λ q. either_left _ _ (f.constants-named i (ltb-true i (length v.constants) q)))
    (λ q. either-right _ _ (none v.constants (eqb-true (length v.constants) 0 (both_left _ _ q))))
    (either-cases _ _ h)
  where
    none : (ws : List Name) → length ws ≡ 0 → eqb (length (get_or ws i [])) 0 ≡ true
    none [] e = refl
    none (v ∷ vs) e = absurd (omega arith)

-- ---- values

up_to : (a b : ℕ) → a ≤ b → (a < b) ⊎ (a ≡ b)
up_to a b h = ⊎_elim (λ e. inl (ltb-true a b e)) (λ e. let g : b ≤ a = ltb-false a b e in inr (omega arith)) (known (ltb a b))

module _ (d : Diagram) (m : MemoryRecord) where
  value-placed : (x : ℕ) → value_on d m x ≡ true → attribute_place d (x % 32) < length d.attributes
  unfolding value_on
  value-placed x e = ltb-true _ _ (both_left _ _ e)

  value_there : (x : ℕ) → value_on d m x ≡ true → value_in m (x / 32) (attribute_place d (x % 32)) ≢ 0
  unfolding value_on
  value_there x e = eqb-false _ 0 (not-true _ (both_right _ _ e))

  value-wf : WfDiagram d → Within d m → (x : ℕ) → x < m.count * 32 → value_on d m x ≡ true → WfValue m.count (value_is d m x)
  unfolding value_is
  value-wf f w x l e =
      let s = attribute_place d (x % 32) in
      let o : x / 32 < m.count = omega arith in
      let k = w.values (x / 32) s o (value-placed x e) (value_there x e) in
      record {
        object-below = o;
        attribute-named = (f.attribute s (value-placed x e)).named;
        value-type-named = (f.value-type ((value_in m (x / 32) s - 1) / 8) k.type-known).named;
        constant-named = constant-named _ (f.value-type ((value_in m (x / 32) s - 1) / 8) k.type-known) ((value_in m (x / 32) s - 1) % 8) k.constant-known;
      }

  value-rises : (i j : ℕ) → i < j → value_on d m i ≡ true → value_on d m j ≡ true → value_before (value_is d m i) (value_is d m j) ≡ true
  unfolding value_is value_before
  value-rises i j l a b =
      ⊎_elim (λ q. either_left _ _ (lt-ltb (i / 32) (j / 32) q))
      (λ q. let p : i % 32 < j % 32 = omega arith in
      either-right _ _ (both_of _ _ (eq-eqb (i / 32) (j / 32) q) (attribute-order d (i % 32) (j % 32) p (value-placed i a) (value-placed j b))))
      (up_to (i / 32) (j / 32) (omega arith))

  -- ---- links

  link-placed : (x : ℕ) → link_on d m x ≡ true → role_place d (x / 8 % 32) < role_count d
  unfolding link_on
  link-placed x e = ltb-true _ _ (both_left _ _ e)

  link-there : (x : ℕ) → link_on d m x ≡ true → link_in m (x / 256) (role_place d (x / 8 % 32)) (x % 8) ≡ true
  unfolding link_on
  link-there x e = both_right _ _ e

  link-wf : WfDiagram d → Within d m → (x : ℕ) → x < m.count * 256 → link_on d m x ≡ true → WfLink m.count (link_is d x)
  unfolding link_is
  link-wf f w x l e =
      let o : x / 256 < m.count = omega arith in
      record {
        from-below = o;
        role-named = role-named d f (role_place d (x / 8 % 32)) (link-placed x e);
        to_below = w.targets (x / 256) (role_place d (x / 8 % 32)) (x % 8) o (link-placed x e) (omega arith) (link-there x e);
      }

  same_place : (i j : ℕ) → i / 8 % 32 ≡ j / 8 % 32 → same_name (role_name d (role_place d (i / 8 % 32))) (role_name d (role_place d (j / 8 % 32))) ≡ true
  same_place i j e = rw e (same_self (role_name d (role_place d (j / 8 % 32))))

  link-rises : (i j : ℕ) → i < j → link_on d m i ≡ true → link_on d m j ≡ true → link_before (link_is d i) (link_is d j) ≡ true
  unfolding link_is link_before
  link-rises i j l a b =
      ⊎_elim (λ q. either_left _ _ (lt-ltb (i / 256) (j / 256) q))
      (λ q. either-right _ _ (both_of _ _ (eq-eqb (i / 256) (j / 256) q)
      (⊎_elim (λ p. either_left _ _ (role-order d (i / 8 % 32) (j / 8 % 32) p (link-placed i a) (link-placed j b)))
      (λ p. let t : i % 8 < j % 8 = omega arith in
      either-right _ _ (both_of _ _ (same_place i j p) (lt-ltb (i % 8) (j % 8) t)))
      (up_to (i / 8 % 32) (j / 8 % 32) (omega arith)))))
      (up_to (i / 256) (j / 256) (omega arith))

  -- ---- the record

  pub written-wf : WfDiagram d → Within d m → WfRecord (record_of d m)
  unfolding record_of
  written-wf f w =
      let no_value : Value = record { object = 0; attribute = []; value_type = []; constant = [] } in
      let no_link : Link = record { from = 0; role = []; to = 0 } in
      let few = w.few in
      record {
        few = rw (written_count d m) w.few;
        named = λ o l. let h : o < m.count = rw (written_count d m) at l in rw (written-object d m o h) (f.type (get_or m.types o 0) (w.types o h)).named;
        few-values = omega (arith, picked-most (value_on d m) (value_is d m) (m.count * 32));
        value = λ i l. rw (written_count d m) (picked-each (WfValue m.count) (value_on d m) (value_is d m) no_value (m.count * 32) (value-wf f w) i l);
        values-rise = rising-at value_before no_value (picked (value_on d m) (value_is d m) (m.count * 32))
            (picked-rising value_before (value_on d m) (value_is d m) (m.count * 32) (λ i j l h. value-rises i j l));
        few-links = omega (arith, picked-most (link_on d m) (link_is d) (m.count * 256));
        link = λ i l. rw (written_count d m) (picked-each (WfLink m.count) (link_on d m) (link_is d) no_link (m.count * 256) (link-wf f w) i l);
        links-rise = rising-at link_before no_link (picked (link_on d m) (link_is d) (m.count * 256))
            (picked-rising link_before (link_on d m) (link_is d) (m.count * 256) (λ i j l h. link-rises i j l));
      }

  -- the one file of the record that it stands for reads back as that record, and fits
  pub written-read-back : WfDiagram d → Within d m → read_record (write_record (record_of d m)) ≡ accepted (record_of d m)
  written-read-back f w = record-read-back (record_of d m) (written-wf f w)

  pub written-fits : WfDiagram d → Within d m → length (write_record (record_of d m)) ≤ 59300
  written-fits f w = written-most (record_of d m) (written-wf f w)
