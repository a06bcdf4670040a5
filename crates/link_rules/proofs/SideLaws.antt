-- From the tables to the definitions, for the ends of a diagram: a bit of an end's mask says that an object is an instance,
-- and a bit of a link mask that it has a link; so the rules of a side agree object by object.
-- Assumes nothing.
use Prim.Native.Nat.{ℕ, ◌*◌, ◌+◌, ◌<◌}
use mathlib.Core.Bool.{Bool}
use mathlib.Core.List.{List}
use mathlib.Core.Path.{◌≡◌, sym, ap, ap₂, ◌∙◌}
use lib.ListN.{get_or}
use borrow.Author.Tests.{lt-ltb}
use Rattle.laws.specs.Bits.{bit}
use Rattle.laws.specs.Connective.{both, imp, same}
use Rattle.laws.proofs.BoundedLaws.{all-ext}
use Rattle.laws.proofs.CountLaws.{tally-ext}
use Rattle.files.specs.Diagram.{Diagram, Limits}
use Rattle.fields.specs.Slot.{slot_name}
use Rattle.diagrams.specs.declared.Associations.{Associations}
use Rattle.diagrams.specs.View.{association_in, end_in}
use Rattle.records.specs.declared.MemoryRecord.{MemoryRecord}
use Rattle.records.specs.Slots.{role_count, role_slot}
use Rattle.rules.specs.Arrow.{Side, within}
use Rattle.rules.specs.Instance.{is_instance}
use Rattle.rules.specs.LinkRules.{incoming, mirror_at, mirrored, sources, sources_at, targets, targets_at}
use Rattle.memory_rules.specs.SiteIn.{linked_in, site_in}
use Rattle.masks.specs.Masks.{arriving, arrives_from, column_at_fits, columns_fit, link_in, mirror_fits, mirror_row_fits, mirrors_fit, row_at_fits, row_fits, rows_fit}
use Rattle.tables.specs.Tables.{Instances}
use Rattle.link_rules.specs.LinksIn.{instances_in, mirrored_in, source_end, sources_in, target_end, targets_in}
use Rattle.link_rules.proofs.EndLaws.{KnownEnd}

module _ (d : Diagram) (m : MemoryRecord) (a : Associations) (masks slots : List ℕ) (instances : Instances d m masks) where
  pub at-is : {e : ℕ} → KnownEnd d a slots e → (o : ℕ) → o < m.count → bit o (instances_in a masks e) ≡ is_instance d (site_in d m) (end_in a e).type o
  unfolding end_in
  at-is {e} k o l = instances.exact (get_or a.types e 0) o k.type-known l

  pub linked-is : {e : ℕ} → KnownEnd d a slots e → (o p : ℕ) → link_in m.links (get_or slots e 0) o p ≡ (site_in d m).linked o (end_in a e).role p
  unfolding end_in site_in linked_in both
  linked-is {e} k o p =
      let s = role_slot d (slot_name a.roles e) in
      ap (λ (s : ℕ). link_in m.links s o p) k.slot_is
      ∙ ap (λ (b : Bool). both b (link_in m.links s o p)) (sym (lt-ltb s (role_count d) k.slot-known))

  pub targets-is : (s : Side) (i : ℕ) → KnownEnd d a slots (source_end s i) → KnownEnd d a slots (target_end s i) → (limits : Limits)
      → targets_in a m.links masks slots m.count s i limits ≡ targets d (site_in d m) (end_in a (source_end s i)) (end_in a (target_end s i)) limits
  unfolding targets_in rows_fit row_at_fits row_fits targets targets_at site_in
  targets-is s i kf kt limits =
      all-ext _ _ m.count (λ o l. ap₂ (λ (x y : Bool). imp x y) (at-is kf o l)
      (ap₂ (λ (x : Bool) (k : ℕ). both x (within limits k))
      (all-ext _ _ m.count (λ p h. ap₂ (λ (x y : Bool). imp x y) (linked-is kt o p) (at-is kt p h)))
      (tally-ext _ _ m.count (λ p h. linked-is kt o p))))

  pub sources-is : (s : Side) (i : ℕ) → KnownEnd d a slots (source_end s i) → KnownEnd d a slots (target_end s i) → (limits : Limits)
      → sources_in a m.links masks slots m.count s i limits ≡ sources d (site_in d m) (end_in a (source_end s i)) (end_in a (target_end s i)) limits
  unfolding sources_in columns_fit column_at_fits arriving arrives_from sources sources_at incoming site_in
  sources-is s i kf kt limits =
      all-ext _ _ m.count (λ p l. ap₂ (λ (x : Bool) (k : ℕ). imp x (within limits k)) (at-is kt p l)
      (tally-ext _ _ m.count (λ o h. ap₂ (λ (x y : Bool). both x y) (at-is kf o h) (linked-is kt o p))))

  pub mirrored-is : (i : ℕ) → KnownEnd d a slots (i * 2) → KnownEnd d a slots (i * 2 + 1)
      → mirrored_in a m.links masks slots m.count i ≡ mirrored d (site_in d m) (association_in a i)
  unfolding mirrored_in mirrors_fit mirror_row_fits mirror_fits mirrored mirror_at association_in site_in
  mirrored-is i kl kr =
      all-ext _ _ m.count (λ o l. all-ext _ _ m.count (λ p h.
      ap₂ (λ (x y : Bool). imp x y) (ap₂ (λ (x y : Bool). both x y) (at-is kl o l) (at-is kr p h))
      (ap₂ (λ (x y : Bool). same x y) (linked-is kr o p) (linked-is kl p o))))
