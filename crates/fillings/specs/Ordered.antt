-- The records of names that are in order, without the limits on how many values and links a file may have ("at most 256", "at
-- most 2,048"): with these they are the well-formed ones (proofs/LegalSize, `wf-is-ordered`).
-- Assumes nothing.
use Rattle.std.specs.Prelude.{◌<◌, ◌≤◌, suc, ℕ, true, ◌≡◌, length}
use Rattle.files.specs.Name.{valid_name}
use Rattle.files.specs.Record.{Record, link_at, object_count, object_type, value_at}
use Rattle.files.specs.RecordFile.{link_before, value_before}
use Rattle.files.specs.WellFormedRecord.{WfLink, WfValue}

-- at most 8 objects, numbers of objects below their count, valid names; values "strictly rising by object, then attribute name",
-- links "strictly rising by these three": object, role name, object
pub record Ordered (r : Record) : Type 0 where
  pub few : object_count r ≤ 8
  pub named : (o : ℕ) → o < object_count r → valid_name (object_type r o) ≡ true
  pub value : (i : ℕ) → i < length r.values → WfValue (object_count r) (value_at r i)
  pub values-rise : (i : ℕ) → suc i < length r.values → value_before (value_at r i) (value_at r (suc i)) ≡ true
  pub link : (i : ℕ) → i < length r.links → WfLink (object_count r) (link_at r i)
  pub links-rise : (i : ℕ) → suc i < length r.links → link_before (link_at r i) (link_at r (suc i)) ≡ true
