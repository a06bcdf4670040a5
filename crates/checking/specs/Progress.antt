-- The refusals of a record file's fields over what the fields before left: how many came, and the contents of the last value and
-- the last link.
-- Assumes nothing.
use Rattle.std.specs.Prelude.{◌+◌, ℕ, cond, not, List, eqb, leb, ltb}
use Rattle.std.specs.Borrow.{Bor}
use Rattle.laws.specs.Bounded.{one}
use Rattle.laws.specs.Connective.{both, imp, refuse}
use Rattle.files.specs.Content.{byte}
use Rattle.files.specs.RecordFile.{count_refusal, link_before, record_tags, value_before}
use Rattle.files.specs.RecordLayout.{link_laid, link_of, object_laid, value_laid, value_of}
use Rattle.files.specs.Refusal.{misplaced}
use Rattle.checking.specs.declared.Progress.{Progress}

-- 0x61, where so many objects came before
unfoldable pub object_no : ℕ → ℕ → List ℕ → ℕ
object_no count objects c =
    refuse (leb count objects) 4
    (refuse (not (object_laid c)) 3 0)

-- 0x62, where so many values came before, the last of them with the content p
unfoldable pub value_no : ℕ → ℕ → List ℕ → List ℕ → ℕ
value_no count values p c =
    refuse (leb 256 values) 4
    (refuse (not (value_laid c)) 3
    (refuse (not (imp (ltb 0 values) (value_before (value_of p) (value_of c)))) 5
    (refuse (not (ltb (byte c 0) count)) 6 0)))

-- 0x63, likewise
unfoldable pub link_no : ℕ → ℕ → List ℕ → List ℕ → ℕ
link_no count links p c =
    refuse (leb 2048 links) 4
    (refuse (not (link_laid c)) 3
    (refuse (not (imp (ltb 0 links) (link_before (link_of p) (link_of c)))) 5
    (refuse (not (both (ltb (link_of c).from count) (ltb (link_of c).to count))) 6 0)))

-- a field with the tag t and the content c behind those
unfoldable pub field_no : Progress → ℕ → List ℕ → ℕ
field_no s t c =
    refuse (misplaced 0x60 record_tags s.last t) 2
    (cond (eqb t 0x60) (count_refusal c)
    (cond (eqb t 0x61) (object_no s.count s.objects c)
    (cond (eqb t 0x62) (value_no s.count s.values s.value.now c) (link_no s.count s.links s.link.now c))))

-- what is left behind that field
unfoldable pub counted : Progress → ℕ → Bor (List ℕ) → Progress
counted s t c = record {
  last = t;
  count = cond (eqb t 0x60) (byte c.now 0) s.count;
  objects = s.objects + one (eqb t 0x61);
  values = s.values + one (eqb t 0x62);
  links = s.links + one (eqb t 0x63);
  value = cond (eqb t 0x62) c s.value;
  link = cond (eqb t 0x63) c s.link;
}

-- at the end: a file with no field, then missing objects
unfoldable pub end_no : Progress → ℕ
end_no s = refuse (eqb s.last 0) 2 (refuse (not (eqb s.objects s.count)) 4 0)
