-- The first part of a diagram's types. 02 5/12: "After any first part of the types .. whatever types follow".
-- Assumes nothing.
use Rattle.std.specs.Prelude.{◌<◌, ℕ, ◌↔◌, take}
use Rattle.files.specs.Ancestor.{Reach}
use Rattle.files.specs.Diagram.{Diagram}

-- the diagram with its first n types alone
unfoldable pub first_types : ℕ → Diagram → Diagram
first_types n d = record { value_types = d.value_types; types = take n d.types; attributes = d.attributes; associations = d.associations }

-- what is reached from a type is reached in any first part of the types that has it, "whatever types follow"
pub record FirstReach (d : Diagram) : Type 0 where
  pub same : (n i t : ℕ) → i < n → Reach (first_types n d) i t ↔ Reach d i t
