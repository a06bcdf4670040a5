-- `find_break` meets its contract: one family after the other, those that are searched quickly first.
-- Assumes nothing.
use mathlib.Core.Path.{refl}
use Rattle.queries.proofs.BreakLaws.{breaks-hit, breaks-last}
use Rattle.aims.proofs.find_break.Goals as goal

pub returns-in-Some : goal.returns-in-Some
returns-in-Some c = breaks-hit _ _ _ _ _ _ refl (λ w k. k.present) c.in-Some.ensures

pub returns-in-Some-ask_types : goal.returns-in-Some-ask_types
returns-in-Some-ask_types c = breaks-hit _ _ _ _ _ _ refl (λ w k. k.types) c.in-Some-ask_types.ensures

pub returns-in-Some-find_singles : goal.returns-in-Some-find_singles
returns-in-Some-find_singles c = breaks-hit _ _ _ _ _ _ refl (λ w k. k.singles-kept) c.in-Some-find_singles.ensures

pub returns-in-Some-find_rows : goal.returns-in-Some-find_rows
returns-in-Some-find_rows c = breaks-hit _ _ _ _ _ _ refl (λ w k. k.rows) c.in-Some-find_rows.ensures

pub returns : goal.returns
returns c =
    breaks-last _ _ _ _ _ _ (λ w k. record { columns = k.columns; mirrors = k.mirrors; wholes = k.wholes })
    (λ w h e k.
    record {
      types = c.in_default-ask_types.ensures.kept refl w h e;
      present = c.in_default.ensures.kept refl w h e;
      singles-kept = c.in_default-find_singles.ensures.kept refl w h e;
      rows = c.in_default-find_rows.ensures.kept refl w h e;
      columns = k.columns;
      mirrors = k.mirrors;
      wholes = k.wholes;
    })
    c.find_lines.ensures
