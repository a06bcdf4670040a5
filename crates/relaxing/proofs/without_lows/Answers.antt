-- `without_lows` meets its contract: column by column.
-- Assumes nothing.
use Prim.Native.Nat.{ℕ, ◌<◌}
use borrow.Author.Rules.{rules}
use mathlib.Core.List.{List, map}
use mathlib.Core.Path.{◌≡◌, ◌∙◌, ap, subst, sym}
use lib.ListN.{get_or, get_or-map, length, length-map}
use Rattle.worlds.specs.declared.Column.{Column}
use Rattle.worlds.specs.Lined.{zero_column}
use Rattle.relaxing.specs.Relaxed.{unforced_column}
use Rattle.relaxing.proofs.SameLaws.{same-lists}
use Rattle.relaxing.proofs.without_lows.Goals as goal

pub returns : goal.returns
returns c =
    let x = c.args.lines in
    let m = c.map.ensures.items in
    let long : length c.map.result ≡ 16 = search rules in
    let own : length x.columns ≡ 16 = search rules in
    ap (λ (cs : List Column). record { columns = cs; mirrors = x.mirrors; wholes = x.wholes })
    (same-lists zero_column c.map.result (map unforced_column x.columns) (long ∙ sym own ∙ sym (length-map x.columns unforced_column))
    (λ i l.
    let w = m.at i zero_column zero_column (subst (λ (n : ℕ). i < n) m.long l) in
    let e : get_or c.map.result i zero_column ≡ unforced_column (get_or x.columns i zero_column) = search rules in
    e ∙ sym (get_or-map unforced_column x.columns i zero_column)))
