use borrow.Author.Rules.{rules}
use borrow.Author.Tests.{tests}
use mathlib.Core.Path.{◌≡◌}
use Rattle.worlds.specs.Lined.{zero_column, zero_mirror, zero_whole}
use Rattle.sheets.specs.LinesBy.{column_by, mirror_by, whole_by}
use Rattle.sheets.proofs.MadeLaws.{each-made}
use Rattle.sheets.proofs.lines.lines_of.Goals as goal

pub returns : goal.returns
returns c =
    let e = c.args.ends.now in
    let a = e.asked.now in
    record {
      column = each-made zero_column (λ j x. x ≡ column_by e.sets e.slots a.arrows a.lows a.ups a.count j) (λ x b q k. search (rules, tests)) c.from_fn.ensures.items;
      mirror = each-made zero_mirror (λ j x. x ≡ mirror_by e.sets e.slots a.arrows a.count j) (λ x b q k. search (rules, tests)) c.from_fn-2.ensures.items;
      whole = each-made zero_whole (λ j x. x ≡ whole_by e.sets e.slots a.forms a.count j) (λ x b q k. search (rules, tests)) c.from_fn-3.ensures.items;
    }
