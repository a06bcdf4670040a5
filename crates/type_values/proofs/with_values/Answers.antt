use Rattle.type_values.proofs.FilledInLaws.{filled-made}
use Rattle.type_values.proofs.with_values.Goals as goal

pub returns : goal.returns
returns c =
    let a = c.args in
    let by = a.by.now.pair in
    filled-made by.old.now.stored by.new.now.stored a.by.now.dues.now c.lacking_values-firsts.result a.site.types a.site.links c.all_values-values.result a.n c.from.result
    by.old.now.held a.by.now.due c.lacking_values-firsts.ensures c.requires c.all_values-values.ensures c.from.ensures
