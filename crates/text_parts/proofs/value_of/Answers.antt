use Rattle.std.proofs.Common.{◌∙◌, rules}
use Rattle.std.proofs.lemmas.Iterator.{YieldsList-from_slice}
use Rattle.std.proofs.lemmas.Iterator.Consumers.{fold_from_yields_List}
use Rattle.text_parts.proofs.ValueLaws.{digit_on, value-folded}
use Rattle.text_parts.proofs.value_of.Goals as goal

pub returns : goal.returns
returns c =
    let w = c.args.w.now in
    fold_from_yields_List _ digit_on _ _ c.fold.ensures.ran (YieldsList-from_slice w cc) (λ a x b q k. search rules) ∙ value-folded w
