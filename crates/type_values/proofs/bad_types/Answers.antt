use borrow.Author.Rules.{rules}
use borrow.Author.Tests.{tests}
use mathlib.Core.Path.{refl}
use Rattle.type_values.proofs.TranslatedLaws.{bad-types-are}
use Rattle.type_values.proofs.bad_types.Goals as goal

pub returns : goal.returns
returns c =
    let by = c.args.by.now.pair in
    bad-types-are by.old.now.stored by.new.now.stored c.args.by.now.dues.now _ _ _ _ _ _ _ _ _ _ c.mask_of.result by.old.now.held by.new.now.held
    (record {
      due-old = c.args.by.now.due;
      due-new = c.due_values-new_dues.ensures;
      types-placed = c.type_places.ensures;
      forth = c.attribute_places.ensures;
      back-placed = c.attribute_places-2.ensures;
      same-types = c.same_types-types.ensures;
      lackings = c.lacking_values.ensures;
    }) refl refl refl refl (c.mask_of.ensures _ (λ t b l k. search (rules, tests)))
