use Rattle.files.specs.DiagramFile.{value_type_refusal}
use Rattle.refusing.proofs.NumberLaws.{numbers, value-types-full, value-types-room, value-type-named}
use Rattle.refusing.proofs.check_value_type.Goals as goal

pub returns-then-v-ge12 : goal.returns-then-v-ge12
unfolding value_type_refusal
returns-then-v-ge12 c = search (numbers, value-types-full) depth 14 fits 20000

pub returns-then-not-value_type_laid : goal.returns-then-not-value_type_laid
unfolding value_type_refusal
returns-then-not-value_type_laid c = search (numbers, value-types-room) depth 14 fits 20000

pub returns-then-is_among : goal.returns-then-is_among
unfolding value_type_refusal
returns-then-is_among c = search (numbers, value-types-room, value-type-named) depth 14 fits 20000

pub returns-then-not-constants_differ : goal.returns-then-not-constants_differ
unfolding value_type_refusal
returns-then-not-constants_differ c = search (numbers, value-types-room, value-type-named) depth 14 fits 20000

pub returns : goal.returns
unfolding value_type_refusal
returns c = search (numbers, value-types-room, value-type-named) depth 14 fits 20000
