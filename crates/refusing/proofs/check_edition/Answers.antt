use Rattle.files.specs.DiagramFile.{edition_refusal}
use Rattle.refusing.proofs.NumberLaws.{numbers}
use Rattle.refusing.proofs.check_edition.Goals as goal

pub returns-then-not-edition_laid : goal.returns-then-not-edition_laid
unfolding edition_refusal
returns-then-not-edition_laid c = search numbers depth 14 fits 20000

pub returns : goal.returns
unfolding edition_refusal
returns c = search numbers depth 14 fits 20000
