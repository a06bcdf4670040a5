use Rattle.entries.proofs.AppendLaws.{pushed}
use mathlib.Core.Path.{refl}
use borrow.Author.Rules.{rules}
use Rattle.entries.proofs.Entries.push.Goals as goal

pub returns : goal.returns
returns c = (pushed c.args.self.now c.args.entry (search rules), refl)
