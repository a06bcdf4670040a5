use Rattle.std.proofs.Common.{rules}
use Rattle.text_writing.proofs.CountingLaws.{types-fit, types-next}
use Rattle.text_writing.proofs.Named.index_behind.Goals as goal

pub overflow_add-result : goal.overflow_add-result
overflow_add-result c = let fits = types-fit c.args.self.now.writable c.requires.0 c.requires.1 _ c.from.ensures in search rules

pub returns : goal.returns
returns c = types-next _ _ c.requires.1 c.is_kind.ensures c.from.ensures
