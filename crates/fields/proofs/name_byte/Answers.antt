use Rattle.fields.proofs.NameLaws.{name-byte}
use Rattle.fields.proofs.name_byte.Goals as goal

pub returns : goal.returns
returns c = name-byte c.args.b c.is_ascii_alphanumeric.ensures.value
