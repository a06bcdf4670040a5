use mathlib.Core.Path.{◌∙◌, sym}
use Rattle.laws.proofs.OrderLaws.{is_equal-bytes}
use Rattle.files.specs.Name.{key, same_name}
use Rattle.fields.proofs.same_name.Goals as goal

pub returns : goal.returns
unfolding same_name key
returns c = c.eq.ensures ∙ sym (is_equal-bytes c.args.a.now c.args.b.now)
