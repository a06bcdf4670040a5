use Rattle.laws.specs.Bits.{bit}
use Prim.Native.Nat.{ℕ}
use lib.ListN.{get_or}
use mathlib.Core.Path.{ap, ◌∙◌}
use Rattle.masks.proofs.MaskRuleLaws.{object_masks, object-masks}
use Rattle.masks.proofs.objects.Goals as goal

pub returns : goal.returns
returns c = λ p. ap (λ (k : ℕ). bit p (get_or object_masks k 0)) c.from.ensures ∙ object-masks c.args.n c.requires p
