use mathlib.Core.Path.{◌≡◌}
use lib.ListN.{length}
use Rattle.files.specs.Content.{past_names}
use Rattle.loading.specs.Stored.{ConstantsStored}
use Rattle.loading.proofs.storing.store_constants.Given as goal

abbrev pub invariant-loop-i : goal.invariant-loop-i
invariant-loop-i l = (length l.constants ≡ 1632) × (l.rest ≡ past_names l.i l.c) × ConstantsStored l.initial.constants l.v l.c l.i l.constants
