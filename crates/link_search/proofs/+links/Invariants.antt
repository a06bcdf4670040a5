-- The number of open bits.
use Rattle.link_search.specs.Nets.{open_bits}
use Rattle.link_search.proofs.+links.Given as goal

abbrev pub decreases-links : goal.decreases-links
decreases-links l = open_bits l.bounds.now.may
