use Rattle.std.proofs.Common.{leb, length}
use Rattle.layouts.proofs.NamesLaws.{value-type-laid-is}
use Rattle.laws.proofs.ConnectiveLaws.{both-chain}
use Rattle.layouts.proofs.ChainLaws.{and-chain-4}
use Rattle.layouts.proofs.value_type_laid.Goals as goal

pub returns : goal.returns
returns c =
    let first = leb 1 (length c.past_name-rest.result.now) in
    let few = leb c.byte-n.result 8 in
    cc (value-type-laid-is c.args.c.now, and-chain-4 c.starts_name.result first few c.names_laid.result, both-chain first few c.names_laid.result)
