use Rattle.refusing.proofs.is_interface.Goals as goal

pub returns : goal.returns
returns c = cc
