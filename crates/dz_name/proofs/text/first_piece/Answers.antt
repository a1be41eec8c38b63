use Rattle.std.proofs.Common.{rules}
use Rattle.dz_name.specs.Text.{items}
use Rattle.dz_name.proofs.text.first_piece.Goals as goal

pub returns-in_err-octet-in-92-clause-items : goal.returns-in_err-octet-in-92-clause-items
unfolding items
returns-in_err-octet-in-92-clause-items c = search rules

pub returns-in_ok-octet-in-92-clause-items : goal.returns-in_ok-octet-in-92-clause-items
unfolding items
returns-in_ok-octet-in-92-clause-items c = search rules

pub returns-in-46-clause-items : goal.returns-in-46-clause-items
unfolding items
returns-in-46-clause-items c = search rules

pub returns-in_default-clause-items : goal.returns-in_default-clause-items
unfolding items
returns-in_default-clause-items c = search rules
