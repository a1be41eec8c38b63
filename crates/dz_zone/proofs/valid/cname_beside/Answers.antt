use Rattle.std.proofs.Common.{sym, ◌∙◌}
use Rattle.dz_zone.specs.Valid.{clash}
use Rattle.dz_zone.proofs.Pairs.{two_none}
use Rattle.dz_zone.proofs.FaultLemmas.{beside_split}
use Rattle.dz_zone.proofs.valid.cname_beside.Goals as goal

pub returns-in-empty : goal.returns-in-empty
returns-in-empty c = sym (two_none clash _ c.in-empty.len_below)

pub returns-in-len1-up : goal.returns-in-len1-up
returns-in-len1-up c = c.clash_from.ensures ∙ beside_split _ _ c.in-len1-up.len_at_least c.first-item.is c.requires
