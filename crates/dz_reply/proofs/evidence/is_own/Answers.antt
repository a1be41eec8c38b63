use Rattle.std.proofs.Common.{sym, ◌∙◌}
use Rattle.dz_reply.proofs.EvidenceLemmas.{own_first}
use Rattle.dz_reply.proofs.evidence.is_own.Goals as goal

pub returns-in-len1-up : goal.returns-in-len1-up
returns-in-len1-up c t zone = own_first zone c.args.name.now c.args.records.now c.first-item.result
    c.in-len1-up.len_at_least c.first-item.is (sym c.is_owned_by.ensures ∙ t)
