use Rattle.dz_reply.proofs.AuthorityLemmas.{set_none, set_some}
use Rattle.dz_reply.proofs.authority.signed_set.Goals as goal

pub returns-in-empty : goal.returns-in-empty
returns-in-empty c = set_none c.args.version.now.records c.args.records.now c.in-empty.len_below

pub returns-in-len1-up : goal.returns-in-len1-up
returns-in-len1-up c =
    set_some c.args.version.now.records c.args.records.now c.signatures.result.now c.first-item.result
    c.in-len1-up.len_at_least c.first-item.is (rw (c.owner_ref.ensures, c.kind.ensures.kind) at c.signatures.ensures)
