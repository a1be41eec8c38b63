use Rattle.dz_reply.proofs.AuthorityLemmas.{shown_none_counted, shown_counted}
use Rattle.dz_reply.proofs.authority.count_signed.Goals as goal

pub returns-in-empty-clause-value : goal.returns-in-empty-clause-value
returns-in-empty-clause-value c =
    shown_none_counted c.args.set.now.records.now c.args.set.now.signed.now c.in-empty.len_below

pub returns-in-len1-up-clause-value : goal.returns-in-len1-up-clause-value
returns-in-len1-up-clause-value c =
    shown_counted c.args.set.now.records.now c.args.set.now.signed.now c.in-len1-up.len_at_least
