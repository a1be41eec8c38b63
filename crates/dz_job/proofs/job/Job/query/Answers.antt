-- How long the query is, and that its additional section is empty.
use Rattle.dz_job.specs.Job.{transfer_for}
use Rattle.dz_job.proofs.QueryLemmas.{asks_soa, query_short, query_long, query_none}
use Rattle.dz_job.proofs.job.Job.query.Goals as goal

pub write_query-requires : goal.write_query-requires
write_query-requires c = rw c.soa_asked-held.ensures (asks_soa (transfer_for c.args.self.now))

pub returns-clause-long : goal.returns-clause-long
returns-clause-long c = rw c.in_ok-query.ensures.octets (query_long _ _ _)

pub returns-clause-short : goal.returns-clause-short
returns-clause-short c =
    rw c.in_ok-query.ensures.octets (query_short _ _ _ c.in_ok-query.ensures.name c.in_ok-query.ensures.held
    (rw c.soa_asked-held.ensures (asks_soa (transfer_for c.args.self.now))))

pub returns-clause-additional : goal.returns-clause-additional
returns-clause-additional c = rw c.in_ok-query.ensures.octets (query_none _ _ _ c.id-id.type_inv)
