use Rattle.std.proofs.Common.{length}
use Rattle.dz_request.specs.Frame.{is_tcp, query_of}
use Rattle.dz_reply.specs.Layout.{entries_octets}
use Rattle.dz_reply.specs.Answer.{glue}
use Rattle.dz_reply.proofs.AdditionalLemmas.{additional_written}
use Rattle.dz_reply.proofs.answer.put_additional.Goals as goal

pub returns : goal.returns
returns c = λ heading front is.
    let frame = c.args.answer.now.frame.now in
    let query = query_of frame.request.now frame.asked.now in
    let records = glue c.args.answer.now.version.now c.args.servers.now in
    additional_written (is_tcp frame.transport) query heading front (entries_octets query.name records)
    c.put_glue-count.result (length records) _ _ _ is c.put_glue-count.ensures.written c.put_glue-count.ensures.count
    c.count_additional.ensures
