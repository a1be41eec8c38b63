use Rattle.dz_producer.proofs.SpelledLemmas.{soa_put}
use Rattle.dz_producer.proofs.amended.put_soa.Goals as goal

pub returns : goal.returns
returns c apex serial nodes is =
    soa_put apex serial nodes c.args.catalog.now c.apex_soa.result.now c.in_ok-share.field-0 c.args.out.now.items
    c.push.new.self.items is c.apex_soa.ensures.soa c.in_ok-share.ensures c.in_ok-push.ensures.items
