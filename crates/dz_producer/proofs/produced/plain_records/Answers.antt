use Rattle.dz_producer.proofs.PutLemmas.{plain_put}
use Rattle.dz_producer.proofs.produced.plain_records.Goals as goal

pub returns-clause-records : goal.returns-clause-records
returns-clause-records c =
    plain_put c.args.apex.now c.args.serial c.args.nodes.now c.in_ok-soa.field-0 c.in_ok-name_server.field-0
    c.in_ok-version_property.field-0 c.new-records.result.items c.push.new.self.items c.push-2.new.self.items
    c.push-3.new.self.items c.put_nodes.new.out.items
    c.in_ok-soa.ensures c.in_ok-name_server.ensures c.in_ok-version_property.ensures c.new-records.ensures.items
    c.in_ok-push.ensures.items c.in_ok-push-2.ensures.items c.in_ok-push-3.ensures.items
    c.in_ok-put_nodes.ensures.records
