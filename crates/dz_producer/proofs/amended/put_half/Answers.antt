use Rattle.std.proofs.Common.{◌∙◌}
use Rattle.dz_producer.proofs.SpelledLemmas.{half_put}
use Rattle.dz_producer.proofs.amended.put_half.Goals as goal

pub returns : goal.returns
returns c apex serial all is =
    half_put apex serial all c.args.catalog.now c.to_name.result c.args.nodes.now c.digest_in.result.now
    c.in_ok-share.field-0 c.args.out.now.items c.put_nodes.new.out.items c.push.new.self.items is
    (c.to_name.ensures ∙ c.apex.ensures) c.in_ok-put_nodes.ensures.records
    (c.digest_in.ensures apex serial all is) c.in_ok-share.ensures c.in_ok-push.ensures.items
