use Rattle.dz_xfr.specs.Apex.{held_serial}
use Rattle.dz_producer.specs.Amended.{listed}
use Rattle.dz_producer.specs.Records.{soa}
use Rattle.dz_producer.specs.inner.Changes.{half_of}
use Rattle.dz_producer.specs.inner.Nodes.{values}
use Rattle.dz_producer.proofs.SpelledLemmas.{spelled_put}
use Rattle.dz_producer.proofs.amended.difference.Goals as goal

pub returns : goal.returns
returns c serial nodes is =
    let old = c.args.old.now in
    let made = c.requires.old.made in
    spelled_put (soa old.apex serial) (soa old.apex (held_serial old))
    (half_of old.apex (held_serial old) (listed old) (values c.args.gone.now)) (half_of old.apex serial nodes
    (values c.args.added.now)) c.new-records.result.items c.put_soa.new.out.items c.put_soa-2.new.out.items
    c.put_half.new.out.items c.put_soa-3.new.out.items c.put_half-2.new.out.items c.put_soa-4.new.out.items
    c.new-records.ensures.items (c.in_ok-put_soa.ensures old.apex serial nodes is)
    (c.in_ok-put_soa-2.ensures old.apex (held_serial old) (listed old) made)
    (c.in_ok-put_half.ensures old.apex (held_serial old) (listed old) made)
    (c.in_ok-put_soa-3.ensures old.apex serial nodes is) (c.in_ok-put_half-2.ensures old.apex serial nodes is)
    (c.in_ok-put_soa-4.ensures old.apex serial nodes is)
