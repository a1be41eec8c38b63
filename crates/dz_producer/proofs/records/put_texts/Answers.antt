use Rattle.dz_producer.proofs.MakingLemmas.{text_is, string_short, item_passes}
use Rattle.dz_producer.specs.Faults.{is_string}
use Rattle.dz_producer.proofs.records.put_texts.Goals as goal

pub uncached-requires-clause-rdata : goal.uncached-requires-clause-rdata
uncached-requires-clause-rdata c =
    rw c.as_slice.ensures.octets
    (text_is c.text-item.result
    (string_short c.text-item.result (item_passes is_string c.args.texts.now c.texts.text-index c.text-item.result
    c.requires c.texts-test.true c.text-item.is) c.as_slice.ensures.below))
