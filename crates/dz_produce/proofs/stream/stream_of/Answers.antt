use Rattle.std.proofs.Common.{◌∙◌}
use Rattle.dz_produce.proofs.StreamLemmas.{all_fit}
use Rattle.dz_produce.proofs.stream.stream_of.Goals as goal

pub pack-requires : goal.pack-requires
pack-requires c =
    all_fit c.args.version.now c.requires c.as_slice.result.now (c.as_slice.ensures.value ∙ c.in_ok-records.ensures)
