use Rattle.std.proofs.Common.{◌∙◌}
use Rattle.dz_gen.proofs.SpelledLemmas.{zone_text}
use Rattle.dz_gen.proofs.records.zone.Goals as goal

pub named-requires : goal.named-requires
named-requires c =
    rw (c.as_slice.ensures.value ∙ c.in_ok-numbered.ensures) (zone_text c.args.k c.requires.some c.requires.few)
