use Rattle.std.proofs.Common.{◌∙◌}
use Rattle.dz_gen.proofs.SpelledLemmas.{www_text}
use Rattle.dz_gen.proofs.records.www.Goals as goal

pub named-requires : goal.named-requires
named-requires c =
    rw (c.as_slice.ensures.value ∙ c.in_ok-numbered.ensures) (www_text c.args.k c.requires.some c.requires.few)
