use Rattle.std.proofs.Common.{◌∙◌}
use Rattle.dz_gen.proofs.SpelledLemmas.{mail_text}
use Rattle.dz_gen.proofs.records.mail.Goals as goal

pub named-owner-requires : goal.named-owner-requires
named-owner-requires c =
    rw (c.as_slice.ensures.value ∙ c.in_ok-numbered.ensures) (mail_text c.args.k c.requires.some c.requires.few)
