use Rattle.std.proofs.Common.{◌≡◌, ◌∷◌, ◌∙◌, rules}
use Rattle.std.specs.Prelude.{codes}
use Rattle.dz_gen.proofs.MadeLemmas.{group_text_is}
use Rattle.dz_gen.proofs.SpelledLemmas.{group_text}
use Rattle.dz_gen.proofs.records.group.Goals as goal

pub named-owner-requires : goal.named-owner-requires
named-owner-requires c =
    rw (c.as_slice.ensures.value ∙ c.in_ok-numbered.ensures) (group_text c.args.k c.requires.some c.requires.few)

pub hourly-requires-clause-rdata : goal.hourly-requires-clause-rdata
hourly-requires-clause-rdata c =
    let is : c.in_ok-to_vec.field-0.items ≡ 6 ∷ codes "strict" = search rules in
    rw is group_text_is
