use Rattle.dz_gen.proofs.MadeLemmas.{member_fits}
use Rattle.dz_gen.proofs.messages.catalog_member.Goals as goal

pub response-requires : goal.response-requires
response-requires c =
    rw (c.new.ensures.items, c.in_ok-answers.ensures) (member_fits c.args.k c.requires.some c.requires.few)
