use Rattle.dz_gen.proofs.MadeLemmas.{query_fits}
use Rattle.dz_gen.proofs.messages.query.Goals as goal

pub message-requires : goal.message-requires
message-requires c =
    rw (c.in_ok-question.ensures, c.new.ensures.items) (query_fits c.args.id c.args.name.now c.requires)
