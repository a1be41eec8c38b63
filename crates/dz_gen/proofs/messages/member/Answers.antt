use Rattle.dz_gen.proofs.SpelledLemmas.{node_text}
use Rattle.dz_gen.proofs.messages.member.Goals as goal

pub node-requires-clause-owner : goal.node-requires-clause-owner
node-requires-clause-owner c = node_text c.args.k c.requires.some c.requires.few
