use Rattle.std.proofs.Common.{refl}
use Rattle.dz_reply.specs.Layout.{entries}
use Rattle.dz_reply.proofs.signed.beside.Goals as goal

pub returns-then-signing : goal.returns-then-signing
unfolding entries
returns-then-signing c owner = rw c.if-signing.true refl
