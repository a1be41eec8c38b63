-- The front of what was left joins what was given.
use Rattle.std.proofs.Common.{ap, sym}
use Rattle.dz_io.specs.Memory.{TapeOf}
use Rattle.dz_io.proofs.TapeLemmas.{split_at, join_at}
use Rattle.dz_io.proofs.tape.Tape.read.Goals as goal

pub returns-clause-given : goal.returns-clause-given
returns-clause-given c = join_at c.args.self.now.given c.self.inside.octets.items
    c.deref.result.now _ c.self.inside.at c.move_front-count.result
    (sym (ap (λ (t : TapeOf). t.given) c.self.view_is)) c.deref.ensures.value c.move_front-count.ensures.front

pub returns-clause-left : goal.returns-clause-left
returns-clause-left c = split_at c.args.self.now.left c.self.inside.octets.items
    c.deref.result.now _ c.self.inside.at c.move_front-count.result
    (sym (ap (λ (t : TapeOf). t.left) c.self.view_is)) c.deref.ensures.value c.move_front-count.ensures.front
