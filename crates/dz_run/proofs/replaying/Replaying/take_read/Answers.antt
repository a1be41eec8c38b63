use Rattle.std.proofs.Common.{refl}
use Rattle.dz_run.proofs.KeptLemmas.{turned_silently, skip_turn}
use Rattle.dz_run.proofs.replaying.Replaying.take_read.Goals as goal

pub returns-in-Skip : goal.returns-in-Skip
returns-in-Skip g c = rw c.in-Skip.is (turned_silently c.args.self.now c.args.self.now _
    (skip_turn c.args.self.now.state c.args.number) refl refl c.requires.goes)
