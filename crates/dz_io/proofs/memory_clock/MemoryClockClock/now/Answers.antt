-- The moment joins those that were given.
use Rattle.dz_io.proofs.ClockLemmas.{gives_next}
use Rattle.dz_io.proofs.memory_clock.MemoryClockClock.now.Goals as goal

pub returns-clause-given : goal.returns-clause-given
returns-clause-given c = rw (c.next.ensures.moment, c.next.ensures.count) (gives_next c.args.self.now)
