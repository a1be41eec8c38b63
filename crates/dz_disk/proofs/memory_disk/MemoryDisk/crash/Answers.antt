use Rattle.std.proofs.Common.{sym, subst}
use Rattle.dz_disk.specs.MemoryDisk.{state, state_of, MayLeave}
use Rattle.dz_disk.specs.inner.Left.{told_left}
use Rattle.dz_disk.proofs.memory_disk.MemoryDisk.crash.Goals as goal

pub returns-in-All : goal.returns-in-All
returns-in-All c =
    let here = subst (λ l. MayLeave (state c.self.inside.origin.items c.self.inside.acts.items) l)
    (sym c.self.invariant.octets_are) (told_left
    (record {
      begun = c.self.inside.origin.items;
      acts = c.self.inside.acts.items;
      calls = record {
        count =
            c.self.inside.count;
        failing = c.self.inside.failing.items;
        faults = c.self.inside.faults;
      };
    })) in
    subst (λ d. MayLeave (state_of d) c.self.inside.octets.items) c.self.view_is here
