use Rattle.std.proofs.Common.{length, ◌-◌, ◌≡◌, ◌+◌, ◌<◌, ◌≤◌, ◌*◌}
use Rattle.dz_name.specs.Name.{wire_of}
use Rattle.dz_name.specs.Reading.{Reading, Reads}
use Rattle.dz_name.specs.inner.Landings.{EndsChains}
use Rattle.dz_name.proofs.ReadingLemmas.{in_front}
use Rattle.dz_name.proofs.LandingLemmas.{TakesUpTo}
use Rattle.dz_name.proofs.wire_fault.read_name.Given as goal

-- whatever the rest reads as, the whole reads as that preceded by the labels so far
abbrev pub invariant-octets : goal.invariant-octets
invariant-octets g l = record {
  wire : length (wire_of l.name) ≡ l.used + 1;
  short : l.used < 255;
  before : l.piece ≤ l.offset;
  read : (rest : Reading) → Reads l.message l.piece l.used l.offset rest
      → Reads l.message l.fn.at 0 l.fn.at (in_front l.name l.behind rest);
  least : l.fn.steps + length l.name ≤ l.steps;
  most : EndsChains l.message l.landings → TakesUpTo l.message l.piece l.offset l.used (l.steps - l.fn.steps);
}

-- a label makes the name longer, and a pointer leads to an earlier piece
abbrev pub decreases-octets : goal.decreases-octets
decreases-octets g l = l.piece * 256 + (255 - l.used)
