-- The link of a fetch.
use Rattle.std.proofs.Common.{ℕ, [], take, length, Option, Some, refl, arith}
use Rattle.std.proofs.Math.Seq.{take-length}
use Rattle.dz_name.specs.Words.{Octets}
use Rattle.dz_io.specs.Device.{Gains, GainsPrefix, Tells}
use Rattle.dz_io.specs.Links.{dialled}
use Rattle.dz_job.specs.Job.{JobOf}
use Rattle.dz_fetch.specs.Fetching.{IsTaken, IsDialledFor, IsFetched}
use Rattle.dz_fetch.specs.Query.{query_of}
use Rattle.dz_fetch.specs.inner.Frames.{IsAsked}
use Rattle.dz_fetch.specs.declared.fetched.Fetched.{Fetched}
use Rattle.dz_fetch.specs.declared.fetched.Fetched.TheVariants as fetched
use Rattle.dz_fetch.proofs.GainLemmas.{gains_none, tells_gained}

-- nothing of a query was written, and all of it
pub none_written : (query : Octets) (held : Option Octets) → GainsPrefix query held held
none_written query held = (0, omega arith, gains_none held)

pub all_written : (query : Octets) (before after : Option Octets) → Gains query before after
    → GainsPrefix query before after
all_written query before after gained = (length query, omega arith, rw (take-length query) gained)

-- it was written before the transfer was read, whatever came of that
pub asked_by : (result : Fetched) (query : Octets) (before after : Option Octets) → Gains query before after
    → IsAsked result query before after
asked_by (fetched.Finished read) query before after gained = gained
asked_by fetched.LinkFault query before after gained = all_written query before after gained
asked_by fetched.OutOfMemory query before after gained = all_written query before after gained

-- the link that was asked and read goes to the primary
pub fetched_over : (result : Fetched) (job : JobOf) (held0 held1 given0 given1 left : Option Octets) (faults : ℕ)
    → Tells [] held0 → Tells [] given0 → IsAsked result (query_of job) held0 held1
    → IsTaken result job given0 given1 left
    → IsFetched result job (Some (dialled job.flight.primary given1 left held1 faults))
fetched_over (fetched.Finished read) job held0 held1 given0 given1 left faults unwritten unread asked taken = (
  refl,
  record {
    asked = tells_gained (query_of job) held0 held1 unwritten asked;
    given = taken.given;
    gave = tells_gained taken.given given0 given1 unread taken.gains;
    is = taken.is;
  },
)
fetched_over fetched.LinkFault job held0 held1 given0 given1 left faults unwritten unread asked taken =
    record {
      peer = refl;
      written = (asked.0, tells_gained (take asked.0 (query_of job)) held0 held1 unwritten asked.2);
    }
fetched_over fetched.OutOfMemory job held0 held1 given0 given1 left faults unwritten unread asked taken =
    record {
      peer = refl;
      written = (asked.0, tells_gained (take asked.0 (query_of job)) held0 held1 unwritten asked.2);
    }
