-- Meaning: the query of a job as it is sent, over TCP after its length (RFC 1035 section 4.2.2), and signed where the
-- job has a key (RFC 8945 section 5.1).
use Rattle.std.specs.Prelude.{ℕ, Option, Some, None}
use Rattle.dz_name.specs.Words.{Octets}
use Rattle.dz_message.specs.Frame.{frame}
use Rattle.dz_settings.specs.declared.key.Key.{Key}
use Rattle.dz_tsig.specs.Signing.{signed}
use Rattle.dz_take.specs.Query.{asked_octets}
use Rattle.dz_job.specs.Job.{JobOf, transfer_for}

-- a query at a moment, signed where there is a key (RFC 8945 section 5.1)
abbrev pub sent_to : Option Key → Octets → ℕ → Octets
sent_to None query moment = query
sent_to (Some key) query moment = signed key query moment

-- the query of a job as it is sent: after its length, and signed at the job's moment where it has a key
abbrev pub query_of : JobOf → Octets
query_of job = frame (sent_to job.key (asked_octets (transfer_for job)) job.flight.moment)
